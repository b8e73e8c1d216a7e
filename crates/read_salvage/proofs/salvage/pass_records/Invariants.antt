use mathlib.Core.Path.{◌≡◌}
use lib.ListN.{length}
use Rattle.read_salvage.specs.Loop.{Loop}
use Rattle.read_salvage.proofs.salvage.pass_records.Given as goal

abbrev pub invariant-loop-rest : goal.invariant-loop-rest
invariant-loop-rest l = Loop l.second l.kind l.classes l.tree l.out l.places l.reasons l.nodes l.records l.rest × (length l.out ≡ length l.initial.out)

abbrev pub decreases-loop-rest : goal.decreases-loop-rest
decreases-loop-rest l = length l.rest
