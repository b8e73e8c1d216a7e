use Rattle.std.specs.Prelude.{length}
use Rattle.read_names.specs.Names.{Read}
use Rattle.read_names.proofs.name_count.Given as goal

abbrev pub invariant-loop-rest : goal.invariant-loop-rest
invariant-loop-rest l = Read l.list l.rest l.count

abbrev pub decreases-loop-rest : goal.decreases-loop-rest
decreases-loop-rest l = length l.rest
