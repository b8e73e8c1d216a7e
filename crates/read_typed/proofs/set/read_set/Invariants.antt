use Rattle.std.proofs.Common.{map}
use Rattle.read_entry.specs.Labels.{labels_at}
use Rattle.read_typed.specs.Texts.{text_at}
use Rattle.read_typed.specs.Gathering.{SetHolds}
use Rattle.read_typed.proofs.set.read_set.Given as goal

abbrev pub invariant-loop-place : goal.invariant-loop-place
invariant-loop-place l = SetHolds (labels_at l.number l.labels) l.classes (map (λ p. text_at p.0 p.1.now) l.yielded) l.out l.set
