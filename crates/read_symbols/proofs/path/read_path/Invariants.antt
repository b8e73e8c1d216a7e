use Rattle.std.proofs.Common.{map}
use Rattle.read_entry.specs.Labels.{labels_at}
use Rattle.read_symbols.specs.Scanning.{Scanning}
use Rattle.read_symbols.proofs.path.read_path.Given as goal

abbrev pub invariant-loop-piece : goal.invariant-loop-piece
invariant-loop-piece l = Scanning (labels_at l.number l.labels) (map (λ x. x.now) l.yielded) l.path
