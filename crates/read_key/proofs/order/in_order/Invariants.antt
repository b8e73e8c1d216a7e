use Rattle.std.proofs.Common.{◌≡◌, ◌∷◌}
use Rattle.meaning.specs.Lists.{ascending}
use Rattle.read_record.specs.Seen.{seen}
use Rattle.read_key.proofs.order.in_order.Given as goal

abbrev pub invariant-loop-path : goal.invariant-loop-path
invariant-loop-path l = ascending (l.last ∷ l.path-iterator) ≡ ascending (seen l.key).paths
