use Rattle.tree_sorted.specs.Adopting.{SingleTo}
use Rattle.tree_sorted.proofs.groups.is_single.Given as goal

abbrev pub invariant-loop-a : goal.invariant-loop-a
invariant-loop-a l = SingleTo l.count l.list.from l.sorted.group l.list.first l.a
