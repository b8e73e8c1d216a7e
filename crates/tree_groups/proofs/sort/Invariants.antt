use Rattle.tree_groups.specs.Leaders.{Sorted}
use Rattle.tree_groups.proofs.sort.Given as goal

abbrev pub invariant-loop-x : goal.invariant-loop-x
invariant-loop-x l = Sorted l.weight l.bucket l.count l.x
