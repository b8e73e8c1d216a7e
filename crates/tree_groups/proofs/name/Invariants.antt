use Rattle.tree_groups.specs.InRows.{Naming}
use Rattle.tree_groups.proofs.name.Given as goal

abbrev pub invariant-loop-x : goal.invariant-loop-x
invariant-loop-x l = Naming l.low l.initial.family l.family l.x
