use Rattle.tree_contexts.specs.Rooted.{Rooted}
use Rattle.tree_contexts.proofs.root_alone.Given as goal

abbrev pub invariant-loop-v : goal.invariant-loop-v
invariant-loop-v l = Rooted l.table l.v
