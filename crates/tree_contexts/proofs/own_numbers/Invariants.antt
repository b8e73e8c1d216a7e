use Rattle.tree_contexts.specs.Rooted.{Owned}
use Rattle.tree_contexts.specs.Turned.{TurnedTo}
use Rattle.tree_contexts.proofs.own_numbers.Given as goal

abbrev pub invariant-loop-v : goal.invariant-loop-v
invariant-loop-v l = TurnedTo (Owned l.initial.table) l.initial.table l.table l.v
