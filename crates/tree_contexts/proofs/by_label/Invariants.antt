use Rattle.std.proofs.Common.{◌∷◌, []}
use Rattle.tree_rows.specs.Indexed.{table_in}
use Rattle.tree_contexts.specs.Least.{LeastAt}
use Rattle.tree_contexts.specs.Turned.{TurnedFrom}
use Rattle.tree_contexts.proofs.by_label.Given as goal

abbrev pub invariant-loop-v : goal.invariant-loop-v
invariant-loop-v l = TurnedFrom (LeastAt (table_in l.indexed) (l.symbol ∷ []) l.initial.table) l.initial.table l.table (table_in l.indexed).size l.v
