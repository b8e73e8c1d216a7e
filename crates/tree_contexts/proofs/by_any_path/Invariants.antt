use Rattle.std.proofs.Common.{◌∷◌, []}
use Rattle.tree_rows.specs.Indexed.{table_in}
use Rattle.tree_contexts.specs.Least.{LeastAt}
use Rattle.tree_contexts.specs.Turned.{TurnedTo}
use Rattle.tree_contexts.proofs.by_any_path.Given as goal

abbrev pub invariant-loop-v : goal.invariant-loop-v
invariant-loop-v l = TurnedTo (LeastAt (table_in l.indexed) (0 ∷ []) l.initial.table) l.initial.table l.table l.v
