use Rattle.std.proofs.Common.{take}
use Rattle.tree_rows.specs.Indexed.{table_in}
use Rattle.tree_contexts.specs.Least.{Least}
use Rattle.tree_contexts.proofs.hand_down.Given as goal

abbrev pub invariant-loop-symbol : goal.invariant-loop-symbol
invariant-loop-symbol l = Least (table_in l.indexed) (take l.symbol-index l.path) l.initial.table l.table
