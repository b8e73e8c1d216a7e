-- A tree with its rows, in one value.
use Rattle.std.specs.Prelude.{ℕ}
use Rattle.meaning.specs.Paths.{Class}
use Rattle.meaning.specs.Trees.{Table}
use Rattle.tree_table.specs.FileTable.{file_table, class_by}
use Rattle.tree_rows.specs.Prepared.{Prepared}
use Rattle.tree_rows.specs.declared.indexed.Indexed.{Indexed}

abbrev pub table_in : Indexed → Table
table_in indexed = file_table indexed.tree.now

abbrev pub classes_in : Indexed → ℕ → Class
classes_in indexed = class_by indexed.classes.now

-- The rows are the tree's
abbrev pub Ready : Indexed → Type 0
Ready indexed = Prepared indexed.classes.now indexed.tree.now indexed.rows.now
