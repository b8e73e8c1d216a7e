-- What is known of a tree while its families are sought: its child links, and the families of the nodes from a number on.
use Rattle.std.specs.Prelude.{ℕ, List}
use Rattle.tree_table.specs.FileTable.{file_table, class_by}
use Rattle.tree_table.specs.LinkedTree.{LinkedTree}
use Rattle.tree_rows.specs.declared.rows.Rows.{Rows}
use Rattle.tree_rows.specs.Families.{FamiliesFrom}

pub record KnownFrom (classes tree : List ℕ) (rows : Rows) (from : ℕ) : Type 0 where
  pub linked : LinkedTree classes tree rows.first rows.next
  pub families : FamiliesFrom (class_by classes) (file_table tree) rows.family from
