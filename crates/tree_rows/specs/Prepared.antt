-- The rows of a tree, which serve every key: parents, labels, child links, families, and the next node of each family.
use Rattle.std.specs.Prelude.{ℕ, ◌<◌, ◌≡◌, List, get_or}
use Rattle.tree_table.specs.FileTable.{file_table, class_by, TreeBytes}
use Rattle.tree_table.specs.Links.{Linked, Nexts}
use Rattle.tree_rows.specs.declared.rows.Rows.{Rows}
use Rattle.tree_rows.specs.Families.{Families, Smallest}
use Rattle.tree_rows.specs.Chain.{by_family}

pub record Prepared (classes bytes : List ℕ) (rows : Rows) : Type 0 where
  pub tree : TreeBytes classes bytes
  pub parents : (v : ℕ) → v < (file_table bytes).size → get_or rows.parent v 0 ≡ (file_table bytes).parent v
  pub labels : (v : ℕ) → v < (file_table bytes).size → get_or rows.label v 0 ≡ (file_table bytes).label v
  pub links : Linked (file_table bytes) rows.first rows.next
  pub families : Families (class_by classes) (file_table bytes) rows.family
  pub smallest : Smallest (class_by classes) (file_table bytes) rows.family
  pub chained : Nexts (by_family (file_table bytes).size rows.family) rows.same
