-- An accepted tree with its child links: what every function over the tables asks for.
use Rattle.std.specs.Prelude.{ℕ, List}
use Rattle.meaning.specs.Trees.{IsTree}
use Rattle.theory_trees.specs.Below.{ParentsSmaller}
use Rattle.tree_table.specs.FileTable.{file_table, class_by, TreeBytes}
use Rattle.tree_table.specs.Links.{Linked}

pub record LinkedTree (classes bytes first next : List ℕ) : Type 0 where
  pub tree : TreeBytes classes bytes
  pub links : Linked (file_table bytes) first next

pub parents_smaller : {classes bytes : List ℕ} → TreeBytes classes bytes → ParentsSmaller (file_table bytes)
unfolding ParentsSmaller
parents_smaller t = t.above

pub bytes_tree : {classes bytes : List ℕ} → TreeBytes classes bytes → IsTree (class_by classes) (file_table bytes)
bytes_tree t =
    record {
      some = t.some;
      root = t.root;
      rest = λ n p h. record { above = t.above n p h; inside = t.inside n p h; not_root = t.not_root n p h };
    }
