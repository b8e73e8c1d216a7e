-- The tree and the key of what its key paths reach.
use Rattle.std.specs.Prelude.{ℕ}
use Rattle.meaning.specs.Paths.{Class}
use Rattle.meaning.specs.Trees.{Table}
use Rattle.meaning.specs.Keys.{Key}
use Rattle.meaning.specs.Records.{key_in}
use Rattle.tree_table.specs.FileTable.{file_table, class_by}
use Rattle.tree_pairs.specs.Marks.{Hanging}
use Rattle.tree_pairs.specs.declared.reach.Reach.{Reach}

abbrev pub tree_of : Reach → Table
tree_of reach = file_table reach.tree.now

abbrev pub classes_of : Reach → ℕ → Class
classes_of reach = class_by reach.classes.now

abbrev pub key_of : Reach → Key
key_of reach = key_in reach.body.now

-- The rows are the tree's, and the lists the key's
abbrev pub Hangs : Reach → Type 0
Hangs reach = Hanging reach.classes.now reach.tree.now reach.rows.now reach.hung.now reach.body.now
