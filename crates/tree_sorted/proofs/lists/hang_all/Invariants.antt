use Rattle.std.proofs.Common.{◌≡◌, length}
use Rattle.meaning.specs.Records.{key_in}
use Rattle.tree_table.specs.FileTable.{file_table}
use Rattle.tree_sorted.specs.Stores.{HungTo}
use Rattle.tree_sorted.proofs.lists.hang_all.Given as goal

abbrev pub invariant-loop-i : goal.invariant-loop-i
invariant-loop-i l = (length l.hung ≡ 4) × HungTo (file_table l.tree) (key_in l.body).paths l.hung l.i
