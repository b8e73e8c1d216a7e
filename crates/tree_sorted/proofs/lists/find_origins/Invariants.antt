use Rattle.std.proofs.Common.{◌≡◌, length}
use Rattle.tree_table.specs.FileTable.{file_table}
use Rattle.tree_sorted.specs.Stores.{OriginsTo}
use Rattle.tree_sorted.proofs.lists.find_origins.Given as goal

abbrev pub invariant-loop-x : goal.invariant-loop-x
invariant-loop-x l = (length l.list.from ≡ 4096) × (length l.list.first ≡ 4096) × OriginsTo (file_table l.tree) l.path l.list.from l.list.first l.x
