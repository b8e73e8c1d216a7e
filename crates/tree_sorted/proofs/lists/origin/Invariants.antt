use Rattle.std.proofs.Common.{◌≡◌, ◌≤◌, ◌+◌, length, drop}
use Rattle.tree_table.specs.FileTable.{file_table}
use Rattle.tree_sorted.specs.Origin.{Climbed}
use Rattle.tree_sorted.proofs.lists.origin.Given as goal

abbrev pub invariant-loop-i : goal.invariant-loop-i
invariant-loop-i l = (length l.run ≡ 8) × (8 ≤ l.i + l.labels) × Climbed (file_table l.tree) l.x l.node (drop l.i l.run)
