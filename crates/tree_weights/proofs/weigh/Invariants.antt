use Rattle.std.proofs.Common.{◌≡◌, ◌<◌, length}
use Rattle.tree_table.specs.FileTable.{file_table, class_by}
use Rattle.tree_weights.specs.Weights.{WeighedFrom}
use Rattle.tree_weights.proofs.weigh.Given as goal

abbrev pub invariant-loop-i : goal.invariant-loop-i
invariant-loop-i l = (0 < l.i) × (length l.weight ≡ 4096) × (length l.sums ≡ 4096) × (length l.orders ≡ 4096)
    × WeighedFrom (class_by l.classes) (file_table l.tree) l.i l.weight l.sums l.orders
