use Rattle.std.proofs.Common.{◌≡◌, ◌+◌, ◌-◌, ◌*◌, ◌≤◌, length}
use Rattle.tree_table.specs.FileTable.{file_table, class_by}
use Rattle.write_bytes.specs.Wrote.{Wrote}
use Rattle.write_listing.specs.Blocks.{shown}
use Rattle.write_listing.proofs.put_block.Given as goal

abbrev pub invariant-loop-i : goal.invariant-loop-i
invariant-loop-i l = (l.start ≤ l.i) × (l.i ≤ l.start + 1024) × (l.at ≤ 44 * (l.i - l.start)) × (length l.out ≡ length l.initial.out)
    × Wrote l.initial.out l.out 0 (shown (class_by l.classes) (file_table l.tree) l.start l.i) l.at
