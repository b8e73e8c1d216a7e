use Rattle.std.proofs.Common.{◌≡◌}
use Rattle.std.specs.Prelude.{length}
use Rattle.tree_table.specs.FileTable.{file_table, class_by}
use Rattle.op_salvage_keys.specs.Broken.{KeysTold}
use Rattle.op_salvage_keys.proofs.put_broken_keys.Given as goal

abbrev pub invariant-loop-n : goal.invariant-loop-n
invariant-loop-n l =
    KeysTold (class_by l.classes) (file_table l.tree) l.part l.n l.initial.out l.out l.start l.initial.put.at l.initial.put.lines l.put.at l.put.lines
    × (length l.out ≡ length l.initial.out)
