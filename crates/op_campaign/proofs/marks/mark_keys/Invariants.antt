use Rattle.tree_table.specs.FileTable.{file_table, class_by}
use Rattle.op_campaign.specs.Marks.{Marked}
use Rattle.op_campaign.proofs.marks.mark_keys.Given as goal

abbrev pub invariant-loop-n : goal.invariant-loop-n
invariant-loop-n l = Marked (class_by l.classes) (file_table l.tree) l.part l.n l.breaks
