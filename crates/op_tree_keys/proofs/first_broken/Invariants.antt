use Rattle.tree_table.specs.FileTable.{file_table, class_by}
use Rattle.op_tree_keys.specs.ProfileKeys.{KeptBelow}
use Rattle.op_tree_keys.proofs.first_broken.Given as goal

abbrev pub invariant-loop-n : goal.invariant-loop-n
invariant-loop-n l = KeptBelow (class_by l.classes) (file_table l.tree) l.part l.n
