use Rattle.tree_table.specs.FileTable.{file_table, class_by}
use Rattle.tree_table.specs.Seek.{left}
use Rattle.tree_equal.specs.Marks.{Clean}
use Rattle.tree_groups.specs.Leaders.{Seeking}
use Rattle.tree_groups.proofs.leader.Given as goal

abbrev pub invariant-loop-y : goal.invariant-loop-y
invariant-loop-y l = Seeking (class_by l.known.classes.now) (file_table l.known.tree.now) l.bucket l.x l.y × Clean l.marks

abbrev pub decreases-loop-y : goal.decreases-loop-y
decreases-loop-y l = left (file_table l.known.tree.now).size l.y
