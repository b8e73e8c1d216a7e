use Rattle.tree_table.specs.FileTable.{file_table, class_by}
use Rattle.tree_table.specs.Seek.{left}
use Rattle.tree_equal.specs.Marks.{Pairing}
use Rattle.tree_equal.proofs.attributes.pair_off.Given as goal

abbrev pub invariant-loop-i : goal.invariant-loop-i
invariant-loop-i l = Pairing (class_by l.known.classes.now) (file_table l.known.tree.now) l.known.rows.now.family l.x l.y l.i l.paired l.marks

abbrev pub decreases-loop-i : goal.decreases-loop-i
decreases-loop-i l = left (file_table l.known.tree.now).size l.i
