use Rattle.tree_table.specs.FileTable.{file_table, class_by}
use Rattle.tree_table.specs.Seek.{left}
use Rattle.tree_equal.specs.Marks.{Marking}
use Rattle.tree_equal.proofs.attributes.mark.Given as goal

abbrev pub invariant-loop-k : goal.invariant-loop-k
invariant-loop-k l = Marking (class_by l.known.classes.now) (file_table l.known.tree.now) l.known.rows.now.family l.v l.k l.found l.marks

abbrev pub decreases-loop-k : goal.decreases-loop-k
decreases-loop-k l = left (file_table l.known.tree.now).size l.k
