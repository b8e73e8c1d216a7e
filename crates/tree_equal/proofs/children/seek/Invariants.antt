use Rattle.tree_table.specs.FileTable.{file_table, class_by}
use Rattle.tree_table.specs.Seek.{Passed, left}
use Rattle.tree_equal.proofs.children.seek.Given as goal

abbrev pub invariant-loop-at_node : goal.invariant-loop-at_node
invariant-loop-at_node l = Passed (class_by l.known.classes.now) (file_table l.known.tree.now) l.attribute l.i l.at_node

abbrev pub decreases-loop-at_node : goal.decreases-loop-at_node
decreases-loop-at_node l = left (file_table l.known.tree.now).size l.at_node
