use Rattle.std.proofs.Common.{◌+◌, ◌-◌, ◌*◌, false}
use Rattle.tree_table.specs.FileTable.{file_table, class_by}
use Rattle.tree_table.specs.Seek.{left}
use Rattle.tree_equal.specs.Lists.{Compared}
use Rattle.tree_equal.specs.Marks.{Clean}
use Rattle.tree_equal.proofs.+children_eq_node_eq.Given as goal

abbrev pub decreases-children_eq : goal.decreases-children_eq
decreases-children_eq l = 2 * ((file_table l.known.now.tree.now).size - l.x)

abbrev pub decreases-node_eq : goal.decreases-node_eq
decreases-node_eq l = 2 * ((file_table l.known.now.tree.now).size - l.x) + 1

abbrev pub invariant-children_eq-loop-i : goal.invariant-children_eq-loop-i
invariant-children_eq-loop-i l = Compared (class_by l.known.classes.now) (file_table l.known.tree.now) false l.x l.y l.i l.j × Clean l.marks

abbrev pub decreases-children_eq-loop-i : goal.decreases-children_eq-loop-i
decreases-children_eq-loop-i l = left (file_table l.known.tree.now).size l.i
