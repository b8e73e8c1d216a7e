use Rattle.std.proofs.Common.{get_or}
use Rattle.tree_pairs.specs.Reach.{tree_of}
use Rattle.tree_table.specs.Seek.{left}
use Rattle.tree_rows.specs.Hung.{none_hung}
use Rattle.tree_pairs.specs.Along.{Along}
use Rattle.tree_pairs.specs.Marks.{IsMarked}
use Rattle.tree_pairs.proofs.pairs.meets.Given as goal

abbrev pub invariant-loop-x : goal.invariant-loop-x
invariant-loop-x l = Along (tree_of l.reach).size (get_or l.reach.hung.now l.i none_hung).from (IsMarked l.reach.rows.now.family l.marks l.wanted) l.a l.x

abbrev pub decreases-loop-x : goal.decreases-loop-x
decreases-loop-x l = left (tree_of l.reach).size l.x
