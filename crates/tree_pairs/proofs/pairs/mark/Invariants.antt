use Rattle.std.proofs.Common.{get_or}
use Rattle.tree_pairs.specs.Reach.{tree_of, key_of}
use Rattle.tree_table.specs.Seek.{left}
use Rattle.tree_rows.specs.Hung.{none_hung}
use Rattle.tree_pairs.specs.Along.{Along}
use Rattle.tree_pairs.specs.Marks.{Marked, Unmarked}
use Rattle.tree_pairs.proofs.pairs.mark.Given as goal

abbrev pub invariant-loop-y : goal.invariant-loop-y
invariant-loop-y l = Marked (tree_of l.reach) l.reach.rows.now.family (key_of l.reach).paths l.marks
    × Along (tree_of l.reach).size (get_or l.reach.hung.now l.i none_hung).from (Unmarked l.reach.rows.now.family l.marks l.own) l.b l.y

abbrev pub decreases-loop-y : goal.decreases-loop-y
decreases-loop-y l = left (tree_of l.reach).size l.y
