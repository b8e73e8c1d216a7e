use Rattle.std.proofs.Common.{get_or, []}
use Rattle.tree_pairs.specs.Reach.{tree_of, key_of}
use Rattle.tree_table.specs.Seek.{left}
use Rattle.tree_rows.specs.Hung.{none_hung}
use Rattle.tree_pairs.specs.Along.{Along}
use Rattle.tree_witness.specs.Firsts.{Put, Bare}
use Rattle.tree_witness.proofs.put_firsts.Given as goal

abbrev pub invariant-loop-y : goal.invariant-loop-y
invariant-loop-y l = Put (tree_of l.reach) l.reach.rows.now.family (get_or (key_of l.reach).paths l.i []) l.b l.firsts
    × Along (tree_of l.reach).size (get_or l.reach.hung.now l.i none_hung).from (Bare l.reach.rows.now.family l.firsts) l.b l.y

abbrev pub decreases-loop-y : goal.decreases-loop-y
decreases-loop-y l = left (tree_of l.reach).size l.y
