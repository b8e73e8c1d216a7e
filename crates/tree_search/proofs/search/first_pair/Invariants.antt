use Rattle.tree_pairs.specs.Reach.{tree_of, classes_of, key_of}
use Rattle.tree_pairs.specs.Marks.{Marked}
use Rattle.tree_search.specs.Best.{BestBy}
use Rattle.tree_search.specs.Mates.{Lower}
use Rattle.tree_search.proofs.search.first_pair.Given as goal

abbrev pub invariant-loop-a : goal.invariant-loop-a
invariant-loop-a l = BestBy (classes_of l.targets.reach) (tree_of l.targets.reach) (key_of l.targets.reach) l.targets.sorted.now.top l.a l.best l.found
    × Marked (tree_of l.targets.reach) l.targets.reach.rows.now.family (key_of l.targets.reach).paths l.memo.marks × Lower (tree_of l.targets.reach) l.memo.seen l.a
