use Rattle.std.proofs.Common.{get_or, []}
use Rattle.tree_pairs.specs.Reach.{tree_of, classes_of, key_of}
use Rattle.tree_search.specs.Search.{from_of}
use Rattle.tree_table.specs.Seek.{left}
use Rattle.tree_pairs.specs.Marks.{Marked}
use Rattle.tree_search.specs.Mates.{Mating, Seen}
use Rattle.tree_search.proofs.mates.mate_of.Given as goal

abbrev pub invariant-loop-x : goal.invariant-loop-x
invariant-loop-x l = Mating (classes_of l.targets.reach) (tree_of l.targets.reach) (key_of l.targets.reach) (get_or (key_of l.targets.reach).paths l.targets.pivot []) l.targets.sorted.now.top (from_of l.targets) l.targets.sorted.now.number l.a l.least l.x
    × Seen (classes_of l.targets.reach) (tree_of l.targets.reach) (key_of l.targets.reach) (from_of l.targets) l.targets.sorted.now.number l.a l.least l.memo.seen
    × Marked (tree_of l.targets.reach) l.targets.reach.rows.now.family (key_of l.targets.reach).paths l.memo.marks

abbrev pub decreases-loop-x : goal.decreases-loop-x
decreases-loop-x l = left (tree_of l.targets.reach).size l.x
