use Rattle.std.proofs.Common.{◌≡◌}
use Rattle.tree_pairs.specs.Reach.{tree_of, classes_of, key_of}
use Rattle.tree_search.specs.Search.{from_of}
use Rattle.tree_table.specs.Seek.{left}
use Rattle.tree_pairs.specs.Marks.{Marked}
use Rattle.tree_search.specs.Mates.{Chasing}
use Rattle.tree_search.proofs.mates.mate_from.Given as goal

abbrev pub invariant-loop-y : goal.invariant-loop-y
invariant-loop-y l = Chasing (classes_of l.targets.reach) (tree_of l.targets.reach) (key_of l.targets.reach) l.targets.sorted.now.top (from_of l.targets) l.targets.sorted.now.number l.mated.a l.number l.mated.least l.best l.y
    × Marked (tree_of l.targets.reach) l.targets.reach.rows.now.family (key_of l.targets.reach).paths l.memo.marks × (l.memo.seen ≡ l.initial.memo.seen)

abbrev pub decreases-loop-y : goal.decreases-loop-y
decreases-loop-y l = left (tree_of l.targets.reach).size l.y
