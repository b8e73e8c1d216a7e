use Rattle.std.proofs.Common.{◌≡◌}
use Rattle.tree_pairs.specs.Reach.{tree_of, classes_of, key_of}
use Rattle.tree_pairs.specs.Marks.{Marked}
use Rattle.tree_pairs.specs.Pairs.{Agree}
use Rattle.tree_pairs.proofs.pairs.agree_all.Given as goal

abbrev pub invariant-loop-i : goal.invariant-loop-i
invariant-loop-i l = Marked (tree_of l.reach) l.reach.rows.now.family (key_of l.reach).paths l.memo.marks × (l.memo.seen ≡ l.initial.memo.seen)
    × Agree (classes_of l.reach) (tree_of l.reach) l.a l.b (key_of l.reach).paths l.i
