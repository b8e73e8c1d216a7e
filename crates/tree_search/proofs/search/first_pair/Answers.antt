use Rattle.std.proofs.Common.{◌<◌, arith}
use Rattle.tree_pairs.specs.Reach.{tree_of}
use Rattle.tree_table.specs.LinkedTree.{bytes_tree}
use Rattle.tree_search.specs.Best.{by_later, by_unmated, by_better, by_all}
use Rattle.tree_search.specs.Mates.{lower_more}
use Rattle.tree_search.proofs.search.first_pair.Goals.{then-own-best+in-Some, then-own-best+in_default, else-own-best}
use Rattle.tree_search.proofs.search.first_pair.Goals as goal

pub loop-a-preserved : goal.loop-a-preserved
loop-a-preserved c =
    let s = c.requires.searchable in
    let d = s.hanging.prepared.tree in
    let v = c.loop-a.invariant in
    let e = c.size-a-end.ensures in
    let h : c.loop-a.a < (tree_of c.args.targets.now.reach).size = (let t = c.loop-a-test.true in omega arith) in
    elim c.if-own-best.branch [
      | then-own-best+in-Some w ↦ rw w.memo-is (rw w.best-is (rw w.found-is (
        by_better _ _ _ _ (bytes_tree d) d.few s.highest _ _ _ _ _ h c.from-own.ensures w.if-own-best.true w.in-Some.ensures.1 w.in-Some.ensures.0 v.0,
        w.in-Some.ensures.2,
        w.in-Some.ensures.3,
      )))
      | then-own-best+in_default w ↦ rw w.memo-is (rw w.best-is (rw w.found-is (
        by_unmated _ _ _ _ (bytes_tree d) d.few s.highest _ _ _ _ h (omega arith) w.in_default.ensures.0 v.0,
        w.in_default.ensures.2,
        w.in_default.ensures.3,
      )))
      | else-own-best w ↦ rw w.memo-is (rw w.best-is (rw w.found-is (
        by_later _ _ _ _ (bytes_tree d) d.few s.highest _ _ _ _ h c.from-own.ensures w.if-own-best.false v.0,
        v.1,
        lower_more _ _ _ v.2,
      )))
    ]

pub returns : goal.returns
returns c =
    let s = c.requires.searchable in
    let d = s.hanging.prepared.tree in
    let e = c.size-a-end.ensures in
    by_all _ _ _ _ (bytes_tree d) d.few s.highest _ _ _ (let t = c.loop-a-test.false in omega arith) c.loop-a.invariant.0
