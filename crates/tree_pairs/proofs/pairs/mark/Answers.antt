use Rattle.std.proofs.Common.{◌<◌, arith}
use Rattle.tree_pairs.specs.Reach.{key_of}
use Rattle.tree_pairs.specs.Along.{along_falls}
use Rattle.tree_pairs.specs.Marks.{mark_more, mark_start, mark_next, mark_all, next_link, hung_down}
use Rattle.tree_pairs.proofs.pairs.mark.Goals as goal

pub loop-y-init : goal.loop-y-init
loop-y-init c =
    let h = c.requires.hanging in (
      c.requires.marked,
      mark_start _ _ (key_of c.args.reach.now).paths h.0.few _ _ _ h.1 c.stamp-own.ensures h.0.prepared.tree.some _ _ _ (h.0.lists.each _ h.1) _ _ h.2
          c.from-y.ensures,
    )

pub loop-y-smaller : goal.loop-y-smaller
loop-y-smaller c =
    let h = c.requires.hanging in
    let w = c.loop-y.invariant.1 in
    let n : 0 < c.loop-y.y = omega arith in
    along_falls _ _ _ _ _ n w.inside (next_link _ _ _ _ _ (h.0.lists.each _ h.1) _ _ _ h.2 n w.inside (w.hangs n) c.from-y-in-loop-y.ensures)

pub loop-y-preserved : goal.loop-y-preserved
loop-y-preserved c =
    let h = c.requires.hanging in
    let v = c.loop-y.invariant in
    let n : 0 < c.loop-y.y = omega arith in
    let g = h.0.prepared.tree.few in
    let e = c.family_of.ensures.0 in
    let l = h.0.prepared.families.inside c.loop-y.y v.1.inside in
    let k : c.family_of.result < 4096 = omega arith in (
      mark_more _ _ _ h.0.few _ _ _ h.1 c.stamp-own.ensures c.loop-y.marks _ c.loop-y.y k v.1.inside
          (hung_down _ _ _ _ _ (h.0.lists.each _ h.1) _ _ h.2 g n v.1.inside (v.1.hangs n)) e v.0,
      mark_next _ _ (key_of c.args.reach.now).paths h.0.few _ _ _ h.1 c.stamp-own.ensures h.0.prepared.tree.some _ _ _ (h.0.lists.each _ h.1)
          c.loop-y.marks _ c.loop-y.y _ k v.0.long h.2 n e c.from-y-in-loop-y.ensures v.1,
    )

pub returns : goal.returns
returns c =
    let h = c.requires.hanging in
    let v = c.loop-y.invariant in
    mark_all _ _ (key_of c.args.reach.now).paths h.0.few _ _ _ h.1 c.stamp-own.ensures h.0.prepared.tree.some _ _ _ (h.0.lists.each _ h.1) _ _
    c.loop-y-test.false v.0 v.1
