use Rattle.std.proofs.Common.{◌<◌, arith, refl}
use Rattle.tree_pairs.specs.Reach.{key_of}
use Rattle.tree_table.specs.LinkedTree.{bytes_tree}
use Rattle.tree_pairs.specs.Along.{along_falls}
use Rattle.tree_pairs.specs.Pairs.{simple_at}
use Rattle.tree_pairs.specs.Marks.{meet_start, meet_next, meet_found, meet_none, next_link}
use Rattle.tree_pairs.proofs.pairs.meets.Goals as goal

pub loop-x-init : goal.loop-x-init
loop-x-init c =
    let h = c.requires.hanging in
    let u = h.2 in
    let v = h.3 in
    meet_start _ _ (key_of c.args.reach.now).paths h.0.few _ _ _ h.1 c.stamp-wanted.ensures h.0.prepared.tree.some _ _ _ (h.0.lists.each _ h.1) _ _ _
    (omega arith) c.from-x.ensures

pub returns-then-marks-family_of : goal.returns-then-marks-family_of
returns-then-marks-family_of c =
    let h = c.requires.hanging in
    let u = h.2 in
    let v = h.3 in
    let n : 0 < c.loop-x.x = (let m = c.loop-x-test.true in omega arith) in
    let p = h.0.prepared in
    meet_found _ _ (key_of c.args.reach.now).paths h.0.few _ _ _ h.1 c.stamp-wanted.ensures p.tree.some _ _ _ (h.0.lists.each _ h.1) _
    (bytes_tree p.tree) p.tree.few p.families (simple_at _ h.0.simples _ h.1) _ (omega arith) h.3 _ c.loop-x.x c.family_of.result _ n
    c.family_of.ensures.0 refl c.if-marks-family_of.true c.requires.stamped c.loop-x.invariant

pub loop-x-smaller : goal.loop-x-smaller
loop-x-smaller c =
    let h = c.requires.hanging in
    let u = h.2 in
    let v = h.3 in
    let w = c.loop-x.invariant in
    let n : 0 < c.loop-x.x = (let m = c.loop-x-test.true in omega arith) in
    along_falls _ _ _ _ _ n w.inside (next_link _ _ _ _ _ (h.0.lists.each _ h.1) _ _ _ (omega arith) n w.inside (w.hangs n) c.from-x-in-loop-x.ensures)

pub loop-x-preserved : goal.loop-x-preserved
loop-x-preserved c =
    let h = c.requires.hanging in
    let u = h.2 in
    let v = h.3 in
    let n : 0 < c.loop-x.x = (let m = c.loop-x-test.true in omega arith) in
    meet_next _ _ (key_of c.args.reach.now).paths h.0.few _ _ _ h.1 c.stamp-wanted.ensures h.0.prepared.tree.some _ _ _ (h.0.lists.each _ h.1) _ _
    c.loop-x.x _ c.family_of.result _ (omega arith) n c.family_of.ensures.0 refl c.if-marks-family_of.false c.from-x-in-loop-x.ensures c.loop-x.invariant

pub returns : goal.returns
returns c =
    let h = c.requires.hanging in
    let u = h.2 in
    let v = h.3 in
    let p = h.0.prepared in
    meet_none _ _ (key_of c.args.reach.now).paths h.0.few _ _ _ h.1 c.stamp-wanted.ensures p.tree.some _ _ _ (h.0.lists.each _ h.1) _
    (bytes_tree p.tree) p.tree.few p.families (simple_at _ h.0.simples _ h.1) _ (omega arith) h.3 _ _ h.2 c.loop-x-test.false c.requires.stamped
    c.loop-x.invariant
