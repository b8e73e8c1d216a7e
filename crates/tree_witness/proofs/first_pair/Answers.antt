use Rattle.std.proofs.Common.{◌<◌, arith}
use Rattle.tree_table.specs.LinkedTree.{bytes_tree}
use Rattle.tree_pairs.specs.Along.{along_falls}
use Rattle.tree_pairs.specs.Pairs.{simple_at}
use Rattle.tree_pairs.specs.Marks.{next_link}
use Rattle.tree_witness.specs.Firsts.{look_start, look_next, look_found, look_none}
use Rattle.tree_witness.proofs.first_pair.Goals as goal

pub loop-x-init : goal.loop-x-init
loop-x-init c =
    let h = c.requires.hanging in
    let u = h.2 in
    let v = h.3 in
    look_start _ _ _ _ h.0.prepared.tree.some _ _ _ (h.0.lists.each _ h.1) _ c.requires.firsts.0 _ (omega arith) _ c.from-x.ensures

pub returns-then-y-ne0 : goal.returns-then-y-ne0
returns-then-y-ne0 c =
    let h = c.requires.hanging in
    let u = h.2 in
    let v = h.3 in
    let t = h.0.prepared.tree in
    let n : 0 < c.loop-x.x = (let m = c.loop-x-test.true in omega arith) in
    let y : 0 < c.from-y.result = (let m = c.if-y-ne0.true in omega arith) in
    look_found _ _ _ _ t.some _ _ _ (h.0.lists.each _ h.1) _ c.requires.firsts.0 _ (omega arith) _ (bytes_tree t) t.few h.0.prepared.families
    (simple_at _ h.0.simples _ h.1) h.2 h.3 c.loop-x.x _ _ n c.family_of.ensures.0 c.from-y.ensures y c.loop-x.invariant

pub loop-x-smaller : goal.loop-x-smaller
loop-x-smaller c =
    let h = c.requires.hanging in
    let u = h.2 in
    let v = h.3 in
    let w = c.loop-x.invariant in
    let n : 0 < c.loop-x.x = (let m = c.loop-x-test.true in omega arith) in
    along_falls _ _ _ _ _ n w.inside (next_link _ _ _ _ _ (h.0.lists.each _ h.1) _ _ _ (omega arith) n w.inside (w.hangs n) c.from-x-in-loop-x.ensures)

pub loop-x-preserved : goal.loop-x-preserved
loop-x-preserved c =
    let h = c.requires.hanging in
    let u = h.2 in
    let v = h.3 in
    let z = c.if-y-ne0.false in
    let n : 0 < c.loop-x.x = (let m = c.loop-x-test.true in omega arith) in
    look_next _ _ _ _ h.0.prepared.tree.some _ _ _ (h.0.lists.each _ h.1) _ c.requires.firsts.0 _ (omega arith) c.loop-x.x _ _ _ n
    c.family_of.ensures.0 c.from-y.ensures (omega arith) c.from-x-in-loop-x.ensures c.loop-x.invariant

pub returns : goal.returns
returns c =
    let h = c.requires.hanging in
    let u = h.2 in
    let v = h.3 in
    let t = h.0.prepared.tree in
    look_none _ _ _ _ t.some _ _ _ (h.0.lists.each _ h.1) _ c.requires.firsts.0 _ (omega arith) _ (bytes_tree t) t.few h.0.prepared.families
    (simple_at _ h.0.simples _ h.1) h.2 h.3 _ c.loop-x-test.false c.requires.firsts.1 c.loop-x.invariant
