use Rattle.std.proofs.Common.{◌<◌, refl, rules, arith}
use Rattle.tree_pairs.specs.Along.{along_falls}
use Rattle.tree_pairs.specs.Marks.{next_link}
use Rattle.tree_witness.specs.Firsts.{put_none, put_start, put_pass, put_more, put_next}
use Rattle.tree_witness.proofs.put_firsts.Goals.{then-first-eq0, else-first-eq0}
use Rattle.tree_witness.proofs.put_firsts.Goals as goal

pub loop-y-init : goal.loop-y-init
loop-y-init c =
    let h = c.requires.hanging in
    let t = h.0.prepared.tree in (
      put_none _ _ _ _ t.some _ _ _ (h.0.lists.each _ h.1) _ (search rules) c.requires.bare,
      put_start _ _ _ _ t.some _ _ _ (h.0.lists.each _ h.1) _ _ h.2 c.from-y.ensures,
    )

pub loop-y-smaller : goal.loop-y-smaller
loop-y-smaller c =
    let h = c.requires.hanging in
    let w = c.loop-y.invariant.1 in
    let n : 0 < c.loop-y.y = (let m = c.loop-y-test.true in omega arith) in
    along_falls _ _ _ _ _ n w.inside (next_link _ _ _ _ _ (h.0.lists.each _ h.1) _ _ _ h.2 n w.inside (w.hangs n) c.from-y-in-loop-y.ensures)

pub loop-y-preserved : goal.loop-y-preserved
loop-y-preserved c =
    let h = c.requires.hanging in
    let t = h.0.prepared.tree in
    let v = c.loop-y.invariant in
    let n : 0 < c.loop-y.y = (let m = c.loop-y-test.true in omega arith) in
    let g = t.few in
    let e = c.family_of-family.ensures.0 in
    let l = h.0.prepared.families.inside c.loop-y.y v.1.inside in
    let k : c.family_of-family.result < 4096 = omega arith in
    elim c.if-first-eq0.branch [
      | then-first-eq0 w ↦ rw w.firsts-is (
        put_more _ _ _ _ t.some _ _ _ (h.0.lists.each _ h.1) c.loop-y.firsts c.loop-y.y _ e h.2 n v.1 k _ refl w.if-first-eq0.true v.0 g,
        put_next _ _ _ _ t.some _ _ _ (h.0.lists.each _ h.1) c.loop-y.firsts c.loop-y.y _ e h.2 n v.1 k _ refl w.if-first-eq0.true v.0 _
            c.from-y-in-loop-y.ensures,
      )
      | else-first-eq0 w ↦ rw w.firsts-is (
        v.0,
        put_pass _ _ _ _ t.some _ _ _ (h.0.lists.each _ h.1) c.loop-y.firsts c.loop-y.y _ e h.2 n v.1 _ _ refl w.if-first-eq0.false
            c.from-y-in-loop-y.ensures,
      )
    ]
