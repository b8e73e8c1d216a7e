use Rattle.std.proofs.Common.{◌<◌, sym, ◌∙◌, subst, refl, arith}
use Rattle.tree_rows.specs.Chain.{next_falls}
use Rattle.tree_search.specs.Mates.{Looked, chasing_start, chasing_pass, chasing_take, chasing_end, seen_put}
use Rattle.tree_search.specs.Start.{number_inside}
use Rattle.tree_search.proofs.mates.mate_from.Goals.{then-is_mate, else-is_mate}
use Rattle.tree_search.proofs.mates.mate_from.Goals as goal

pub returns-then-from-mated : goal.returns-then-from-mated
returns-then-from-mated c =
    let s = c.requires.searchable in
    let m = c.requires.marked in
    let i = number_inside s.0 _ _ s.2 c.from-number.ensures in (
      m.0,
      m.1,
      m.2,
      omega arith,
      subst (Looked _ _ _ _ _ _ _) c.from-number.ensures (m.2.looked _ i (sym c.from.ensures ∙ c.if-from-mated.true)),
    )

pub loop-y-init : goal.loop-y-init
loop-y-init c =
    let s = c.requires.searchable in
    let m = c.requires.marked in
    let i = number_inside s.0 _ _ s.2 c.from-number.ensures in (
      chasing_start _ _ _ _ _ _ _ _ s.0.sorts.chained s.0.hanging.prepared.tree.some _ _ _ _ i c.from-y.ensures m.1,
      m.0,
      refl,
    )

pub loop-y-smaller : goal.loop-y-smaller
loop-y-smaller c =
    let s = c.requires.searchable.0 in
    let n = c.loop-y-test.true in
    next_falls _ _ _ s.sorts.chained.nexts _ _ (omega arith) c.loop-y.invariant.0.inside c.from-y-in-loop-y.ensures

pub loop-y-preserved : goal.loop-y-preserved
loop-y-preserved c =
    let s = c.requires.searchable.0 in
    let v = c.loop-y.invariant in
    let r = c.is_mate.ensures in
    let o : 0 < c.loop-y.y = (let n = c.loop-y-test.true in omega arith) in
    elim c.if-is_mate.branch [
      | then-is_mate w ↦ rw w.best-is (
        chasing_take _ _ _ _ _ _ _ _ s.sorts.chained s.hanging.prepared.tree.some _ _ _ _ _ o v.0 _ c.from-b.ensures _ r.0 _
            c.from-y-in-loop-y.ensures w.if-is_mate.true,
        r.1,
        r.2 ∙ v.2,
      )
      | else-is_mate w ↦ rw w.best-is (
        chasing_pass _ _ _ _ _ _ _ _ s.sorts.chained s.hanging.prepared.tree.some _ _ _ _ _ o v.0 _ c.from-b.ensures _ r.0 _
            c.from-y-in-loop-y.ensures w.if-is_mate.false,
        r.1,
        r.2 ∙ v.2,
      )
    ]

pub returns : goal.returns
returns c =
    let s = c.requires.searchable in
    let f = s.0.hanging.prepared.tree.few in
    let v = c.loop-y.invariant in
    let i = number_inside s.0 _ _ s.2 c.from-number.ensures in
    let l = chasing_end _ _ _ _ _ _ _ _ s.0.sorts.chained s.0.hanging.prepared.tree.some _ _ _ _ _ c.loop-y-test.false v.0 in (
      v.1,
      v.0.so,
      seen_put _ _ _ _ _ _ _ _ _ _ _ (omega arith) v.0.less l v.2 c.requires.marked.2,
      v.0.less,
      subst (Looked _ _ _ _ _ _ _) c.from-number.ensures l,
    )
