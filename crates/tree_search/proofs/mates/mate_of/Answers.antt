use Rattle.std.proofs.Common.{◌<◌, subst, arith}
use Rattle.tree_table.specs.LinkedTree.{bytes_tree}
use Rattle.tree_table.specs.Seek.{left_falls}
use Rattle.tree_sorted.specs.GoodKey.{good_simple}
use Rattle.tree_sorted.specs.Hung.{listed_next}
use Rattle.tree_search.specs.Best.{MateIs}
use Rattle.tree_search.specs.Mates.{seen_start, seen_end, mating_start, mating_next, mating_end}
use Rattle.tree_search.specs.Start.{lists_of}
use Rattle.tree_search.proofs.mates.mate_of.Goals as goal

pub loop-x-init : goal.loop-x-init
loop-x-init c =
    let s = c.requires.searchable in
    let t = s.0.hanging.prepared.tree in (
      mating_start _ _ _ _ _ _ _ _ _ t.few t.some (lists_of s.0) _ s.1 _ c.from-x.ensures,
      seen_start _ _ _ _ _ _ _ _ c.requires.marked.1,
      c.requires.marked.0,
    )

pub loop-x-smaller : goal.loop-x-smaller
loop-x-smaller c =
    let s = c.requires.searchable in
    let t = s.0.hanging.prepared.tree in
    let v = c.loop-x.invariant.0 in
    let o : 0 < c.loop-x.x = (let n = c.loop-x-test.true in omega arith) in
    left_falls _ _ _ o v.inside
    (λ q. let b = (listed_next _ _ _ _ _ t.few t.some (lists_of s.0) _ _ _ s.1 o v.inside (v.down o) c.from-x-in-loop-x.ensures).behind q in omega arith)

pub loop-x-preserved : goal.loop-x-preserved
loop-x-preserved c =
    let s = c.requires.searchable in
    let t = s.0.hanging.prepared.tree in
    let v = c.loop-x.invariant.0 in
    let o : 0 < c.loop-x.x = (let n = c.loop-x-test.true in omega arith) in
    let r = c.mate_from-least.ensures in (
      mating_next _ _ _ _ _ _ _ _ _ t.few t.some (lists_of s.0) _ s.1 _ _ _ _ o v r.1 r.3 r.4 c.from-x-in-loop-x.ensures,
      r.2,
      r.0,
    )

pub returns-then-least-lt-TREE_NODES : goal.returns-then-least-lt-TREE_NODES
returns-then-least-lt-TREE_NODES c =
    let s = c.requires.searchable.0 in
    let v = c.loop-x.invariant in (
      mating_end _ _ _ _ _ _ _ _ _ _ _ (bytes_tree s.hanging.prepared.tree) s.sorts.within (good_simple s.good _ s.sorts.within)
          s.hanging.prepared.families s.sorts.grouped s.sorts.numbered (lists_of s) _ _ _ c.loop-x-test.false v.0,
      c.if-least-lt-TREE_NODES.true,
      v.2,
      seen_end _ _ _ _ _ _ _ _ v.1,
    )

pub returns : goal.returns
returns c =
    let s = c.requires.searchable.0 in
    let v = c.loop-x.invariant in
    let b = v.0.so.bound in
    let h = c.if-least-lt-TREE_NODES.false in
    let m = mating_end _ _ _ _ _ _ _ _ _ _ _ (bytes_tree s.hanging.prepared.tree) s.sorts.within (good_simple s.good _ s.sorts.within)
    s.hanging.prepared.families s.sorts.grouped s.sorts.numbered (lists_of s) _ _ _ c.loop-x-test.false v.0 in
    (subst (MateIs _ _ _ _ _) (omega arith) m, tt, v.2, seen_end _ _ _ _ _ _ _ _ v.1)
