use Rattle.std.proofs.Common.{ℕ, ◌-◌, List, get_or, ◌∙◌, ap, refl, rules, arith, length-set}
use Rattle.tree_sorted.specs.Hung.{hung_none, hung_more, hung_pass}
use Rattle.tree_sorted.proofs.lists.link_up.Goals as goal

pub loop-x-init : goal.loop-x-init
loop-x-init c = (search rules, search rules, refl, hung_none _ _ _ _ c.requires.origins_found.zeros)

pub loop-x-preserved-then-above-lt-TREE_NODES : goal.loop-x-preserved-then-above-lt-TREE_NODES
loop-x-preserved-then-above-lt-TREE_NODES c =
    let v = c.loop-x.invariant in
    let p = c.requires.count_nonzero in
    let l = c.loop-x-test.true in
    let h = c.loop-x.auto.x in
    let f = p.1 in
    let t = c.if-above-lt-TREE_NODES.true in
    let is = c.from-above.ensures ∙ ap (λ (s : List ℕ). get_or s (c.loop-x.x - 1) 0) v.2 in
    let b = c.requires.origins_found.inside (c.loop-x.x - 1) (omega arith) (omega arith) in (
      length-set c.loop-x.list.first _ _ ∙ v.0,
      length-set c.loop-x.list.next _ _ ∙ v.1,
      v.2,
      hung_more _ _ _ _ _ _ l (omega arith) f is v.3 v.0 v.1 (omega arith),
    )

pub loop-x-preserved : goal.loop-x-preserved
loop-x-preserved c =
    let v = c.loop-x.invariant in
    let p = c.requires.count_nonzero in
    let h = c.loop-x.auto.x in
    let is = c.from-above.ensures ∙ ap (λ (s : List ℕ). get_or s (c.loop-x.x - 1) 0) v.2 in
    (v.0, v.1, v.2, hung_pass _ _ _ _ _ _ c.loop-x-test.true (omega arith) p.1 is v.3 c.if-above-lt-TREE_NODES.false)
