use Rattle.std.proofs.Common.{arith, rules, refl, ◌∙◌}
use Rattle.tree_table.specs.LinkedTree.{parents_smaller}
use Rattle.tree_contexts.specs.Turned.{any_start, turned_more, any_turned, least_front}
use Rattle.tree_contexts.proofs.by_any_path.Goals as goal

pub loop-v-init : goal.loop-v-init
loop-v-init c = any_start _ _ (parents_smaller c.requires.tree) (search rules)

pub loop-v-preserved : goal.loop-v-preserved
loop-v-preserved c =
    let p = c.requires in
    let f = p.tree.few in
    let e = c.size-v-end.ensures in
    let h = c.loop-v-test.true in
    turned_more _ _ c.loop-v.table _ _ (omega arith) c.loop-v.invariant
    (any_turned _ _ (parents_smaller p.tree) c.loop-v.table c.loop-v.v c.parent_of-above.result _ _ _ c.loop-v.auto.v (omega arith)
    (c.parent_of-above.ensures.0 ∙ p.parents c.loop-v.v (omega arith)) refl refl c.min.ensures c.loop-v.invariant)

pub returns : goal.returns
returns c = least_front _ _ _ _ _ (omega arith) c.loop-v.invariant
