use Rattle.std.proofs.Common.{arith, subst, sym}
use Rattle.tree_table.specs.LinkedTree.{parents_smaller}
use Rattle.tree_contexts.specs.Least.{LeastAt}
use Rattle.tree_contexts.specs.Turned.{back_more, label_turned, least_back}
use Rattle.tree_contexts.proofs.by_label.Goals as goal

pub loop-v-preserved : goal.loop-v-preserved
loop-v-preserved c =
    let p = c.requires in
    let f = p.0.tree.few in
    let e = c.size-v.ensures in
    let a = c.loop-v.auto.v in
    let h = c.loop-v-test.true in
    back_more _ _ c.loop-v.table _ _ _ h (omega arith) c.loop-v.invariant
    (label_turned _ _ c.loop-v.table (parents_smaller p.0.tree) _ _ _ _ p.1 h c.loop-v.invariant
    (subst (LeastAt _ _ _ _) (sym c.unwrap_or.ensures) c.from_parent.ensures))

pub returns : goal.returns
returns c = least_back _ _ _ _ _ (omega arith) c.loop-v.invariant
