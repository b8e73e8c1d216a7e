use Rattle.std.proofs.Common.{arith}
use Rattle.tree_pairs.specs.Pairs.{agree_all, agree_fails}
use Rattle.tree_pairs.proofs.pairs.agree_all.Goals as goal

pub returns-then-not-agree : goal.returns-then-not-agree
returns-then-not-agree c =
    let e = c.count-i-end.ensures.0 in
    (agree_fails _ _ _ _ _ _ _ (omega arith) c.agree.ensures.0 c.if-not-agree.true, c.agree.ensures.1, c.loop-i.invariant.1)

pub returns : goal.returns
returns c =
    let v = c.loop-i.invariant in
    let e = c.count-i-end.ensures.0 in
    (agree_all _ _ _ _ _ _ (omega arith) v.2, v.0, v.1)
