use Rattle.std.proofs.Common.{arith, ◌-◌}
use Rattle.tree_rows.specs.Chain.{chain_none, chain_step, chain_all}
use Rattle.tree_rows.proofs.hang.hang_under.Goals as goal

pub loop-x-init : goal.loop-x-init
loop-x-init c = (c.requires.0, chain_none _ _ _ _ c.requires.3)

pub loop-x-preserved : goal.loop-x-preserved
loop-x-preserved c =
    let p = c.requires in
    let e = c.from-above.ensures in
    let g = p.2 (c.loop-x.x - 1) (omega arith) (omega arith) in
    (omega arith, chain_step _ _ _ _ _ _ (omega arith) (omega arith) p.1 (omega arith) (omega arith) c.from-above.ensures (omega arith) c.loop-x.invariant.1)

pub returns : goal.returns
returns c = chain_all _ _ _ _ _ (omega arith) c.loop-x.invariant.0 c.loop-x.invariant.1
