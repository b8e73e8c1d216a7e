use Rattle.std.proofs.Common.{◌-◌, arith, refl}
use Rattle.tree_groups.specs.Lowest.{low_none, low_step, low_all}
use Rattle.tree_groups.proofs.lowest.Goals as goal

pub loop-x-init : goal.loop-x-init
loop-x-init c = (c.requires.0, low_none _ _ _ refl)

pub loop-x-preserved : goal.loop-x-preserved
loop-x-preserved c =
    let p = c.requires in
    let e = c.from.ensures in
    let g = p.2 (c.loop-x.x - 1) (omega arith) in
    (omega arith, low_step _ _ _ _ _ (omega arith) (omega arith) e (omega arith) c.loop-x.invariant.1)

pub returns : goal.returns
returns c = low_all _ _ _ _ (omega arith) c.loop-x.invariant.0 c.loop-x.invariant.1
