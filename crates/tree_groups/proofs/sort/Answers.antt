use Rattle.std.proofs.Common.{arith, refl}
use Rattle.tree_groups.specs.Leaders.{sorted_none, sorted_more, sorted_all}
use Rattle.tree_groups.proofs.sort.Goals as goal

pub loop-x-init : goal.loop-x-init
loop-x-init c = sorted_none _ _ _ refl

pub loop-x-preserved : goal.loop-x-preserved
loop-x-preserved c = sorted_more _ _ _ _ _ (omega arith) c.loop-x.invariant refl

pub returns : goal.returns
returns c = sorted_all _ _ _ _ (omega arith) (omega arith) c.loop-x.invariant
