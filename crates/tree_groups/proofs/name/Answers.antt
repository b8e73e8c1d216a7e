use Rattle.std.proofs.Common.{arith}
use Rattle.tree_groups.specs.InRows.{naming_none, naming_step, named_so}
use Rattle.tree_groups.proofs.name.Goals as goal

pub loop-x-init : goal.loop-x-init
loop-x-init c = naming_none _ _ (omega arith) c.requires.root

pub bounds-low-own : goal.bounds-low-own
bounds-low-own c =
    let p = c.requires.count_nonzero in
    let e = c.from-own.ensures in
    let l = c.loop-x.invariant.left c.loop-x.x (omega arith) in
    let g = p.2 c.loop-x.x (omega arith) in
    omega arith

pub loop-x-preserved : goal.loop-x-preserved
loop-x-preserved c =
    let p = c.requires.count_nonzero in naming_step _ _ _ _ _ (omega arith) (omega arith) c.from-own.ensures c.loop-x.invariant

pub returns : goal.returns
returns c = let p = c.requires.count_nonzero in named_so _ _ _ _ _ (omega arith) (omega arith) c.loop-x.invariant
