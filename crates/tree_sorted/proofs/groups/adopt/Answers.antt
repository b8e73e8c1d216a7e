use Rattle.std.proofs.Common.{arith}
use Rattle.tree_sorted.specs.Adopting.{first_inside}
use Rattle.tree_sorted.proofs.groups.adopt.Goals as goal

pub bounds-sorted-x : goal.bounds-sorted-x
bounds-sorted-x c =
    let p = c.requires.count_bound in
    let f = p.0 in
    let n = c.if-x-eq0.false in
    let i = first_inside _ _ _ _ p.1 p.0 _ c.loop-a-test.true _ c.from-x.ensures (omega arith) in
    omega arith
