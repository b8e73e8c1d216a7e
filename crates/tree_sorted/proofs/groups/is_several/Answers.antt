use Rattle.std.proofs.Common.{arith, refl, eqb-true}
use borrow.Author.Tests.{not-false}
use Rattle.tree_sorted.specs.Adopting.{first_inside, several_none, several_by_next}
use Rattle.tree_sorted.proofs.groups.is_several.Goals as goal

pub bounds-list-x : goal.bounds-list-x
bounds-list-x c =
    let p = c.requires in
    let f = p.0 in
    let n = c.if-x-ne0.true in
    let i = first_inside _ _ _ _ p.2 p.0 _ p.1 _ c.from-x.ensures (omega arith) in
    omega arith

pub returns-then-x-ne0 : goal.returns-then-x-ne0
returns-then-x-ne0 c =
    let p = c.requires in
    several_by_next _ _ _ _ p.2 p.0 _ p.1 _ c.from-x.ensures _ _ c.if-x-ne0.true refl (λ h. eqb-true _ _ (not-false _ h))

pub returns-else-x-ne0 : goal.returns-else-x-ne0
returns-else-x-ne0 c =
    let p = c.requires in
    let e = c.if-x-ne0.false in
    rw e (several_none _ _ _ _ p.2 p.0 _ p.1 _ c.from-x.ensures e)
