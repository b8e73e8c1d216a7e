use Rattle.std.proofs.Common.{◌<◌, sym, ◌∙◌, arith, length-set}
use Rattle.tree_rows.specs.Chain.{next_in, next_falls}
use Rattle.tree_sorted.specs.Numbers.{passing_none, passing_again, passing_first}
use Rattle.tree_sorted.specs.Sorted.{group_stays}
use Rattle.tree_sorted.proofs.numbers.number_family.Goals.{in-Some+then-from-c, in-Some+else-from-c, in_default}
use Rattle.tree_sorted.proofs.numbers.number_family.Goals as goal

pub loop-x-smaller : goal.loop-x-smaller
loop-x-smaller c =
    next_falls _ _ _ c.requires.nexts.0 _ _ (let n = c.loop-x-test.true in omega arith) c.loop-x.invariant.0.inside c.same_family-x.ensures.0

pub loop-x-preserved : goal.loop-x-preserved
loop-x-preserved c =
    let v = c.loop-x.invariant in
    let o : 0 < c.loop-x.x = (let n = c.loop-x-test.true in omega arith) in
    let s = v.2 o in
    let k = v.0.inside in
    let f = c.requires.c_bound.2 in
    let links = c.requires.nexts.0 in
    let n = next_in _ _ _ links _ _ o k c.same_family-x.ensures.0 in
    elim c.match-group_above.branch [
      | in-Some+then-from-c w ↦ rw w.sorted-is (rw w.shared-is (
        passing_again _ _ _ _ _ _ _ _ _ _ links _ o v.0 _ (group_stays _ _ _ _ _ _ v.1 w.in-Some.ensures.0) _ c.same_family-x.ensures.0
            w.in-Some.ensures.1 v.4 f (sym w.from.ensures ∙ w.if-from-c.true),
        record { tops = v.1.tops; groups = v.1.groups },
        λ h. (let m = (n.member h).0 in omega arith),
        omega arith,
        length-set c.loop-x.sorted.number _ _ ∙ v.4,
        v.5,
        v.6,
      ))
      | in-Some+else-from-c w ↦ rw w.sorted-is (rw w.shared-is (
        passing_first _ _ _ _ _ _ _ _ _ _ links _ o v.0 _ (group_stays _ _ _ _ _ _ v.1 w.in-Some.ensures.0) _ c.same_family-x.ensures.0
            w.in-Some.ensures.1 v.4 v.5 v.6 f (λ z. w.if-from-c.false (w.from.ensures ∙ z)),
        record { tops = v.1.tops; groups = v.1.groups },
        λ h. (let m = (n.member h).0 in omega arith),
        v.3,
        length-set c.loop-x.sorted.number _ _ ∙ v.4,
        length-set c.loop-x.sorted.stamp _ _ ∙ v.5,
        length-set c.loop-x.sorted.lead _ _ ∙ v.6,
      ))
      | in_default w ↦ rw w.sorted-is (rw w.shared-is (
        passing_none _ _ _ _ _ _ _ _ _ _ links _ o v.0 _ (group_stays _ _ _ _ _ _ v.1 w.in_default.ensures.0) _ c.same_family-x.ensures.0 (omega arith),
        v.1,
        λ h. (let m = (n.member h).0 in omega arith),
        v.3,
        v.4,
        v.5,
        v.6,
      ))
    ]
