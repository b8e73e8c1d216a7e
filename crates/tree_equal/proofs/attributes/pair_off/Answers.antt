use Rattle.std.proofs.Common.{arith}
use Rattle.tree_table.specs.LinkedTree.{parents_smaller}
use Rattle.tree_equal.specs.Lists.{compared_falls}
use Rattle.tree_equal.specs.Marks.{family_fits, pairing_start, pairing_more, pairing_missed, pairing_end}
use Rattle.tree_equal.proofs.attributes.pair_off.Goals as goal

pub loop-i-init : goal.loop-i-init
loop-i-init c =
    pairing_start _ _ _ _ _ _ _ _ _ c.requires.nodes.linked.links.firsts c.requires.x_bound.0 c.first_child.ensures.0 c.seek-i.ensures
    c.requires.marked.0

pub returns-then-marks-own-eq0 : goal.returns-then-marks-own-eq0
returns-then-marks-own-eq0 c =
    let n = c.requires.nodes in
    let p = c.requires.x_bound in
    pairing_missed _ _ _ _ _ _ (parents_smaller n.linked.tree) n.families p.2 p.3 _ _ _ _ c.loop-i.invariant (omega arith) c.family_of-own.ensures.0
    c.if-marks-own-eq0.true

pub loop-i-smaller : goal.loop-i-smaller
loop-i-smaller c =
    compared_falls _ _ _ _ _ _ _ _ c.requires.nodes.linked.links.nexts c.loop-i.invariant.walked.at (omega arith) c.next_sibling.ensures.0
    c.seek-i-in-loop-i.ensures

pub loop-i-preserved : goal.loop-i-preserved
loop-i-preserved c =
    let n = c.requires.nodes in
    let i = c.loop-i.invariant in
    let f = n.linked.tree.few in
    let g = family_fits _ _ _ _ _ _ _ n.linked.tree.above n.families c.requires.x_bound.2 i.walked.at (omega arith) c.family_of-own.ensures.0 in
    pairing_more _ _ _ _ _ _ _ _ _ _ _ _ n.linked.links.nexts i (omega arith) c.next_sibling.ensures.0 c.seek-i-in-loop-i.ensures
    c.family_of-own.ensures.0 (omega arith) (omega arith)

pub returns : goal.returns
returns c =
    let n = c.requires.nodes in
    let p = c.requires.x_bound in
    pairing_end _ _ _ _ _ _ (parents_smaller n.linked.tree) n.families p.2 p.3 _ _ _ _ (omega arith) c.loop-i.invariant c.requires.marked.1
