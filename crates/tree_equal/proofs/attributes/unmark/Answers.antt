use Rattle.std.proofs.Common.{arith}
use Rattle.tree_equal.specs.Lists.{compared_falls}
use Rattle.tree_equal.specs.Marks.{family_fits, unmarking_start, unmarking_more, unmarking_end}
use Rattle.tree_equal.proofs.attributes.unmark.Goals as goal

pub loop-k-init : goal.loop-k-init
loop-k-init c =
    let p = c.requires.v_bound in
    unmarking_start _ _ _ _ _ _ _ _ c.requires.nodes.linked.links.firsts p.0 c.first_child.ensures.0 c.seek-k.ensures p.2

pub loop-k-smaller : goal.loop-k-smaller
loop-k-smaller c =
    compared_falls _ _ _ _ _ _ _ _ c.requires.nodes.linked.links.nexts c.loop-k.invariant.at (omega arith) c.next_sibling.ensures.0
    c.seek-k-in-loop-k.ensures

pub loop-k-preserved : goal.loop-k-preserved
loop-k-preserved c =
    let n = c.requires.nodes in
    let i = c.loop-k.invariant in
    let f = n.linked.tree.few in
    let g = family_fits _ _ _ _ _ _ _ n.linked.tree.above n.families c.requires.v_bound.1 i.at (omega arith) c.family_of.ensures.0 in
    unmarking_more _ _ _ _ _ _ _ _ _ _ n.linked.links.nexts i (omega arith) c.next_sibling.ensures.0 c.seek-k-in-loop-k.ensures c.family_of.ensures.0
    (omega arith)

pub returns : goal.returns
returns c = unmarking_end _ _ _ _ _ _ (omega arith) c.loop-k.invariant
