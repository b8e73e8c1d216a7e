use Rattle.std.proofs.Common.{arith, sym, subst}
use Rattle.tree_table.specs.Tells.{Tells}
use Rattle.tree_rows.specs.Families.{families_tell}
use Rattle.tree_equal.specs.Nodes.{labels_differ, leaf_decides, attributes_differ, others_decide}
use Rattle.tree_equal.specs.Lists.{compared_start, compared_more, compared_falls, list_longer, lists_differ, lists_end}
use Rattle.tree_equal.specs.Marks.{Clean}
use Rattle.tree_equal.proofs.+children_eq_node_eq.Goals.{children_eq-then-j-eq0-via-then-j-eq0, children_eq-then-j-eq0-via-else-j-eq0+then-not-node_eq}
use Rattle.tree_equal.proofs.+children_eq_node_eq.Goals as goal

pub children_eq-loop-i-init : goal.children_eq-loop-i-init
children_eq-loop-i-init t c =
    let p = c.requires.x_bound in
    (compared_start _ _ _ _ _ _ _ _ _ _ c.requires.nodes.linked.links.firsts p.0 p.1 c.first_child.ensures.0 c.first_child-2.ensures.0 c.seek-i.ensures c.seek-j.ensures, p.4)

pub children_eq-returns-then-j-eq0 : goal.children_eq-returns-then-j-eq0
children_eq-returns-then-j-eq0 t c =
    let i = c.loop-i.invariant in
    elim c.then-j-eq0.branch [
      | children_eq-then-j-eq0-via-then-j-eq0 w ↦ (list_longer _ _ _ _ _ _ _ i.0 (omega arith) w.if-j-eq0.true, subst Clean (sym w.marks-is) i.1)
      | children_eq-then-j-eq0-via-else-j-eq0+then-not-node_eq w ↦
          let n = w.node_eq.ensures in
          (lists_differ _ _ _ _ _ _ _ _ i.0 (omega arith) (omega arith) n.0 w.if-not-node_eq.true, subst Clean (sym w.marks-is) n.1)
    ]

pub children_eq-loop-i-smaller : goal.children_eq-loop-i-smaller
children_eq-loop-i-smaller t c =
    compared_falls _ _ _ _ _ _ _ _ c.requires.nodes.linked.links.nexts c.loop-i.invariant.0.first (omega arith) c.next_sibling.ensures.0
    c.seek-i-in-loop-i.ensures

pub children_eq-loop-i-preserved : goal.children_eq-loop-i-preserved
children_eq-loop-i-preserved t c =
    let n = c.node_eq.ensures in (
      compared_more _ _ _ _ _ _ _ _ _ _ _ _ _ c.requires.nodes.linked.links.nexts c.loop-i.invariant.0 (omega arith) (omega arith) n.0 c.if-not-node_eq.false
          c.next_sibling.ensures.0 c.seek-i-in-loop-i.ensures c.next_sibling-in-loop-i.ensures.0 c.seek-j-in-loop-i.ensures,
      n.1,
    )

pub children_eq-returns : goal.children_eq-returns
children_eq-returns t c = let i = c.loop-i.invariant in (lists_end _ _ _ _ _ _ _ i.0 (omega arith), i.1)

pub node_eq-returns-then-known-y : goal.node_eq-returns-then-known-y
node_eq-returns-then-known-y t c =
    let p = c.requires.x_bound in
    (families_tell _ _ _ _ _ _ _ _ c.requires.nodes.families (omega arith) p.0 (omega arith) p.1 c.family_of.ensures.0 c.family_of-then-known-y.ensures.0, p.4)

pub node_eq-returns-then-label_x-label : goal.node_eq-returns-then-label_x-label
node_eq-returns-then-label_x-label t c =
    (labels_differ _ _ _ _ _ _ c.label-label_x.ensures.0 c.label.ensures.0 c.if-label_x-label.true, c.requires.x_bound.4)

pub node_eq-returns-then-not-is_element : goal.node_eq-returns-then-not-is_element
node_eq-returns-then-not-is_element t c = (
  leaf_decides _ _ _ _ _ _ _ _ _ c.label-label_x.ensures.0 c.label.ensures.0 c.if-label_x-label.false c.is_element.ensures c.if-not-is_element.true
      c.value.ensures.0 c.value-then-not-is_element.ensures.0,
  c.requires.x_bound.4,
)

pub node_eq-returns-then-attributes_eq : goal.node_eq-returns-then-attributes_eq
node_eq-returns-then-attributes_eq t c = (
  others_decide _ _ _ _ _ _ _ _ _ c.label-label_x.ensures.0 c.label.ensures.0 c.if-label_x-label.false c.is_element.ensures c.if-not-is_element.false
      c.attributes_eq.ensures.0 c.if-attributes_eq.true c.children_eq.ensures.0,
  c.children_eq.ensures.1,
)

pub node_eq-returns-else-attributes_eq : goal.node_eq-returns-else-attributes_eq
node_eq-returns-else-attributes_eq t c = (
  subst (Tells _) (sym c.if-attributes_eq.false)
      (attributes_differ _ _ _ _ _ _ _ c.label-label_x.ensures.0 c.is_element.ensures c.if-not-is_element.false c.attributes_eq.ensures.0 c.if-attributes_eq.false),
  c.attributes_eq.ensures.1,
)
