use Rattle.read_tree.specs.Nodes.{below_order, below_parent, below_label, below_leaf, below_value, parent_fits}
use borrow.Author.Rules.{rules}
use mathlib.Core.Path.{ap}
use mathlib.Core.Bool.{not}
use Rattle.read_tree.proofs.nodes.good_below.Goals as goal

pub returns-then-nodes-parent : goal.returns-then-nodes-parent
returns-then-nodes-parent c = below_order _ _ _ _ _ c.node_parent-parent.ensures.0 c.if-nodes-parent.true

pub overflow_mul-long : goal.overflow_mul-long
overflow_mul-long c = let m = parent_fits c.args.long c.node_parent-parent.result c.args.nodes c.if-nodes-parent.false in let w = c.requires.0 in let z = c.requires.1 in search rules

pub overflow_add-long : goal.overflow_add-long
overflow_add-long c = let m = parent_fits c.args.long c.node_parent-parent.result c.args.nodes c.if-nodes-parent.false in let w = c.requires.0 in let z = c.requires.1 in search rules

pub bounds-bytes-long : goal.bounds-bytes-long
bounds-bytes-long c = let m = parent_fits c.args.long c.node_parent-parent.result c.args.nodes c.if-nodes-parent.false in let w = c.requires.0 in let z = c.requires.1 in search rules

pub returns-then-not-is_element : goal.returns-then-not-is_element
returns-then-not-is_element c = below_parent _ _ _ _ _ c.node_parent-parent.ensures.0 c.if-nodes-parent.false c.from-above.ensures c.is_element.ensures (ap not c.if-not-is_element.true)

pub returns-then-not-is_label : goal.returns-then-not-is_label
returns-then-not-is_label c = below_label _ _ _ _ _ c.node_parent-parent.ensures.0 c.if-nodes-parent.false c.from-above.ensures c.is_element.ensures (ap not c.if-not-is_element.false) c.node_label-label.ensures.0 c.is_label.ensures (ap not c.if-not-is_label.true)

pub returns-then-not-is_element-2 : goal.returns-then-not-is_element-2
returns-then-not-is_element-2 c = below_leaf _ _ _ _ _ c.node_parent-parent.ensures.0 c.if-nodes-parent.false c.from-above.ensures c.is_element.ensures (ap not c.if-not-is_element.false) c.node_label-label.ensures.0 c.is_label.ensures (ap not c.if-not-is_label.false) c.is_element-2.ensures (ap not c.if-not-is_element-2.true)

pub returns : goal.returns
returns c = below_value _ _ _ _ _ c.node_parent-parent.ensures.0 c.if-nodes-parent.false c.from-above.ensures c.is_element.ensures (ap not c.if-not-is_element.false) c.node_label-label.ensures.0 c.is_label.ensures (ap not c.if-not-is_label.false) c.is_element-2.ensures (ap not c.if-not-is_element-2.false) c.node_value.ensures.0
