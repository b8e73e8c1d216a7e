use Rattle.read_tree.specs.Nodes.{body_bad, body_first, body_other, body_repeated, body_once}
use mathlib.Core.Path.{◌≡◌, ap}
use mathlib.Core.Bool.{not, true}
use Rattle.read_tree.proofs.nodes.judge_body.Goals as goal

pub returns-then-not-good_node : goal.returns-then-not-good_node
returns-then-not-good_node c = body_bad _ _ _ _ _ _ c.good_node.ensures (ap not c.if-not-good_node.true)

pub returns-then-not-second : goal.returns-then-not-second
returns-then-not-second c = body_first _ _ _ _ _ _ c.good_node.ensures (ap not c.if-not-good_node.false) (ap not c.if-not-second.true)

pub returns-then-not-is_attribute : goal.returns-then-not-is_attribute
returns-then-not-is_attribute c = body_other _ _ _ _ _ _ c.good_node.ensures (ap not c.if-not-good_node.false) (let e : c.args.second ≡ true = cc in ap not e) c.node_label-label.ensures.0 c.is_attribute.ensures (ap not c.if-not-is_attribute.true)

pub returns-then-has_twin : goal.returns-then-has_twin
returns-then-has_twin c = body_repeated _ _ _ _ _ _ c.good_node.ensures (ap not c.if-not-good_node.false) (let e : c.args.second ≡ true = cc in ap not e) c.node_label-label.ensures.0 c.is_attribute.ensures (let e : c.is_attribute.result ≡ true = cc in ap not e) c.node_parent-parent.ensures.0 c.has_twin.ensures c.if-has_twin.true

pub returns : goal.returns
returns c = body_once _ _ _ _ _ _ c.good_node.ensures (ap not c.if-not-good_node.false) (let e : c.args.second ≡ true = cc in ap not e) c.node_label-label.ensures.0 c.is_attribute.ensures (let e : c.is_attribute.result ≡ true = cc in ap not e) c.node_parent-parent.ensures.0 c.has_twin.ensures c.if-has_twin.false
