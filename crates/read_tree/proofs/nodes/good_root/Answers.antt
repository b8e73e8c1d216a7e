use Rattle.read_tree.specs.Nodes.{root_parent, root_label, root_value}
use Rattle.read_tree.proofs.nodes.good_root.Goals as goal

pub returns-then-node_parent-ne-NO_NUMBER : goal.returns-then-node_parent-ne-NO_NUMBER
returns-then-node_parent-ne-NO_NUMBER c = root_parent _ c.node_parent.ensures.0 c.if-node_parent-ne-NO_NUMBER.true

pub returns-then-node_label-ne-ROOT_LABEL : goal.returns-then-node_label-ne-ROOT_LABEL
returns-then-node_label-ne-ROOT_LABEL c = root_label _ c.node_parent.ensures.0 c.if-node_parent-ne-NO_NUMBER.false c.node_label.ensures.0 c.if-node_label-ne-ROOT_LABEL.true

pub returns : goal.returns
returns c = root_value _ c.node_parent.ensures.0 c.if-node_parent-ne-NO_NUMBER.false c.node_label.ensures.0 c.if-node_label-ne-ROOT_LABEL.false c.node_value.ensures.0
