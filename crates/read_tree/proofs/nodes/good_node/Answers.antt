use mathlib.Core.Path.{◌∙◌}
use Rattle.read_tree.specs.Nodes.{node_first, node_later}
use Rattle.read_tree.proofs.nodes.good_node.Goals as goal

pub returns-then-nodes-eq0 : goal.returns-then-nodes-eq0
returns-then-nodes-eq0 c = c.good_root.ensures ∙ node_first _ _ _ _ _ c.if-nodes-eq0.true

pub returns : goal.returns
returns c = c.good_below.ensures ∙ node_later _ _ _ _ _ c.if-nodes-eq0.false
