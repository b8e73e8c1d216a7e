use Rattle.read_tree.specs.Nodes.{twin_parent, twin_label}
use Rattle.read_tree.proofs.nodes.is_twin.Goals as goal

pub returns-then-word-parent : goal.returns-then-word-parent
returns-then-word-parent c = twin_parent _ _ _ _ _ c.word.ensures.0 c.if-word-parent.true

pub returns : goal.returns
returns c = twin_label _ _ _ _ _ c.word.ensures.0 c.if-word-parent.false c.from.ensures
