use Rattle.std.proofs.Common.{arith}
use borrow.Author.Tests.{not-true, not-false}
use Rattle.tree_table.specs.FileTable.{file_table, class_by}
use Rattle.tree_table.specs.Seek.{kind_told, kind_untold, passed_next, sought_falls, sought_here}
use Rattle.tree_equal.proofs.children.seek.Goals as goal

pub loop-at_node-smaller : goal.loop-at_node-smaller
loop-at_node-smaller c =
    sought_falls (class_by c.args.known.now.classes.now) (file_table c.args.known.now.tree.now) c.args.attribute _ _ _ c.requires.nodes.linked.links.nexts
    (omega arith) c.loop-at_node.invariant.inside c.next_sibling-at_node.ensures.0

pub loop-at_node-preserved : goal.loop-at_node-preserved
loop-at_node-preserved c =
    passed_next _ _ _ _ _ _ _ c.requires.nodes.linked.links.nexts c.loop-at_node.invariant (omega arith)
    (kind_untold _ _ _ _ _ _ c.label.ensures.0 c.is_attribute.ensures (not-true _ c.if-is_attribute-attribute.true)) c.next_sibling-at_node.ensures.0

pub returns-else-is_attribute-attribute : goal.returns-else-is_attribute-attribute
returns-else-is_attribute-attribute c =
    sought_here _ _ _ _ _ c.loop-at_node.invariant (kind_told _ _ _ _ _ _ c.label.ensures.0 c.is_attribute.ensures (not-false _ c.if-is_attribute-attribute.false))
