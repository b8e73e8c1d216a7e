use Rattle.std.proofs.Common.{refl, get_or}
use Rattle.write_pattern.specs.Sketch.{no_entry}
use Rattle.write_tree.specs.Laws.{node_written}
use Rattle.write_tree.proofs.write_drawn.Goals as goal

pub returns : goal.returns
returns c =
    node_written _ c.args.drawing _ _ c.args.x {e = get_or c.args.drawing.entries c.args.x no_entry} refl c.from-above.ensures c.from.ensures c.is_element-element.ensures c.parent_of-parent.ensures
    c.value_of.ensures c.write_node.ensures
