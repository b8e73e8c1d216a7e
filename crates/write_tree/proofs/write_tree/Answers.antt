use Rattle.write_tree.specs.Tree.{cut_within, first_room, second_room, tree_written}
use Rattle.write_tree.proofs.write_tree.Goals as goal

pub overflow_sub-gap : goal.overflow_sub-gap
overflow_sub-gap c = cut_within _ c.requires.0 c.draw_trunk-trunk.ensures c.draw_below-drawing.ensures

pub write_copy-requires-2 : goal.write_copy-requires-2
write_copy-requires-2 c = first_room _ c.requires.0 c.draw_trunk-trunk.ensures c.draw_below-drawing.ensures c.write_copy.ensures c.requires.1

pub write_copy-requires-3 : goal.write_copy-requires-3
write_copy-requires-3 c = second_room _ c.requires.0 c.draw_trunk-trunk.ensures c.draw_below-drawing.ensures c.write_copy.ensures c.write_copy-2.ensures c.requires.1

pub returns : goal.returns
returns c = tree_written _ c.requires.0 c.draw_trunk-trunk.ensures c.draw_below-drawing.ensures c.write_copy.ensures c.write_copy-2.ensures c.write_copy-3.ensures
