use native.Mathlib.Omega.{arith}
use Rattle.write_pattern.specs.DrawnParts.{room_of, room_less, cut_within, cut_before, on_few, below_drawn}
use Rattle.write_pattern.proofs.draw_below.Goals as goal

pub overflow_sub-to_u : goal.overflow_sub-to_u
overflow_sub-to_u c = cut_within c.requires.0 c.context-to_q.ensures

pub slice_bounds-draw_run-count : goal.slice_bounds-draw_run-count
slice_bounds-draw_run-count c = cut_before c.requires.0 c.context-to_q.ensures c.target-to_t.ensures

pub slice_bounds-draw_run-start : goal.slice_bounds-draw_run-start
slice_bounds-draw_run-start c = cut_before c.requires.0 c.context-to_q.ensures c.target-to_t.ensures

pub draw_run-t-requires : goal.draw_run-t-requires
draw_run-t-requires c = room_less c.requires.1 (let n = on_few c.requires.0 c.context-to_q.ensures c.target-to_t.ensures in omega arith)

pub draw_branches-requires : goal.draw_branches-requires
draw_branches-requires c = (c.requires.0.sizes, room_of _ c.draw_run-t.ensures (let r = c.requires.1.room in let n = on_few c.requires.0 c.context-to_q.ensures c.target-to_t.ensures in omega arith))

pub returns : goal.returns
returns c = below_drawn c.requires.0 c.context-to_q.ensures _ c.target-to_t.ensures c.holds_empty-whole.ensures c.requires.1 c.draw_run-t.ensures c.draw_branches.ensures
