use native.Mathlib.Omega.{arith}
use Rattle.write_pattern.specs.DrawnParts.{room_of, cut_within, cut_before, context_few, up_few, trunk_drawn}
use Rattle.write_pattern.proofs.draw_trunk.Goals as goal

pub draw_run-q-requires : goal.draw_run-q-requires
draw_run-q-requires c = room_of _ c.add-root.ensures (let a = c.blank.ensures.short in let b = context_few c.requires c.context-to_q.ensures in omega arith)

pub overflow_sub-to_u : goal.overflow_sub-to_u
overflow_sub-to_u c = cut_within c.requires c.context-to_q.ensures

pub slice_bounds-draw_run-end : goal.slice_bounds-draw_run-end
slice_bounds-draw_run-end c = cut_before c.requires c.context-to_q.ensures c.target-to_t.ensures

pub draw_run-requires : goal.draw_run-requires
draw_run-requires c = room_of _ c.draw_run-q.ensures (let a = c.blank.ensures.short in let d = c.add-root.ensures.short in let b = context_few c.requires c.context-to_q.ensures in let n = up_few c.requires c.context-to_q.ensures c.target-to_t.ensures in omega arith)

pub returns : goal.returns
returns c = trunk_drawn c.requires c.context-to_q.ensures _ c.target-to_t.ensures c.blank.ensures c.add-root.ensures c.draw_run-q.ensures c.draw_run.ensures
