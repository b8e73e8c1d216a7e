use mathlib.Core.Path.{refl}
use Rattle.step_rows.specs.Drawn.{parts_short, room_context, room_target, room_path, write_all}
use native.Mathlib.Omega.{arith}
use Rattle.step_rows.proofs.write_row.Goals as goal

pub overflow_add-rows : goal.overflow_add-rows
overflow_add-rows c = omega (arith, parts_short c.requires c.context-c.ensures c.target-t.ensures)

pub overflow_cast-rows : goal.overflow_cast-rows
overflow_cast-rows c = omega (arith, parts_short c.requires c.context-c.ensures c.target-t.ensures, c.requires.short_path)

pub copy-requires : goal.copy-requires
copy-requires c = search room_context

pub copy-requires-2 : goal.copy-requires-2
copy-requires-2 c = room_target c.requires c.context-c.ensures c.target-t.ensures _ c.copy.ensures

pub overflow_add-at-5 : goal.overflow_add-at-5
overflow_add-at-5 c = omega (arith, (room_path c.requires c.context-c.ensures c.target-t.ensures _ c.copy.ensures c.copy-2.ensures).fits)

pub copy-requires-3 : goal.copy-requires-3
copy-requires-3 c = room_path c.requires c.context-c.ensures c.target-t.ensures _ c.copy.ensures c.copy-2.ensures

pub returns : goal.returns
returns c = write_all c.requires c.context-c.ensures c.target-t.ensures _ c.copy.ensures c.copy-2.ensures refl c.copy-3.ensures
