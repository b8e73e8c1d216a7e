use Rattle.write_proof.specs.Whole.{step_wrote}
use Rattle.write_proof.specs.Asks.{on_row_lem}
use Rattle.write_bytes.specs.Wrote.{part_length}
use mathlib.Core.Path.{sym}
use Rattle.write_proof.proofs.write_step.Goals as goal

pub slice_bounds-write_on-end : goal.slice_bounds-write_on-end
slice_bounds-write_on-end c = sym (part_length c.put_asked-end.ensures)

pub write_on-requires : goal.write_on-requires
write_on-requires c = on_row_lem c.requires.0 c.requires.1 c.put_asked-end.ensures

pub returns : goal.returns
returns c = step_wrote _ _ _ _ _ c.requires.0 c.put_asked-end.ensures c.write_on.ensures
