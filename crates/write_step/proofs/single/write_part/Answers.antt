use Rattle.write_step.specs.RowKeys.{part_fits}
use Rattle.write_step.specs.Lines.{line_one}
use lib.Seq.{length-take-le}
use mathlib.Core.Path.{sym}
use native.Mathlib.Omega.{arith}
use Rattle.write_step.proofs.single.write_part.Goals as goal

pub slice_bounds-write_line-end : goal.slice_bounds-write_line-end
slice_bounds-write_line-end c = sym (length-take-le _ _ (omega arith))

pub write_line-requires : goal.write_line-requires
write_line-requires c = search (part_fits)

pub returns : goal.returns
returns c = search (line_one)
