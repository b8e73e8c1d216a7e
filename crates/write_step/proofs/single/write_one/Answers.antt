use Rattle.write_step.specs.Singles.{one_fits, one_in}
use Rattle.write_step.specs.RowKeys.{of_set}
use lib.Seq.{length-take-le}
use mathlib.Core.Path.{sym}
use native.Mathlib.Omega.{arith}
use borrow.Author.Rules.{rules}
use Rattle.write_step.proofs.single.write_one.Goals as goal

pub slice_bounds-write_part-end : goal.slice_bounds-write_part-end
slice_bounds-write_part-end c = sym (length-take-le _ _ (omega arith))

pub write_part-requires : goal.write_part-requires
write_part-requires c = search (rules, one_fits)

pub returns : goal.returns
returns c = search (of_set, one_in)
