use Rattle.write_step.specs.RowKeys.{fronted_fits, of_set}
use lib.Seq.{length-take-le}
use mathlib.Core.Path.{sym}
use native.Mathlib.Omega.{arith}
use borrow.Author.Rules.{rules}
use Rattle.write_step.proofs.single.write_fronted.Goals as goal

pub slice_bounds-write_part-end : goal.slice_bounds-write_part-end
slice_bounds-write_part-end c = sym (length-take-le _ _ (omega arith))

pub write_part-requires : goal.write_part-requires
write_part-requires c = search (rules, fronted_fits)

pub returns : goal.returns
returns c = search (of_set)
