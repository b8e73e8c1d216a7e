use Rattle.write_step.specs.Singles.{pair_fits, pair_in}
use Rattle.write_step.specs.RowKeys.{small_fits, of_small}
use lib.Seq.{length-take-le}
use mathlib.Core.Path.{sym}
use native.Mathlib.Omega.{arith}
use borrow.Author.Rules.{rules}
use Rattle.write_step.proofs.single.write_pair.Goals as goal

pub insert_path-set-requires : goal.insert_path-set-requires
insert_path-set-requires c = search (rules, pair_fits)

pub slice_bounds-write_part-end : goal.slice_bounds-write_part-end
slice_bounds-write_part-end c = sym (length-take-le _ _ (omega arith))

pub write_part-requires : goal.write_part-requires
write_part-requires c = let set = pair_in c.requires.1 c.put_number-behind.ensures c.insert_path-set.ensures in
    (c.requires.0, c.requires.1, small_fits set)

pub returns : goal.returns
returns c = let set = pair_in c.requires.1 c.put_number-behind.ensures c.insert_path-set.ensures in
    of_small _ _ _ _ set c.write_part.ensures
