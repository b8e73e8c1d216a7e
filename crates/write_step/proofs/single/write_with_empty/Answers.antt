use Rattle.write_step.specs.Singles.{with_fits, with_in}
use Rattle.write_step.specs.RowKeys.{small_fits, of_small}
use Rattle.write_step.specs.Fits.{body_put}
use lib.Seq.{length-take-le}
use mathlib.Core.Path.{sym}
use native.Mathlib.Omega.{arith}
use borrow.Author.Rules.{rules}
use Rattle.write_step.proofs.single.write_with_empty.Goals as goal

pub put-behind-requires : goal.put-behind-requires
put-behind-requires c = search (rules, body_put)

pub insert_path-set-requires : goal.insert_path-set-requires
insert_path-set-requires c = search (rules, with_fits)

pub slice_bounds-write_part-end : goal.slice_bounds-write_part-end
slice_bounds-write_part-end c = sym (length-take-le _ _ (omega arith))

pub write_part-requires : goal.write_part-requires
write_part-requires c = let set = with_in c.requires.1 c.paths-bytes.ensures c.count.ensures.0 c.put-behind.ensures c.insert_path-set.ensures in
    (omega arith, c.requires.0, small_fits set)

pub returns : goal.returns
returns c = let set = with_in c.requires.1 c.paths-bytes.ensures c.count.ensures.0 c.put-behind.ensures c.insert_path-set.ensures in
    of_small _ _ _ _ set c.write_part.ensures
