use lib.Seq.{length-take-le}
use mathlib.Core.Path.{sym}
use Rattle.theory_records.specs.Bytes.{bytes_from}
use native.Mathlib.Omega.{arith}
use borrow.Author.Rules.{rules}
use mathlib.Core.Path.{refl}
use Rattle.write_chosen.specs.Choosing.{choosing_start, choosing_long, choosing_room, choosing_count, choosing_next, choosing_end}
use Rattle.write_chosen.proofs.records.put_chosen.Goals as goal

pub loop-n-init : goal.loop-n-init
loop-n-init c = choosing_start c.requires.0 _

pub slice_bounds-put_if-end : goal.slice_bounds-put_if-end
slice_bounds-put_if-end c = sym (length-take-le _ _ (choosing_long c.requires.0 _ c.requires.1 c.loop-n.invariant c.loop-n-test.true c.front_length-end.ensures))

pub bounds-stays-n : goal.bounds-stays-n
bounds-stays-n c = omega (arith, c.requires.0.few)

pub put_if-chosen-requires : goal.put_if-chosen-requires
put_if-chosen-requires c = (choosing_room c.requires.0 _ c.requires.1 c.loop-n.invariant c.loop-n-test.true c.front_length-end.ensures (bytes_from _ (λ i h. (c.shared_slice_known-1.given i).fits)), choosing_count c.requires.0 _ c.requires.1 c.loop-n.invariant c.loop-n-test.true)

pub slice_bounds-rest-count : goal.slice_bounds-rest-count
slice_bounds-rest-count c = choosing_long c.requires.0 _ c.requires.1 c.loop-n.invariant c.loop-n-test.true c.front_length-end.ensures

pub slice_bounds-rest-start : goal.slice_bounds-rest-start
slice_bounds-rest-start c = omega (arith, choosing_long c.requires.0 _ c.requires.1 c.loop-n.invariant c.loop-n-test.true c.front_length-end.ensures)

pub loop-n-preserved : goal.loop-n-preserved
loop-n-preserved c = choosing_next c.requires.0 _ c.requires.1 c.loop-n.invariant c.loop-n-test.true c.front_length-end.ensures (bytes_from _ (λ i h. (c.shared_slice_known-1.given i).fits)) refl c.put_if-chosen.ensures refl

pub shape_of-out : goal.shape_of-out
shape_of-out c = c.loop-n.invariant.chose.wrote.kept

pub returns : goal.returns
returns c = choosing_end c.requires.0 _ c.requires.1 c.loop-n.invariant (search rules)
