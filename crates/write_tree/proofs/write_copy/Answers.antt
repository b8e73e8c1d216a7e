use mathlib.Core.Path.{refl}
use native.Mathlib.Omega.{arith}
use Rattle.write_tree.specs.Laws.{copied_start, copied_room, copied_rest, copied_next, copied_end}
use Rattle.write_tree.proofs.write_copy.Goals as goal

pub loop-x-init : goal.loop-x-init
loop-x-init c = copied_start c.requires

pub overflow_sub-at : goal.overflow_sub-at
overflow_sub-at c = c.loop-x.invariant.order

pub overflow_mul-at : goal.overflow_mul-at
overflow_mul-at c = let w = c.requires.within in omega arith

pub slice_bounds-write_drawn-count : goal.slice_bounds-write_drawn-count
slice_bounds-write_drawn-count c = let r = copied_room c.requires c.loop-x.invariant c.loop-x-test.true in omega arith

pub slice_bounds-write_drawn-start : goal.slice_bounds-write_drawn-start
slice_bounds-write_drawn-start c = let r = copied_room c.requires c.loop-x.invariant c.loop-x-test.true in omega arith

pub write_drawn-requires : goal.write_drawn-requires
write_drawn-requires c = (c.requires.sized, let w = c.requires.within in omega arith, c.requires.small, copied_rest c.requires c.loop-x.invariant c.loop-x-test.true)

pub loop-x-preserved : goal.loop-x-preserved
loop-x-preserved c = copied_next _ c.loop-x.invariant c.loop-x-test.true refl c.write_drawn.ensures

pub returns : goal.returns
returns c = copied_end c.loop-x.invariant c.loop-x-test.false
