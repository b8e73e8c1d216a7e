use Rattle.write_proof.specs.Sizes.{size_within}
use Rattle.step_search.specs.Ranges.{step_of}
use mathlib.Core.Path.{refl, ◌∙◌}
use native.Mathlib.Omega.{arith}
use Rattle.write_proof.specs.Whole.{writing_start, writing_room, writing_next, writing_end, last_fits, last_is}
use Rattle.write_proof.proofs.write_proof.Goals as goal

pub write_first-requires : goal.write_first-requires
write_first-requires c = (c.requires.key, let r = c.requires.room in omega arith, c.requires.on_chain)

pub loop-n-init : goal.loop-n-init
loop-n-init c = writing_start _ _ _ _ _ _ _ (let s = c.write_first.ensures.wrote.room in let a = c.write_first.ensures.wrote.after in let k = c.write_first.ensures.wrote.kept in omega arith)

pub offset_bounds-steps-n : goal.offset_bounds-steps-n
offset_bounds-steps-n c = let p = c.requires in let r = p.room in let f = p.few in let w = c.loop-n.invariant.within in let l = c.loop-n.invariant.lines_few in let a = c.loop-n.invariant.at_few in let s = c.write_first.ensures.short in let k = c.write_first.ensures.wrote.kept in let o = c.loop-n.invariant.some in let m = c.loop-n.invariant.wrote.wrote.kept in record { fits = omega arith }

pub bounds-steps-n : goal.bounds-steps-n
bounds-steps-n c = let p = c.requires in let r = p.room in let f = p.few in let w = c.loop-n.invariant.within in let l = c.loop-n.invariant.lines_few in let a = c.loop-n.invariant.at_few in let s = c.write_first.ensures.short in let k = c.write_first.ensures.wrote.kept in let o = c.loop-n.invariant.some in let m = c.loop-n.invariant.wrote.wrote.kept in omega arith

pub write_taken-requires : goal.write_taken-requires
write_taken-requires c = let p = c.requires in let r = p.room in let f = p.few in let w = c.loop-n.invariant.within in let l = c.loop-n.invariant.lines_few in let a = c.loop-n.invariant.at_few in let s = c.write_first.ensures.short in let k = c.write_first.ensures.wrote.kept in let o = c.loop-n.invariant.some in let m = c.loop-n.invariant.wrote.wrote.kept in (c.requires.each _ (omega arith), writing_room c.loop-n.invariant f (omega arith) (omega arith) c.loop-n-test.true)

pub step_size-requires : goal.step_size-requires
step_size-requires c = c.requires.key

pub overflow_add-place : goal.overflow_add-place
overflow_add-place c = let p = c.requires in let r = p.room in let f = p.few in let w = c.loop-n.invariant.within in let l = c.loop-n.invariant.lines_few in let y = size_within _ _ c.step_size.ensures in record { fits = omega arith }

pub loop-n-preserved : goal.loop-n-preserved
unfolding step_of
loop-n-preserved c = writing_next c.loop-n.invariant c.loop-n-test.true _ refl c.write_taken.ensures c.step_size.ensures

pub overflow_sub-place : goal.overflow_sub-place
overflow_sub-place c = let p = c.requires in let r = p.room in let f = p.few in let w = c.loop-n.invariant.within in let l = c.loop-n.invariant.lines_few in let a = c.loop-n.invariant.at_few in let s = c.write_first.ensures.short in let k = c.write_first.ensures.wrote.kept in let o = c.loop-n.invariant.some in let m = c.loop-n.invariant.wrote.wrote.kept in omega arith

pub context-requires : goal.context-requires
context-requires c = c.requires.key.reads

pub target-requires : goal.target-requires
target-requires c = c.requires.key.reads

pub write_of_key-requires : goal.write_of_key-requires
write_of_key-requires c = let p = c.requires in let r = p.room in let f = p.few in let w = c.loop-n.invariant.within in let l = c.loop-n.invariant.lines_few in let a = c.loop-n.invariant.at_few in let s = c.write_first.ensures.short in let k = c.write_first.ensures.wrote.kept in let o = c.loop-n.invariant.some in let m = c.loop-n.invariant.wrote.wrote.kept in last_fits c.requires.key c.context.ensures c.target.ensures (omega arith)

pub shape_of-out : goal.shape_of-out
shape_of-out c = c.write_of_key.ensures.wrote.kept ∙ c.loop-n.invariant.wrote.wrote.kept ∙ c.write_first.ensures.wrote.kept

pub returns : goal.returns
returns c = writing_end c.loop-n.invariant c.loop-n-test.false _ _ _ (last_is c.requires.key c.context.ensures c.target.ensures c.requires.normal) c.write_first.ensures c.write_of_key.ensures
