use Rattle.write_proof.specs.Whole.{body_is, record_end, record_long, taken_wrote}
use Rattle.write_proof.specs.Asks.{SpotReady}
use Rattle.step_search.specs.Ranges.{step_of}
use Prim.Native.Nat.{ℕ}
use mathlib.Core.List.{List}
use mathlib.Core.Path.{sym, subst}
use native.Mathlib.Omega.{arith}
use Rattle.write_proof.proofs.write_taken.Goals as goal

pub overflow_add-labels : goal.overflow_add-labels
unfolding step_of
overflow_add-labels c = let s = c.requires.0.small in record { fits = omega arith }

pub slice_bounds-write_step-count : goal.slice_bounds-write_step-count
unfolding step_of
slice_bounds-write_step-count c = let e = record_end _ _ _ c.record_at-rest.ensures c.front_length-end.ensures in let l = record_long _ _ _ c.record_at-rest.ensures c.front_length-end.ensures in let g = c.requires.0.long in let w = c.requires.0.within in omega arith

pub slice_bounds-write_step-start : goal.slice_bounds-write_step-start
unfolding step_of
slice_bounds-write_step-start c = let e = record_end _ _ _ c.record_at-rest.ensures c.front_length-end.ensures in let l = record_long _ _ _ c.record_at-rest.ensures c.front_length-end.ensures in let g = c.requires.0.long in let w = c.requires.0.within in omega arith

pub slice_bounds-write_step-end : goal.slice_bounds-write_step-end
unfolding step_of
slice_bounds-write_step-end c = let e = record_end _ _ _ c.record_at-rest.ensures c.front_length-end.ensures in let l = record_long _ _ _ c.record_at-rest.ensures c.front_length-end.ensures in let g = c.requires.0.long in let w = c.requires.0.within in omega arith

pub write_step-requires : goal.write_step-requires
unfolding step_of
write_step-requires c = (subst (λ (b : List ℕ). SpotReady c.args.asked.now b c.args.step.node c.args.step.branch c.args.step.spot) (sym (body_is _ _ _ c.record_at-rest.ensures c.front_length-end.ensures)) c.requires.0.ready, c.requires.1)

pub returns : goal.returns
unfolding step_of
returns c = taken_wrote _ _ _ (step_of c.args.step) _ (body_is _ _ _ c.record_at-rest.ensures c.front_length-end.ensures) c.write_step.ensures
