use Rattle.std.proofs.lemmas.Result.{err_from_is_err_and}
use Rattle.read_judged.specs.Answers.{some_number}
use Rattle.read_entry.specs.Keys.{key_record_tests_by, head_stops, head_goes, head_room, key_whole, key_number}
use native.Mathlib.Omega.{arith}
use mathlib.Core.Path.{refl, ◌∙◌}
use Rattle.read_entry.proofs.keys.judge_key.Goals as goal

pub returns-in_err-judge_head : goal.returns-in_err-judge_head
unfolding key_record_tests_by
returns-in_err-judge_head c =
    let p = err_from_is_err_and c.from_residual.result c.from_residual.ensures.1 in rw (p.1, p.2) (head_stops 2 64 _ _ _ c.in_err-judge_head.ensures (some_number _))

pub word-end-requires : goal.word-end-requires
word-end-requires c = omega (arith, head_room 2 64 _ _ c.in_ok-judge_head.ensures refl)

pub slice_bounds-new-count : goal.slice_bounds-new-count
slice_bounds-new-count c = omega (arith, head_room 2 64 _ _ c.in_ok-judge_head.ensures refl, c.word-end.ensures.0)

pub slice_bounds-new-start : goal.slice_bounds-new-start
slice_bounds-new-start c = omega (arith, head_room 2 64 _ _ c.in_ok-judge_head.ensures refl, c.word-end.ensures.0)

pub slice_bounds-new-end : goal.slice_bounds-new-end
slice_bounds-new-end c = omega (arith, head_room 2 64 _ _ c.in_ok-judge_head.ensures refl, c.word-end.ensures.0)

pub new-key-requires : goal.new-key-requires
new-key-requires c = key_whole 2 64 _ _ c.in_ok-judge_head.ensures refl c.word-end.ensures.0 refl

pub returns : goal.returns
unfolding key_record_tests_by
returns c = key_number _ _ c.word-end.ensures.0 (rw c.new-key.ensures at c.key_refusal.ensures) ∙ head_goes 2 64 _ _ _ c.in_ok-judge_head.ensures refl
