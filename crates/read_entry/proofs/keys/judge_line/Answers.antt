use Rattle.std.proofs.lemmas.Result.{err_from_is_err_and}
use Rattle.read_judged.specs.Answers.{some_number}
use Rattle.read_entry.specs.Keys.{line_tests_by, head_stops, head_goes, head_room, line_whole, line_number, line_room}
use native.Mathlib.Omega.{arith}
use mathlib.Core.Path.{refl, ◌∙◌}
use Rattle.read_entry.proofs.keys.judge_line.Goals as goal

pub returns-in_err-judge_head : goal.returns-in_err-judge_head
unfolding line_tests_by
returns-in_err-judge_head c =
    let p = err_from_is_err_and c.from_residual.result c.from_residual.ensures.1 in rw (p.1, p.2) (head_stops 4 256 _ _ _ c.in_err-judge_head.ensures (some_number _))

pub word-end-requires : goal.word-end-requires
word-end-requires c = omega (arith, head_room 4 256 _ _ c.in_ok-judge_head.ensures refl)

pub slice_bounds-new-count : goal.slice_bounds-new-count
slice_bounds-new-count c = omega (arith, head_room 4 256 _ _ c.in_ok-judge_head.ensures refl, c.word-end.ensures.0, line_room 4 256 _ _ c.in_ok-judge_head.ensures refl c.word-end.ensures.0 refl)

pub slice_bounds-new-start : goal.slice_bounds-new-start
slice_bounds-new-start c = omega (arith, head_room 4 256 _ _ c.in_ok-judge_head.ensures refl, c.word-end.ensures.0, line_room 4 256 _ _ c.in_ok-judge_head.ensures refl c.word-end.ensures.0 refl)

pub slice_bounds-new-end : goal.slice_bounds-new-end
slice_bounds-new-end c = omega (arith, head_room 4 256 _ _ c.in_ok-judge_head.ensures refl, c.word-end.ensures.0)

pub new-key-requires : goal.new-key-requires
new-key-requires c = line_whole 4 256 _ _ c.in_ok-judge_head.ensures refl c.word-end.ensures.0 refl

pub returns : goal.returns
unfolding line_tests_by
returns c = line_number _ _ c.word-end.ensures.0 (rw c.new-key.ensures at c.key_refusal.ensures) ∙ head_goes 4 256 _ _ _ c.in_ok-judge_head.ensures refl
