use Rattle.std.proofs.Common.{rules, tests, sym, ◌∙◌}
use Rattle.std.proofs.lemmas.Result.{err_from_is_err_and}
use Rattle.read_judged.specs.Answers.{passes, faulted, some_number}
use Rattle.read_inputs.specs.QuestionWalks.{question_empty, question_first, question_alone, question_second, question_torn}
use Rattle.read_profile_keys.specs.KeyWalks.{key_here}
use Rattle.theory_records.specs.Bytes.{bytes_from}
use native.Mathlib.Nat.{pos_of_ne-zero}
use native.Mathlib.Omega.{arith}
use borrow.Author.Rules.{rules}
use Rattle.read_inputs.proofs.question.read_question.Goals as goal

pub returns-then-is_empty : goal.returns-then-is_empty
returns-then-is_empty c = λ labels t. question_empty labels _ (search (rules, tests))

pub returns-in_err-at_record : goal.returns-in_err-at_record
returns-in_err-at_record c =
    let p = err_from_is_err_and c.from_residual.result c.from_residual.ensures.1 in
    let f = faulted _ _ c.in_err-at_record.ensures in
    rw (p.1, p.2, ← f.number, ← f.at) (question_first _ (bytes_from _ (λ i h. (c.shared_slice_known-1.given i).fits)) (search (rules, tests)) c.judge_key.ensures (λ e. some_number _ (sym f.number ∙ e)))

pub word-end-requires : goal.word-end-requires
word-end-requires c = omega (arith, (key_here _ _ _ c.judge_key.ensures (passes _ _ _ c.in_ok-at_record.ensures)).head)

pub returns-then-end-bytes : goal.returns-then-end-bytes
returns-then-end-bytes c = λ labels t. question_alone _ (bytes_from _ (λ i h. (c.shared_slice_known-1.given i).fits)) (search (rules, tests)) c.judge_key.ensures (passes _ _ _ c.in_ok-at_record.ensures) c.word-end.ensures.0 labels t c.if-end-bytes.true

pub slice_bounds-whole-count : goal.slice_bounds-whole-count
slice_bounds-whole-count c = omega (arith, (key_here _ _ _ c.judge_key.ensures (passes _ _ _ c.in_ok-at_record.ensures)).within, c.word-end.ensures.0)

pub slice_bounds-whole-start : goal.slice_bounds-whole-start
slice_bounds-whole-start c = omega (arith, (key_here _ _ _ c.judge_key.ensures (passes _ _ _ c.in_ok-at_record.ensures)).within, c.word-end.ensures.0)

pub returns-then-whole : goal.returns-then-whole
returns-then-whole c = λ labels t. question_second _ (bytes_from _ (λ i h. (c.shared_slice_known-1.given i).fits)) (search (rules, tests)) c.judge_key.ensures (passes _ _ _ c.in_ok-at_record.ensures) c.word-end.ensures.0 labels t c.if-end-bytes.false c.whole.ensures c.if-whole.true

pub returns-else-whole : goal.returns-else-whole
returns-else-whole c = λ labels t. question_torn _ (bytes_from _ (λ i h. (c.shared_slice_known-1.given i).fits)) (search (rules, tests)) c.judge_key.ensures (passes _ _ _ c.in_ok-at_record.ensures) c.word-end.ensures.0 labels t c.if-end-bytes.false c.whole.ensures c.if-whole.false
