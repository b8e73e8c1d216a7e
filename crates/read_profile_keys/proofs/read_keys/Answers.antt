use Rattle.read_profile_keys.specs.KeyWalks.{keys_start, key_here, standing_keys, keys_stop, keys_twice, keys_next, keys_end}
use Rattle.theory_records.specs.Heads.{shorter}
use Rattle.theory_records.specs.Bytes.{bytes_from}
use borrow.Author.Rules.{rules}
use native.Mathlib.Omega.{arith}
use Rattle.std.proofs.Common.{rules, tests, sym, ◌∙◌}
use Rattle.std.proofs.lemmas.Result.{err_from_is_err_and}
use Rattle.read_judged.specs.Answers.{passes, faulted, some_number}
use Rattle.read_profile_keys.proofs.read_keys.Goals as goal

pub loop-rest-init : goal.loop-rest-init
loop-rest-init c = keys_start _ _ (bytes_from _ (λ i h. (c.shared_slice_known-1.given i).fits)) c.requires

pub returns-in_err-at_record : goal.returns-in_err-at_record
returns-in_err-at_record c =
    let p = err_from_is_err_and c.from_residual.result c.from_residual.ensures.1 in
    let f = faulted _ _ c.in_err-at_record.ensures in
    rw (p.1, p.2, ← f.number, ← f.at) (keys_stop c.loop-rest.invariant c.judge_key.ensures (search rules) (λ e. some_number _ (sym f.number ∙ e)))

pub word-end-requires : goal.word-end-requires
word-end-requires c = omega (arith, (key_here _ _ _ c.judge_key.ensures (passes _ _ _ c.in_ok-at_record.ensures)).head)

pub slice_bounds-part_used-count : goal.slice_bounds-part_used-count
slice_bounds-part_used-count c = omega (arith, (key_here _ _ _ c.judge_key.ensures (passes _ _ _ c.in_ok-at_record.ensures)).long, c.word-end.ensures.0)

pub slice_bounds-part_used-start : goal.slice_bounds-part_used-start
slice_bounds-part_used-start c = omega (arith, (key_here _ _ _ c.judge_key.ensures (passes _ _ _ c.in_ok-at_record.ensures)).long, c.word-end.ensures.0)

pub slice_bounds-part_used-end : goal.slice_bounds-part_used-end
slice_bounds-part_used-end c = omega (arith, (key_here _ _ _ c.judge_key.ensures (passes _ _ _ c.in_ok-at_record.ensures)).within, c.word-end.ensures.0)

pub part_used-requires : goal.part_used-requires
part_used-requires c = (omega arith, standing_keys _ _ c.loop-rest.invariant.records)

pub returns-then-part_used : goal.returns-then-part_used
returns-then-part_used c = keys_twice c.loop-rest.invariant c.judge_key.ensures (search (rules, tests)) (passes _ _ _ c.in_ok-at_record.ensures) c.word-end.ensures.0 c.part_used.ensures c.if-part_used.true

pub slice_bounds-rest-count : goal.slice_bounds-rest-count
slice_bounds-rest-count c = omega (arith, (key_here _ _ _ c.judge_key.ensures (passes _ _ _ c.in_ok-at_record.ensures)).within, c.word-end.ensures.0)

pub slice_bounds-rest-start : goal.slice_bounds-rest-start
slice_bounds-rest-start c = omega (arith, (key_here _ _ _ c.judge_key.ensures (passes _ _ _ c.in_ok-at_record.ensures)).within, c.word-end.ensures.0)

pub overflow_add-keys : goal.overflow_add-keys
overflow_add-keys c = omega (arith, c.loop-rest.invariant.size)

pub loop-rest-smaller : goal.loop-rest-smaller
loop-rest-smaller c = shorter c.loop-rest.rest.now c.word-end.result (omega (arith, c.word-end.ensures.0, (key_here _ _ _ c.judge_key.ensures (passes _ _ _ c.in_ok-at_record.ensures)).long)) (omega (arith, (key_here _ _ _ c.judge_key.ensures (passes _ _ _ c.in_ok-at_record.ensures)).within, c.word-end.ensures.0))

pub loop-rest-preserved : goal.loop-rest-preserved
loop-rest-preserved c = keys_next c.loop-rest.invariant c.judge_key.ensures (search (rules, tests)) (passes _ _ _ c.in_ok-at_record.ensures) c.word-end.ensures.0 c.part_used.ensures c.if-part_used.false

pub returns : goal.returns
returns c = keys_end c.loop-rest.invariant (search (rules, tests))
