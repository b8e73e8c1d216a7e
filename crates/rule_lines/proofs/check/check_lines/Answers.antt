use Rattle.std.proofs.Common.{rules, arith, tests, sym, refl, ◌∙◌}
use Rattle.std.proofs.lemmas.Result.{err_from_is_err_and}
use Rattle.read_judged.specs.Answers.{passes, faulted, some_number}
use Rattle.theory_records.specs.Bytes.{bytes_from}
use Rattle.theory_records.specs.Heads.{shorter}
use Rattle.rule_lines.specs.Checking.{checked_answer, given_labels, given_single, given_is, part_keys, part_are, sofar_start, line_judged, sofar_refused, sofar_head, sofar_start_of, sofar_end_of, sofar_body, sofar_next, sofar_unfollowed, sofar_done}
use Rattle.rule_lines.proofs.check.check_lines.Goals as goal

pub loop-part-init : goal.loop-part-init
loop-part-init c = sofar_start _ _ _ _ (bytes_from _ (λ i h. (c.type_inv.proof i).fits))

pub returns-in_err-at_record : goal.returns-in_err-at_record
unfolding checked_answer
returns-in_err-at_record c =
    let p = err_from_is_err_and c.from_residual.result c.from_residual.ensures.1 in
    let f = faulted _ _ c.in_err-at_record.ensures in
    rw (p.1, p.2, ← f.number, ← f.at)
    (sofar_refused (line_judged c.loop-part.invariant c.requires.tabled (search (rules, tests)) c.judge_line.ensures) _
    (λ e. some_number _ (sym f.number ∙ e)))

pub word-end-requires : goal.word-end-requires
word-end-requires c = omega (arith, sofar_head (line_judged c.loop-part.invariant c.requires.tabled (search (rules, tests)) c.judge_line.ensures) (passes _ _ _ c.in_ok-at_record.ensures))

pub slice_bounds-follows-count : goal.slice_bounds-follows-count
slice_bounds-follows-count c = sofar_start_of (line_judged c.loop-part.invariant c.requires.tabled (search (rules, tests)) c.judge_line.ensures) (passes _ _ _ c.in_ok-at_record.ensures) c.word-end.ensures.0

pub slice_bounds-follows-start : goal.slice_bounds-follows-start
slice_bounds-follows-start c = sofar_start_of (line_judged c.loop-part.invariant c.requires.tabled (search (rules, tests)) c.judge_line.ensures) (passes _ _ _ c.in_ok-at_record.ensures) c.word-end.ensures.0

pub slice_bounds-follows-end : goal.slice_bounds-follows-end
slice_bounds-follows-end c = sofar_end_of (line_judged c.loop-part.invariant c.requires.tabled (search (rules, tests)) c.judge_line.ensures) (passes _ _ _ c.in_ok-at_record.ensures) c.word-end.ensures.0

pub follows-requires : goal.follows-requires
follows-requires c = (part_keys c.requires c.record_at-part.ensures, c.loop-part.invariant.earlier, sofar_body (line_judged c.loop-part.invariant c.requires.tabled (search (rules, tests)) c.judge_line.ensures) (passes _ _ _ c.in_ok-at_record.ensures) c.word-end.ensures.0)

pub returns-then-not-follows : goal.returns-then-not-follows
returns-then-not-follows c = sofar_unfollowed (line_judged c.loop-part.invariant c.requires.tabled (search (rules, tests)) c.judge_line.ensures) (passes _ _ _ c.in_ok-at_record.ensures) c.word-end.ensures.0 (given_labels c.requires) (given_single c.requires) (part_are c.requires c.record_at-part.ensures) c.follows.ensures _ (search (rules, tests)) c.at_record-then-not-follows.ensures

pub slice_bounds-rest-count : goal.slice_bounds-rest-count
slice_bounds-rest-count c = sofar_end_of (line_judged c.loop-part.invariant c.requires.tabled (search (rules, tests)) c.judge_line.ensures) (passes _ _ _ c.in_ok-at_record.ensures) c.word-end.ensures.0

pub slice_bounds-rest-start : goal.slice_bounds-rest-start
slice_bounds-rest-start c = sofar_end_of (line_judged c.loop-part.invariant c.requires.tabled (search (rules, tests)) c.judge_line.ensures) (passes _ _ _ c.in_ok-at_record.ensures) c.word-end.ensures.0

pub loop-part-smaller : goal.loop-part-smaller
loop-part-smaller c =
    shorter c.loop-part.rest.now c.word-end.result (omega (arith, sofar_start_of (line_judged c.loop-part.invariant c.requires.tabled (search (rules, tests)) c.judge_line.ensures) (passes _ _ _ c.in_ok-at_record.ensures) c.word-end.ensures.0)) (omega (arith, sofar_end_of (line_judged c.loop-part.invariant c.requires.tabled (search (rules, tests)) c.judge_line.ensures) (passes _ _ _ c.in_ok-at_record.ensures) c.word-end.ensures.0))

pub loop-part-preserved : goal.loop-part-preserved
loop-part-preserved c = sofar_next (line_judged c.loop-part.invariant c.requires.tabled (search (rules, tests)) c.judge_line.ensures) (passes _ _ _ c.in_ok-at_record.ensures) c.word-end.ensures.0 (given_labels c.requires) (given_single c.requires) (part_are c.requires c.record_at-part.ensures) c.follows.ensures (search (rules, tests)) refl

pub last_is-requires : goal.last_is-requires
last_is-requires c = (c.loop-part.invariant.earlier, given_is c.requires)

pub returns : goal.returns
returns c = sofar_done c.loop-part.invariant (search (rules, tests)) c.last_is.ensures
