use native.Mathlib.Omega.{arith}
use Rattle.std.proofs.Common.{rules, tests}
use mathlib.Core.Path.{refl, sym, ◌∙◌}
use Rattle.theory_records.specs.Bytes.{bytes_from}
use Rattle.theory_records.specs.Heads.{passed, shorter}
use Rattle.read_salvage.specs.Loop.{loop_fits, loop_few, loop_most, loop_used, one_more}
use Rattle.read_salvage.specs.Ends.{loop_start, loop_done, loop_torn}
use mathlib.Core.Path.{ap}
use mathlib.Core.Bool.{not}
use Rattle.read_salvage.proofs.salvage.pass_records.Goals as goal

pub loop-rest-init : goal.loop-rest-init
loop-rest-init c = (loop_start c.requires.0 (bytes_from _ (λ i h. (c.shared_slice_known-1.given i).fits)) c.requires.1 c.no_places-places.ensures c.requires.2, refl)

pub returns-then-not-whole : goal.returns-then-not-whole
returns-then-not-whole c = loop_torn c.requires.0 c.loop-rest.invariant.0 (search (rules, tests)) c.whole.ensures (ap not c.if-not-whole.true) c.bytes_of.ensures.0

pub judge_record-judged-requires : goal.judge_record-judged-requires
judge_record-judged-requires c = let v = c.loop-rest.invariant.0 in (v.is_node, loop_fits v, (loop_most v).0, v.numbers, sym c.whole.ensures ∙ c.if-not-whole.false)

pub overflow_cast-reasons : goal.overflow_cast-reasons
overflow_cast-reasons c = let l = c.judge_record-judged.ensures.low in let e = c.reason_of.ensures in omega arith

pub bounds-reasons-records : goal.bounds-reasons-records
bounds-reasons-records c = loop_few c.loop-rest.invariant.0 (passed _ c.whole.ensures (ap not c.if-not-whole.false)).head

pub new_number-requires : goal.new_number-requires
new_number-requires c = let m = (loop_most c.loop-rest.invariant.0).1 in omega arith

pub overflow_cast-places : goal.overflow_cast-places
overflow_cast-places c = let l = c.new_number.ensures.1 in search rules

pub offset_bounds-places-records : goal.offset_bounds-places-records
offset_bounds-places-records c = let m = (loop_most c.loop-rest.invariant.0).0 in search rules

pub bounds-places-records : goal.bounds-places-records
bounds-places-records c = loop_few c.loop-rest.invariant.0 (passed _ c.whole.ensures (ap not c.if-not-whole.false)).head

pub kept_nodes-nodes-requires : goal.kept_nodes-nodes-requires
kept_nodes-nodes-requires c = let m = (loop_most c.loop-rest.invariant.0).1 in omega arith

pub overflow_add-records : goal.overflow_add-records
overflow_add-records c = let m = (loop_most c.loop-rest.invariant.0).0 in search rules

pub word-end-requires : goal.word-end-requires
word-end-requires c = let p = (passed _ c.whole.ensures (ap not c.if-not-whole.false)).head in omega arith

pub slice_bounds-rest-count : goal.slice_bounds-rest-count
slice_bounds-rest-count c = let p = (passed _ c.whole.ensures (ap not c.if-not-whole.false)).within in let e = c.word-end.ensures.0 in omega arith

pub slice_bounds-rest-start : goal.slice_bounds-rest-start
slice_bounds-rest-start c = let p = (passed _ c.whole.ensures (ap not c.if-not-whole.false)).within in let e = c.word-end.ensures.0 in omega arith

pub loop-rest-smaller : goal.loop-rest-smaller
loop-rest-smaller c = let p = passed _ c.whole.ensures (ap not c.if-not-whole.false) in let l = p.long in let h = p.within in let e = c.word-end.ensures.0 in shorter c.loop-rest.rest.now c.word-end.result (omega arith) (omega arith)

pub loop-rest-preserved : goal.loop-rest-preserved
loop-rest-preserved c = (one_more c.loop-rest.invariant.0 (bytes_from _ (λ i h. (c.slice_known-in-loop-rest-1.given i).fits)) c.judge_record-judged.auto.out c.whole.ensures (ap not c.if-not-whole.false) (rw c.reason_of.ensures c.judge_record-judged.ensures) (rw c.reason_of.ensures c.new_number.ensures.0) (rw c.reason_of.ensures c.kept_nodes-nodes.ensures) c.word-end.ensures.0, c.judge_record-judged.auto.out ∙ c.loop-rest.invariant.1)

pub returns : goal.returns
returns c = loop_done c.requires.0 c.loop-rest.invariant.0 (search (rules, tests)) c.bytes_of-2.ensures.0

pub overflow_mul-result-2 : goal.overflow_mul-result-2
overflow_mul-result-2 c = let u = loop_used c.loop-rest.invariant.0 c.bytes_of-2.ensures.0 in search rules
