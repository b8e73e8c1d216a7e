use Rattle.read_judged.specs.Answers.{some_number}
use mathlib.Core.Path.{refl, sym, ◌∙◌}
use Rattle.read_inputs.specs.ProfileWalks.{profile_label, profile_key, profile_sound}
use Rattle.read_inputs.specs.LabelWalks.{LabelLoop, labels_start, label_here, label_body, label_refused, label_next}
use Rattle.theory_records.specs.Heads.{shorter}
use borrow.Author.Rules.{rules}
use native.Mathlib.Omega.{arith}
use lib.ListN.{length}
use mathlib.Core.Path.{ap}
use mathlib.Core.Bool.{not}
use Rattle.read_inputs.proofs.profile.read_entries.Goals as goal

pub loop-end-init : goal.loop-end-init
loop-end-init c = labels_start _ _

pub word-end-requires : goal.word-end-requires
word-end-requires c = omega (arith, label_here _ c.is_label_record.ensures c.loop-end-test.true)

pub slice_bounds-good_label-count : goal.slice_bounds-good_label-count
slice_bounds-good_label-count c = omega (arith, (label_here _ c.is_label_record.ensures c.loop-end-test.true).long, c.word-end.ensures.0)

pub slice_bounds-good_label-start : goal.slice_bounds-good_label-start
slice_bounds-good_label-start c = omega (arith, (label_here _ c.is_label_record.ensures c.loop-end-test.true).long, c.word-end.ensures.0)

pub slice_bounds-good_label-end : goal.slice_bounds-good_label-end
slice_bounds-good_label-end c = omega (arith, (label_here _ c.is_label_record.ensures c.loop-end-test.true).within, c.word-end.ensures.0)

pub good_label-requires : goal.good_label-requires
good_label-requires c = (c.loop-end.invariant.records, c.loop-end.invariant.highest, label_body _ c.is_label_record.ensures c.loop-end-test.true c.word-end.ensures.0)

pub overflow_add-result : goal.overflow_add-result
overflow_add-result c = let s = c.loop-end.invariant.size in let p = c.requires in let q = p.0 in let z = p.1 in omega arith

pub returns-then-not-good_label : goal.returns-then-not-good_label
returns-then-not-good_label c = profile_label _ _ _ (label_refused c.loop-end.invariant c.is_label_record.ensures c.loop-end-test.true c.word-end.ensures.0 c.good_label.ensures (ap not c.if-not-good_label.true))

pub bounds-rest-4 : goal.bounds-rest-4
bounds-rest-4 c = omega (arith, (label_here _ c.is_label_record.ensures c.loop-end-test.true).within, (label_here _ c.is_label_record.ensures c.loop-end-test.true).long)

pub bounds-rest-5 : goal.bounds-rest-5
bounds-rest-5 c = omega (arith, (label_here _ c.is_label_record.ensures c.loop-end-test.true).within, (label_here _ c.is_label_record.ensures c.loop-end-test.true).long)

pub bounds-classes-last : goal.bounds-classes-last
bounds-classes-last c = omega (arith, c.from-last.ensures)

pub slice_bounds-rest-count : goal.slice_bounds-rest-count
slice_bounds-rest-count c = omega (arith, (label_here _ c.is_label_record.ensures c.loop-end-test.true).within, c.word-end.ensures.0)

pub slice_bounds-rest-start : goal.slice_bounds-rest-start
slice_bounds-rest-start c = omega (arith, (label_here _ c.is_label_record.ensures c.loop-end-test.true).within, c.word-end.ensures.0)

pub overflow_add-labels : goal.overflow_add-labels
overflow_add-labels c = omega (arith, c.loop-end.invariant.size, c.requires.0)

pub loop-end-smaller : goal.loop-end-smaller
loop-end-smaller c = shorter c.loop-end.rest.now c.word-end.result (omega (arith, (label_here _ c.is_label_record.ensures c.loop-end-test.true).long, c.word-end.ensures.0)) (omega (arith, (label_here _ c.is_label_record.ensures c.loop-end-test.true).within, c.word-end.ensures.0))

pub loop-end-preserved : goal.loop-end-preserved
loop-end-preserved c = label_next c.loop-end.invariant c.is_label_record.ensures c.loop-end-test.true c.word-end.ensures.0 c.good_label.ensures (ap not c.if-not-good_label.false) c.from-last.ensures refl

pub read_keys-requires : goal.read_keys-requires
read_keys-requires c = sym c.is_label_record.ensures ∙ c.loop-end-test.false

pub overflow_add-before : goal.overflow_add-before
overflow_add-before c = let s = c.loop-end.invariant.size in let p = c.requires in let q = p.0 in let z = p.1 in omega arith

pub returns-in-Err : goal.returns-in-Err
returns-in-Err c = profile_key c.loop-end.invariant c.in-Err.ensures (some_number _)

pub returns-in-Ok : goal.returns-in-Ok
returns-in-Ok c = (profile_sound c.loop-end.invariant c.in-Ok.ensures refl, refl)
