use Rattle.std.proofs.Common.{refl}
use Rattle.rule_needed.specs.Marked.{first_known, second_known, marks_none, marks_one, marks_two}
use Rattle.rule_needed.proofs.marks.mark_premises.Goals as goal

pub returns-then-used-eq0 : goal.returns-then-used-eq0
returns-then-used-eq0 c = marks_none c.requires c.from.ensures c.premise_count-used.ensures c.if-used-eq0.true _

pub bounds-firsts-word : goal.bounds-firsts-word
bounds-firsts-word c = (first_known c.requires c.from.ensures c.premise_count-used.ensures c.if-used-eq0.false c.word.ensures.0).0

pub bounds-marks-firsts : goal.bounds-marks-firsts
bounds-marks-firsts c = (first_known c.requires c.from.ensures c.premise_count-used.ensures c.if-used-eq0.false c.word.ensures.0).1

pub returns-then-used-eq1 : goal.returns-then-used-eq1
returns-then-used-eq1 c = marks_one c.requires c.from.ensures c.premise_count-used.ensures c.if-used-eq1.true c.word.ensures.0 _ refl

pub bounds-firsts-word-2 : goal.bounds-firsts-word-2
bounds-firsts-word-2 c = (second_known c.requires c.from.ensures c.premise_count-used.ensures c.if-used-eq0.false c.if-used-eq1.false c.word-2.ensures.0).0

pub bounds-marks-firsts-2 : goal.bounds-marks-firsts-2
bounds-marks-firsts-2 c = (second_known c.requires c.from.ensures c.premise_count-used.ensures c.if-used-eq0.false c.if-used-eq1.false c.word-2.ensures.0).1

pub returns : goal.returns
returns c = marks_two c.requires c.from.ensures c.premise_count-used.ensures c.if-used-eq0.false c.if-used-eq1.false c.word.ensures.0 c.word-2.ensures.0 _ refl refl
