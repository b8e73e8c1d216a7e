use Rattle.rule_lines.specs.Checking.{last_empty, last_same, last_other, question_start, question_end}
use Rattle.rule_lines.proofs.check.last_is.Goals as goal

pub returns-then-lines-eq0 : goal.returns-then-lines-eq0
returns-then-lines-eq0 c = rw c.at_record.ensures (search last_empty)

pub slice_bounds-eq-count : goal.slice_bounds-eq-count
slice_bounds-eq-count c = search question_start

pub slice_bounds-eq-start : goal.slice_bounds-eq-start
slice_bounds-eq-start c = search question_start

pub slice_bounds-eq-end : goal.slice_bounds-eq-end
slice_bounds-eq-end c = search question_end

pub returns-then-eq : goal.returns-then-eq
returns-then-eq c = search last_same

pub returns-else-eq : goal.returns-else-eq
returns-else-eq c = rw c.at_record-else-eq.ensures (search last_other)
