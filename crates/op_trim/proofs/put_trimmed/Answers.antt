use Rattle.write_bytes.specs.Wrote.{wrote_is}
use Rattle.rule_needed.specs.Marked.{end_low, few_lines}
use Rattle.op_trim.specs.Returns.{some_line, linked, writable, kept_is}
use native.Mathlib.Omega.{arith}
use Rattle.op_trim.proofs.put_trimmed.Goals as goal

pub overflow_sub-end : goal.overflow_sub-end
overflow_sub-end c = some_line c.find_lines-lines.ensures.0 c.find_lines-lines.ensures.1 c.requires.0.sound

pub find_needed-marks-requires : goal.find_needed-marks-requires
find_needed-marks-requires c = linked c.find_lines-lines.ensures.0 c.find_lines-lines.ensures.1 c.requires.0.sound c.find_firsts-firsts.ensures

pub find_numbers-numbers-requires : goal.find_numbers-numbers-requires
find_numbers-numbers-requires c = let k = linked c.find_lines-lines.ensures.0 c.find_lines-lines.ensures.1 c.requires.0.sound c.find_firsts-firsts.ensures in let a = end_low k in let b = few_lines k in omega arith

pub put_lines-requires : goal.put_lines-requires
put_lines-requires c = writable c.find_lines-lines.ensures.0 c.find_lines-lines.ensures.1 c.requires.0.sound c.find_firsts-firsts.ensures c.find_needed-marks.ensures c.find_numbers-numbers.ensures c.requires.1

pub returns : goal.returns
returns c = λ profile question p. wrote_is (kept_is c.find_lines-lines.ensures.0 c.find_lines-lines.ensures.1 p c.find_firsts-firsts.ensures c.find_needed-marks.ensures c.find_numbers-numbers.ensures) c.put_lines.ensures
