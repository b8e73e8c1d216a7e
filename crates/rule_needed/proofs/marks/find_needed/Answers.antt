use Rattle.std.proofs.Common.{refl, arith}
use Rattle.rule_needed.specs.Marked.{few_lines, known_line, turn_start, turn_low, turn_next}
use Rattle.rule_needed.proofs.marks.find_needed.Goals as goal

pub loop-n-init : goal.loop-n-init
loop-n-init c = turn_start c.requires refl

pub mark_line-requires : goal.mark_line-requires
mark_line-requires c = (let l = turn_low c.requires refl c.loop-n.invariant c.loop-n-test.true in let f = few_lines c.requires in omega arith, known_line c.requires _ (turn_low c.requires refl c.loop-n.invariant c.loop-n-test.true) c.line_body.ensures)

pub loop-n-preserved : goal.loop-n-preserved
loop-n-preserved c = turn_next c.requires refl c.loop-n.invariant c.loop-n-test.true c.line_body.ensures c.mark_line.ensures
