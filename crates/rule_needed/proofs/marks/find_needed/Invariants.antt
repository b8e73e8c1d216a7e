use Rattle.rule_premises.specs.Premises.{lines_from}
use Rattle.rule_needed.specs.Marked.{Turned}
use Rattle.rule_needed.proofs.marks.find_needed.Given as goal

abbrev pub invariant-loop-n : goal.invariant-loop-n
invariant-loop-n l = Turned (lines_from l.count l.proof) l.end l.n l.marks
