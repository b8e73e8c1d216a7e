use Rattle.rule_needed.specs.Numbering.{Counted}
use Rattle.rule_needed.proofs.numbers.find_numbers.Given as goal

abbrev pub invariant-loop-n : goal.invariant-loop-n
invariant-loop-n l = Counted l.n l.marks l.found l.next
