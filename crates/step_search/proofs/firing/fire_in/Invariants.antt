use Rattle.step_search.specs.Ranges.{Walking}
use Rattle.step_search.proofs.firing.fire_in.Given as goal

abbrev pub invariant-loop-number : goal.invariant-loop-number
invariant-loop-number l = Walking l.part l.keys l.pattern.asked.now l.u l.number l.rest
