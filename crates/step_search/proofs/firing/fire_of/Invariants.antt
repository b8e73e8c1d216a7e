use Rattle.meaning.specs.Records.{key_in}
use Rattle.step_search.specs.Ranges.{Sweeping}
use Rattle.step_search.proofs.firing.fire_of.Given as goal

abbrev pub invariant-loop-j : goal.invariant-loop-j
invariant-loop-j l = Sweeping (key_in l.pattern.asked.now) (key_in l.key.body.now) l.u l.below l.j-end l.j l.from
