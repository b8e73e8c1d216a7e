use Rattle.meaning.specs.Records.{key_in}
use Rattle.step_search.specs.Firing.{Climbing}
use Rattle.step_search.proofs.firing.fire_at.Given as goal

abbrev pub invariant-loop-i : goal.invariant-loop-i
invariant-loop-i l = Climbing (key_in l.pattern.asked.now) (key_in l.key.body.now) l.u l.j l.k l.i
