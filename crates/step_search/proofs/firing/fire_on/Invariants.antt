use Rattle.std.proofs.Common.{◌-◌}
use Rattle.meaning.specs.Records.{key_in}
use Rattle.step_search.specs.Firing.{Trying}
use Rattle.step_search.proofs.firing.fire_on.Given as goal

abbrev pub invariant-loop-k : goal.invariant-loop-k
invariant-loop-k l = Trying (key_in l.pattern.asked.now) (key_in l.key.body.now) l.u l.j l.from (l.k-end - 1) l.k
