use Rattle.std.proofs.Common.{length}
use Rattle.meaning.specs.Records.{key_in}
use Rattle.theory_pattern.specs.Spots.{lands_on}
use Rattle.step_landings.specs.Landing.{Sweep}
use Rattle.step_landings.proofs.lands_some.Given as goal

abbrev pub invariant-loop-j : goal.invariant-loop-j
invariant-loop-j l = Sweep (lands_on (key_in l.pattern.asked.now) l.k l.path) (length (key_in l.pattern.asked.now).paths) l.j-end l.j
