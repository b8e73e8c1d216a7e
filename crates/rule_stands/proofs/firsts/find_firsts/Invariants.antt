use Rattle.rule_stands.specs.Pointing.{Pointing}
use Rattle.rule_stands.proofs.firsts.find_firsts.Given as goal

abbrev pub invariant-loop-n : goal.invariant-loop-n
invariant-loop-n l = Pointing l.n l.count l.proof l.found
