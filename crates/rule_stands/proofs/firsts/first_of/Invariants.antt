use Rattle.rule_stands.specs.Pointing.{Apart}
use Rattle.rule_stands.proofs.firsts.first_of.Given as goal

abbrev pub invariant-loop-i : goal.invariant-loop-i
invariant-loop-i l = Apart l.proof l.n l.i
