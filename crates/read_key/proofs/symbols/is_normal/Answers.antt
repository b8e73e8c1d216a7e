use Rattle.std.proofs.Common.{arith}
use Rattle.std.proofs.lemmas.Bool.Decides.{nat_tests}
use Rattle.read_key.specs.Symbols.{normal_doubled_at, normal_next_at, normal_end}
use Rattle.read_key.proofs.symbols.is_normal.Goals as goal

pub returns-then-p-i-eq-ANY_PATH-2 : goal.returns-then-p-i-eq-ANY_PATH-2
returns-then-p-i-eq-ANY_PATH-2 c = normal_doubled_at c.loop-i.invariant (omega arith) c.loop-i-test.true c.if-p-i-eq-ANY_PATH.true c.if-p-i-eq-ANY_PATH-2.true

pub loop-i-preserved : goal.loop-i-preserved
loop-i-preserved c = normal_next_at c.loop-i.invariant (omega arith) c.loop-i-test.true (λ e f. absurd (grind (arith, nat_tests)))

pub returns : goal.returns
returns c = normal_end c.loop-i.invariant (omega arith)
