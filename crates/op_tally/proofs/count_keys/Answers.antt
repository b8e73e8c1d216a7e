use mathlib.Core.Path.{refl}
use native.Mathlib.Omega.{arith}
use borrow.Author.Rules.{rules}
use Rattle.op_tally.specs.Counting.{keys_none, keys_next, keys_all}
use Rattle.op_tally.proofs.count_keys.Goals as goal

pub loop-n-init : goal.loop-n-init
loop-n-init c = (keys_none _ _, omega arith, search rules, search rules)

pub loop-n-preserved : goal.loop-n-preserved
loop-n-preserved c = (keys_next c.loop-n.invariant.0 c.loop-n.invariant.2 c.loop-n.invariant.3 (omega arith) refl c.count_key-tally.ensures, omega arith, search rules, search rules)

pub returns : goal.returns
returns c = keys_all c.loop-n.invariant.0 c.loop-n.invariant.1 c.loop-n-test.false
