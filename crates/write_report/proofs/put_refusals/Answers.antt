use native.Mathlib.Omega.{arith}
use borrow.Author.Rules.{rules}
use Rattle.write_report.specs.Lines.{refusals_none, refusals_more, refusals_room, refusals_all}
use Rattle.write_report.proofs.put_refusals.Goals as goal

pub loop-number-init : goal.loop-number-init
loop-number-init c = (refusals_none _ _ _ (search rules), omega arith)

pub put_refusal-at-requires : goal.put_refusal-at-requires
put_refusal-at-requires c = (search rules, refusals_room c.loop-number.invariant.0 (search rules) (search rules))

pub loop-number-preserved : goal.loop-number-preserved
loop-number-preserved c = (refusals_more c.loop-number.invariant.0 c.put_refusal-at.ensures, omega arith)

pub returns : goal.returns
returns c = refusals_all c.loop-number.invariant.0 c.loop-number.invariant.1 (search rules)
