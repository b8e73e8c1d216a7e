use native.Mathlib.Omega.{arith}
use borrow.Author.Rules.{rules}
use Rattle.write_report.specs.Lines.{keys_none, keys_more, keys_room, keys_all}
use Rattle.write_report.proofs.put_keys.Goals as goal

pub loop-n-init : goal.loop-n-init
loop-n-init c = (keys_none _ _ _, omega arith)

pub put_key-at-requires : goal.put_key-at-requires
put_key-at-requires c = (omega arith, keys_room c.loop-n.invariant.0 (omega arith) (search rules))

pub loop-n-preserved : goal.loop-n-preserved
loop-n-preserved c = (keys_more c.loop-n.invariant.0 c.put_key-at.ensures, omega arith)

pub returns : goal.returns
returns c = keys_all c.loop-n.invariant.0 c.loop-n.invariant.1 (search rules)
