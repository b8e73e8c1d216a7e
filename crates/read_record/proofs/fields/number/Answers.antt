use Rattle.std.proofs.Common.{arith}
use Rattle.read_record.specs.Fields.{numbered_none, numbered_small, numbered_more, numbered_all}
use Rattle.read_record.proofs.fields.number.Goals as goal

pub loop-i-init : goal.loop-i-init
loop-i-init c = numbered_none _ c.requires

pub overflow_mul-n : goal.overflow_mul-n
overflow_mul-n c = let m = numbered_small _ c.requires _ _ c.loop-i.invariant in omega arith

pub overflow_add-n : goal.overflow_add-n
overflow_add-n c = let m = numbered_small _ c.requires _ _ c.loop-i.invariant in let e = c.from.ensures in omega arith

pub loop-i-preserved : goal.loop-i-preserved
loop-i-preserved c = numbered_more _ c.requires _ _ _ (omega arith) c.loop-i.invariant c.from.ensures (omega arith)

pub returns : goal.returns
returns c = (numbered_all _ c.requires _ _ (omega arith) c.loop-i.invariant, numbered_small _ c.requires _ _ c.loop-i.invariant)
