use Rattle.std.proofs.Common.{arith}
use Rattle.read_key.specs.Validity.{inner_any, inner_text, inner_filler, inner_class}
use Rattle.read_key.proofs.validity.is_inner.Goals as goal

pub returns-in-0 : goal.returns-in-0
returns-in-0 c = inner_any _ _ c.in-0.is

pub returns-in-1 : goal.returns-in-1
returns-in-1 c = inner_text _ _ c.in-1.is

pub returns-in-202 : goal.returns-in-202
returns-in-202 c = inner_filler _ _ c.in-202.is

pub returns-in_default : goal.returns-in_default
returns-in_default c = inner_class _ _ (omega arith) (omega arith) (omega arith) c.from.ensures
