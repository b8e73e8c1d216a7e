use Rattle.std.proofs.Common.{◌∙◌, arith}
use Rattle.read_key.specs.Validity.{behind_empty, behind_inner, behind_not}
use Rattle.read_key.proofs.validity.valid_behind.Goals as goal

pub returns-in-empty : goal.returns-in-empty
returns-in-empty c = behind_empty _ _ _ _ (omega arith)

pub returns-then-front_inner : goal.returns-then-front_inner
returns-then-front_inner c = behind_inner _ _ _ _ (omega arith) c.if-front_inner.true c.is_valid.ensures

pub returns-else-front_inner : goal.returns-else-front_inner
returns-else-front_inner c = c.if-front_inner.false ∙ behind_not _ _ _ _ (omega arith) c.if-front_inner.false
