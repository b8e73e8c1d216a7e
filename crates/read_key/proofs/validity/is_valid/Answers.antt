use Rattle.std.proofs.Common.{◌∙◌}
use Rattle.read_key.specs.Validity.{valid_inner}
use Rattle.read_key.proofs.validity.is_valid.Goals as goal

pub returns : goal.returns
returns c = (rw c.saturating_sub.ensures at c.all_inner.ensures) ∙ valid_inner _ _
