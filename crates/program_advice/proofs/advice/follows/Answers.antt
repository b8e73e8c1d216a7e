use Rattle.std.proofs.Common.{Ok, refl}
use Rattle.program_advice.specs.Advice.{decided_follows}
use Rattle.program_advice.proofs.advice.follows.Goals as goal

pub returns-in-Ok-Implied : goal.returns-in-Ok-Implied
returns-in-Ok-Implied c = λ e. decided_follows _ _ _ _ (Ok c.in-Ok-Implied.field-0) c.in-Ok-Implied.ensures (rw c.in-Ok-Implied.field-0-is refl)
