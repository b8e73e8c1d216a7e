use Rattle.std.proofs.Common.{refl}
use Rattle.read_typed.specs.Texts.{text_first, text_behind}
use Rattle.read_typed.proofs.set.path_text.Goals as goal

pub returns-then-place-eq0 : goal.returns-then-place-eq0
returns-then-place-eq0 c = text_first _ _ c.if-place-eq0.true

pub returns : goal.returns
returns c = rw c.unwrap_or.ensures (text_behind _ _ c.if-place-eq0.false _ c.strip_prefix.ensures.cases _ refl)
