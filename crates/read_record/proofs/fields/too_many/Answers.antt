use Rattle.std.proofs.Common.{sym, ◌∙◌, ne_eqb}
use Rattle.read_record.specs.Fields.{many_short, many_other, many_counted}
use Rattle.read_record.proofs.fields.too_many.Goals as goal

pub returns-then-l-lt-HEAD_BYTES : goal.returns-then-l-lt-HEAD_BYTES
returns-then-l-lt-HEAD_BYTES c = many_short _ _ _ _ c.if-l-lt-HEAD_BYTES.true

pub returns-then-word-kind : goal.returns-then-word-kind
returns-then-word-kind c = many_counted _ _ _ _ c.if-l-lt-HEAD_BYTES.false (sym c.word.ensures.0 ∙ c.if-word-kind.true)

pub returns-else-word-kind : goal.returns-else-word-kind
returns-else-word-kind c = ne_eqb _ _ c.if-word-kind.false ∙ many_other _ _ _ _ c.if-l-lt-HEAD_BYTES.false (λ e. c.if-word-kind.false (c.word.ensures.0 ∙ e))
