use Rattle.read_record.specs.Bodies.{whole_head, whole_under, whole_past, whole_body}
use borrow.Author.Rules.{rules}
use Rattle.read_record.proofs.bodies.whole.Goals as goal

-- `read_record::bodies::whole` meets its contract. One law of specs/ for each return.
pub returns-then-l-lt-HEAD_BYTES : goal.returns-then-l-lt-HEAD_BYTES
returns-then-l-lt-HEAD_BYTES c = whole_head _ (search rules)

pub returns-then-end-lt-HEAD_BYTES : goal.returns-then-end-lt-HEAD_BYTES
returns-then-end-lt-HEAD_BYTES c = whole_under _ (search rules) (search rules)

pub returns-then-l-end : goal.returns-then-l-end
returns-then-l-end c = whole_past _ (search rules) (search rules) (search rules)

pub returns : goal.returns
returns c = whole_body _ c.word-end.ensures.0 c.word.ensures.0 (search rules) (search rules) (search rules) c.body_ends.ensures
