use Rattle.read_record.specs.Bodies.{holds_empty, holds_length}
use borrow.Author.Rules.{rules}
use Rattle.read_record.proofs.bodies.holds_path.Goals as goal

-- `read_record::bodies::holds_path` meets its contract. One law of specs/ for each return.
pub returns-then-l-eq0 : goal.returns-then-l-eq0
returns-then-l-eq0 c = holds_empty _ (search rules)

pub returns : goal.returns
returns c = holds_length _ (search rules) c.from.ensures
