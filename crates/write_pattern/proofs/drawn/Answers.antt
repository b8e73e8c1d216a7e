use Rattle.write_pattern.specs.Runs.{drawn_any, drawn_label}
use Rattle.write_pattern.proofs.drawn.Goals as goal

-- `write_pattern::drawn` meets its contract. One law of specs/ for each step.
pub returns-then-symbol-eq-ANY_PATH : goal.returns-then-symbol-eq-ANY_PATH
returns-then-symbol-eq-ANY_PATH c = drawn_any _ c.if-symbol-eq-ANY_PATH.true

pub returns : goal.returns
returns c = drawn_label _ c.if-symbol-eq-ANY_PATH.false
