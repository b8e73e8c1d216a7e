use Rattle.write_tree.specs.Laws.{value_element, value_twin, value_own}
use Rattle.write_tree.proofs.value_of.Goals as goal

-- `write_tree::value_of` meets its contract. One law of specs/ for each step.
pub returns-then-element : goal.returns-then-element
returns-then-element c = value_element _ _ _ _ c.if-element.true

pub returns-then-mark : goal.returns-then-mark
returns-then-mark c = value_twin _ _ _ _ c.if-element.false c.if-mark.true

pub returns : goal.returns
returns c = value_own _ _ _ _ c.if-element.false c.if-mark.false
