use Rattle.write_tree.specs.Laws.{parent_root, parent_trunk, parent_copy}
use Rattle.write_tree.proofs.parent_of.Goals as goal

-- `write_tree::parent_of` meets its contract. One law of specs/ for each step.
pub returns-then-x-eq0 : goal.returns-then-x-eq0
returns-then-x-eq0 c = parent_root _ _ _ _ c.if-x-eq0.true

pub returns-then-above-cut : goal.returns-then-above-cut
returns-then-above-cut c = parent_trunk _ _ _ _ c.if-x-eq0.false c.if-above-cut.true

pub returns : goal.returns
returns c = parent_copy _ _ _ _ c.if-x-eq0.false c.if-above-cut.false
