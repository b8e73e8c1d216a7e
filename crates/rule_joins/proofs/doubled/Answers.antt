use Rattle.rule_joins.specs.Forms.{doubled_not, doubled_both}
use Rattle.rule_joins.proofs.doubled.Goals as goal

pub returns-then-s-eq-ANY_PATH : goal.returns-then-s-eq-ANY_PATH
returns-then-s-eq-ANY_PATH c = search doubled_both

pub returns-else-s-eq-ANY_PATH : goal.returns-else-s-eq-ANY_PATH
returns-else-s-eq-ANY_PATH c = search doubled_not
