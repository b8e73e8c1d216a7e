use Rattle.rule_joins.specs.Both.{both_other, both_rest}
use Rattle.rule_joins.proofs.is_both.Goals as goal

pub returns-then-starts_with : goal.returns-then-starts_with
returns-then-starts_with c = both_rest _ _ _ c.starts_with.ensures.value c.if-starts_with.true c.eq.ensures

pub returns-else-starts_with : goal.returns-else-starts_with
returns-else-starts_with c = both_other _ _ _ c.starts_with.ensures.value c.if-starts_with.false
