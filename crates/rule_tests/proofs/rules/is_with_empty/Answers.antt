use Rattle.rule_tests.specs.RuleLaws.{with_empty_one, with_empty_many, with_empty_other, with_empty_two}
use Rattle.rule_tests.proofs.rules.is_with_empty.Goals as goal

pub returns-in-1 : goal.returns-in-1
returns-in-1 c = with_empty_one _ c.count.ensures.0 c.in-1.is (cc)

pub returns-then-path-eq0 : goal.returns-then-path-eq0
returns-then-path-eq0 c = with_empty_two _ c.count.ensures.0 c.in-2.is (cc) c.if-path-eq0.true (cc)

pub returns-else-path-eq0 : goal.returns-else-path-eq0
returns-else-path-eq0 c = with_empty_other _ c.count.ensures.0 c.in-2.is (cc) c.if-path-eq0.false

pub returns-in_default : goal.returns-in_default
returns-in_default c = search with_empty_many
