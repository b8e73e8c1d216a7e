use Rattle.rule_tests.specs.RuleLaws.{goes_on_rest}
use Rattle.rule_tests.proofs.rules.goes_on.Goals as goal

pub returns-then-starts_with : goal.returns-then-starts_with
returns-then-starts_with c = search goes_on_rest
