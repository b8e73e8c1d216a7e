use Rattle.rule_tests.specs.Compare.{starts_yes, starts_empty, starts_no}
use Rattle.rule_tests.proofs.rules.starts_any.Goals as goal

pub returns-in-0 : goal.returns-in-0
returns-in-0 c = search starts_yes

pub returns-in_default : goal.returns-in_default
returns-in_default c = search starts_empty

pub returns-in_default-2 : goal.returns-in_default-2
returns-in_default-2 c = search starts_no
