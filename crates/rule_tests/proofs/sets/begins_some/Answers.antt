use Rattle.std.proofs.Common.{rules, tests}
use Rattle.theory_rule_tests.specs.Beginnings.{begins}
use Rattle.read_record.specs.Library.{any_from_any}
use Rattle.rule_tests.specs.Walks.{beginning_is}
use Rattle.rule_tests.proofs.sets.begins_some.Goals as goal

pub returns : goal.returns
returns c = any_from_any (begins c.args.path.now) _ c.paths.ensures c.any.ensures.ran (λ x b q k. search (rules, tests, beginning_is))
