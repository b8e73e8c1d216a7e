use Rattle.std.proofs.Common.{rules, tests}
use Rattle.meaning.specs.Lists.{same}
use Rattle.read_record.specs.Library.{any_from_any, same_list}
use Rattle.rule_tests.proofs.sets.is_among.Goals as goal

pub returns : goal.returns
returns c = any_from_any (same c.args.path.now) _ c.paths.ensures c.any.ensures.ran (λ x b q k. search (rules, tests, same_list))
