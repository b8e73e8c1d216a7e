use Rattle.std.proofs.Common.{rules, tests}
use Rattle.theory_rule_tests.specs.SameParts.{all_among}
use Rattle.read_record.specs.Library.{every_from_all}
use Rattle.rule_tests.proofs.sets.all_among.Goals as goal

pub returns : goal.returns
unfolding all_among
returns c = every_from_all _ _ c.paths.ensures c.all.ensures.ran (λ x b q k. search (rules, tests))
