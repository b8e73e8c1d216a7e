use Rattle.std.proofs.Common.{rules, tests}
use Rattle.meaning.specs.Records.{key_in}
use Rattle.theory_pattern.specs.Spots.{lands}
use Rattle.read_record.specs.Library.{every_from_all}
use Rattle.step_landings.proofs.all_land.Goals as goal

pub returns : goal.returns
returns c = every_from_all (lands (key_in c.args.pattern.now.asked.now) c.args.j c.args.k) _ c.paths.ensures c.all.ensures.ran (λ x b q k. search (rules, tests))
