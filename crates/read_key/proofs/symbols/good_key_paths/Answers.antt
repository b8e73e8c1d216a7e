use Rattle.std.proofs.Common.{rules, tests}
use Rattle.read_record.specs.Library.{every_from_all}
use Rattle.read_key.proofs.symbols.good_key_paths.Goals as goal

pub returns : goal.returns
returns c = every_from_all _ _ c.paths.ensures c.all.ensures.ran (λ x b q k. search (rules, tests))
