use Rattle.std.proofs.Common.{rules, tests}
use Rattle.std.proofs.lemmas.Iterator.{YieldsList-from_slice}
use Rattle.meaning.specs.Paths.{simple}
use Rattle.read_record.specs.Library.{every_by}
use Rattle.read_key.specs.Symbols.{not_any}
use Rattle.read_key.proofs.symbols.is_simple.Goals as goal

pub returns : goal.returns
unfolding simple
returns c = every_by not_any _ c.all.ensures.ran (YieldsList-from_slice _ cc) (λ x b q k. search (rules, tests))
