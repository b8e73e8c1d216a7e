use Rattle.std.proofs.Common.{rules, tests}
use Rattle.std.proofs.lemmas.Iterator.{YieldsList-from_slice}
use Rattle.read_record.specs.Classes.{class_by}
use Rattle.read_record.specs.Library.{every_by}
use Rattle.read_key.specs.Validity.{inner}
use Rattle.read_key.proofs.validity.all_inner.Goals as goal

pub returns : goal.returns
returns c = every_by (inner (class_by c.args.classes.now)) _ c.all.ensures.ran (YieldsList-from_slice _ cc) (λ x b q k. search (rules, tests))
