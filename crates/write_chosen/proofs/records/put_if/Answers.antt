use Rattle.write_chosen.specs.Choosing.{put_not, put_one}
use borrow.Author.Rules.{rules}
use mathlib.Core.Path.{ap}
use mathlib.Core.Bool.{not}
use Rattle.write_chosen.proofs.records.put_if.Goals as goal

pub returns-then-not-stays : goal.returns-then-not-stays
returns-then-not-stays c = put_not _ _ _ _ (ap not c.if-not-stays.true) (search rules)

pub returns : goal.returns
returns c = put_one _ _ _ _ (search rules) c.put-end.ensures
