use Rattle.write_chosen.specs.Dropping.{number_not, number_one}
use borrow.Author.Rules.{rules}
use Rattle.write_chosen.proofs.numbers.number_if.Goals as goal

pub returns-then-stays : goal.returns-then-stays
returns-then-stays c = number_not _ _ _ c.if-stays.true

pub returns : goal.returns
returns c = number_one _ _ _ (search rules)
