use Rattle.rule_joins.specs.Joins.{joined_same}
use Rattle.rule_joins.proofs.join_is.Goals as goal

pub returns : goal.returns
returns c = search joined_same
