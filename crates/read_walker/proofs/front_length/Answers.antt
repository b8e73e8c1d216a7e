use Rattle.std.proofs.Common.{rules}
use Rattle.read_walker.specs.Steps.{length_none, length_one, length_two}
use Rattle.read_walker.proofs.front_length.Goals as goal

pub returns-in-empty : goal.returns-in-empty
returns-in-empty c = length_none _ (search rules)

pub returns-in-len1 : goal.returns-in-len1
returns-in-len1 c = length_one _ (search rules) (search rules)

pub returns-in_default : goal.returns-in_default
returns-in_default c = length_two _ c.word.ensures.0
