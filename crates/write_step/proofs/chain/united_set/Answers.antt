use Rattle.write_step.specs.StepLines.{unite_fits, united_yes, united_no}
use Rattle.write_step.specs.Fits.{body_put}
use Rattle.theory_pattern.specs.Spots.{holds_empty}
use Rattle.write_step.proofs.chain.united_set.Goals as goal

pub unite_beyond-requires : goal.unite_beyond-requires
unite_beyond-requires c = search (unite_fits)

pub returns-then-holds_empty : goal.returns-then-holds_empty
unfolding holds_empty
returns-then-holds_empty c = search (united_yes)

pub put-used-requires : goal.put-used-requires
put-used-requires c = search (body_put)

pub returns : goal.returns
unfolding holds_empty
returns c = search (united_no)
