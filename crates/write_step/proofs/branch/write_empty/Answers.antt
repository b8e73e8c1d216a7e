use Rattle.write_step.specs.StepLines.{empty_wrote}
use Rattle.write_step.proofs.branch.write_empty.Goals as goal

pub returns : goal.returns
returns c = empty_wrote _ _ _ _ _ _ _ c.write_along.ensures c.write_pair-fourth.ensures c.write_pair-third.ensures c.write_with_empty-second.ensures
