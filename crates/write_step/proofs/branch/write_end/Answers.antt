use Rattle.write_step.specs.StepLines.{end_wrote}
use Rattle.write_step.proofs.branch.write_end.Goals as goal

pub returns : goal.returns
returns c = search (end_wrote)
