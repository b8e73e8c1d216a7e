use Rattle.std.proofs.Common.{arith}
use Rattle.program_campaign.specs.Inputs.{inputs_judged}
use Rattle.program_campaign.proofs.inputs_refused.Goals as goal

pub returns : goal.returns
returns c = rw c.is_err.ensures.value (inputs_judged _ _ _ c.report.result (omega arith) c.report.ensures)
