use Rattle.program_campaign.specs.Inputs.{campaign_stopped, campaign_counted}
use Rattle.program_campaign.proofs.report_campaign.Goals as goal

pub returns-then-inputs_refused : goal.returns-then-inputs_refused
returns-then-inputs_refused g c = campaign_stopped _ c.inputs_refused.ensures c.if-inputs_refused.true c.report.ensures

pub returns : goal.returns
returns g c = campaign_counted _ c.count_names.ensures c.report-2.ensures
