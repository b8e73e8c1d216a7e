use Rattle.program_campaign.specs.Inputs.{unread, read}
use Rattle.program_campaign.proofs.count_name.Goals as goal

pub returns-in-Some : goal.returns-in-Some
returns-in-Some g c = read _ c.count_segment.ensures

pub returns-in-None : goal.returns-in-None
returns-in-None g c = unread c.count_unread.ensures
