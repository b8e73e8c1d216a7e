use Rattle.op_tree_accepted.specs.BothAccepted.{counted_bodies}
use Rattle.op_campaign.specs.Segments.{accepted_tree, accepted_keys, adds_keys}
use Rattle.op_campaign.proofs.count_accepted.Goals as goal

pub prepare-requires : goal.prepare-requires
prepare-requires c = accepted_tree c.requires

pub mark_keys-breaks-requires : goal.mark_keys-breaks-requires
mark_keys-breaks-requires c = (c.prepare.ensures, counted_bodies c.requires.given c.record_at-part.ensures, accepted_keys c.requires)

pub count_keys-requires : goal.count_keys-requires
count_keys-requires c = (accepted_keys c.requires, c.mark_keys-breaks.ensures.long)

pub returns : goal.returns
returns c = adds_keys c.requires c.record_at-part.ensures c.mark_keys-breaks.ensures c.count_keys.ensures
