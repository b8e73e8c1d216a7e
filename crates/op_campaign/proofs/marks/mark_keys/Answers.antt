use Rattle.std.proofs.Common.{arith}
use Rattle.op_tree_keys.specs.ProfileKeys.{good_body}
use Rattle.op_campaign.specs.Marks.{marked_none, marked_more, marked_all}
use Rattle.op_campaign.proofs.marks.mark_keys.Goals as goal

pub loop-n-init : goal.loop-n-init
loop-n-init c = marked_none _ _ _

pub broken_key-requires : goal.broken_key-requires
broken_key-requires c =
    let p = c.requires in
    (p.0, good_body _ _ c.record_at-rest.ensures c.body_at_front-body.ensures p.1 (omega arith))

pub loop-n-preserved : goal.loop-n-preserved
loop-n-preserved c =
    marked_more c.loop-n.invariant (omega arith) c.record_at-rest.ensures c.body_at_front-body.ensures _ c.broken_key.ensures.0 c.is_some.ensures

pub returns : goal.returns
returns c = marked_all c.loop-n.invariant (omega arith)
