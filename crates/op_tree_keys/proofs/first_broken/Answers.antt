use Rattle.op_tree_keys.specs.ProfileKeys.{good_body, found_lowest, kept_more}
use Rattle.op_tree_keys.proofs.first_broken.Goals as goal

pub broken_key-requires : goal.broken_key-requires
broken_key-requires c =
    let p = c.requires in
    (p.0, good_body _ _ c.record_at-rest.ensures c.body_at_front-body.ensures p.1 c.loop-n-test.true)

pub returns-in-Some : goal.returns-in-Some
returns-in-Some c =
    found_lowest _ _ c.record_at-rest.ensures c.body_at_front-body.ensures c.in-Some.ensures.0 c.in-Some.ensures.1 c.loop-n.invariant c.loop-n-test.true

pub loop-n-preserved : goal.loop-n-preserved
loop-n-preserved c =
    kept_more _ _ c.record_at-rest.ensures c.body_at_front-body.ensures c.in_default.ensures.0 c.loop-n.invariant
