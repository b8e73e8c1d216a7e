use Rattle.op_profile.specs.Returns.{body_none, body_there}
use Rattle.op_profile.proofs.profiles.body.Goals as goal

pub returns-in-Ok : goal.returns-in-Ok
returns-in-Ok c = body_there c.in-Ok.ensures.0 _ _ _ c.record_at.ensures c.body_at_front.ensures

pub returns-in-Err : goal.returns-in-Err
returns-in-Err c = body_none c.in-Err.ensures _
