use Rattle.op_salvage_keys.specs.Broken.{key_good, key_judged}
use Rattle.op_salvage_keys.proofs.judge_key.Goals as goal

pub test_key-requires : goal.test_key-requires
test_key-requires c = (c.requires.0, key_good _ _ c.record_at-rest.ensures c.body_at_front-body.ensures c.requires.1)

pub returns : goal.returns
returns c = key_judged _ _ c.record_at-rest.ensures c.body_at_front-body.ensures _ _ _ c.test_key.ensures
