use Rattle.std.proofs.Common.{refl}
use Rattle.step_search.specs.Ranges.{walking_start, walking_shape, walking_hit, walking_next, walking_done}
use Rattle.step_search.proofs.firing.fire_in.Goals as goal

pub loop-number-init : goal.loop-number-init
loop-number-init c = walking_start _ _ _ _

pub new-key-requires : goal.new-key-requires
new-key-requires c = walking_shape c.requires c.loop-number.invariant c.loop-number-test.true c.front_length-end.ensures

pub returns-in-Some : goal.returns-in-Some
returns-in-Some c = walking_hit c.requires c.loop-number.invariant c.loop-number-test.true c.front_length-end.ensures c.new-key.ensures c.in-Some.ensures

pub loop-number-preserved : goal.loop-number-preserved
loop-number-preserved c = walking_next c.requires c.loop-number.invariant c.loop-number-test.true c.front_length-end.ensures c.new-key.ensures c.in_default.ensures refl

pub returns : goal.returns
returns c = walking_done c.requires c.loop-number.invariant c.loop-number-test.false
