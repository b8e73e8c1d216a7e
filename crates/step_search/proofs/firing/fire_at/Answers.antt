use Rattle.std.proofs.Common.{rules}
use Rattle.step_search.specs.Firing.{lands_none, climbing_hit, climbing_next}
use Rattle.step_search.proofs.firing.fire_at.Goals as goal

pub returns-then-not-all_land : goal.returns-then-not-all_land
returns-then-not-all_land c = search lands_none

pub returns-then-fires_to : goal.returns-then-fires_to
returns-then-fires_to c = climbing_hit c.requires c.loop-i.invariant (search rules) c.fires_to.ensures c.if-fires_to.true

pub loop-i-preserved : goal.loop-i-preserved
loop-i-preserved c = climbing_next c.requires c.loop-i.invariant (search rules) c.fires_to.ensures c.if-fires_to.false
