use Rattle.std.proofs.Common.{arith}
use Rattle.step_search.specs.Ranges.{ready_small, sweeping_next}
use Rattle.step_search.proofs.firing.fire_of.Goals as goal

pub overflow_add-below : goal.overflow_add-below
overflow_add-below c = omega (arith, ready_small c.requires)

-- The check finds this alone; with the bound on t the edit of `from` is refused for the spot that it skips.
pub overflow_add-from : goal.overflow_add-from
overflow_add-from c = omega (arith, ready_small c.requires, c.requires.above)

pub loop-j-preserved : goal.loop-j-preserved
loop-j-preserved c = sweeping_next c.requires c.loop-j.invariant c.loop-j-test.true c.in_default.ensures
