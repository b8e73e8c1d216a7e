use Rattle.write_pattern.specs.Runs.{running_start, running_room, running_next, running_end}
use Rattle.write_pattern.proofs.draw_run.Goals as goal

pub loop-i-init : goal.loop-i-init
loop-i-init c = running_start c.requires

pub add-d-requires : goal.add-d-requires
add-d-requires c = running_room c.requires c.loop-i.invariant c.loop-i-test.true

pub loop-i-preserved : goal.loop-i-preserved
loop-i-preserved c = running_next c.loop-i.invariant c.loop-i-test.true c.drawn.ensures c.is_marked-mark.ensures c.add-d.ensures

pub returns : goal.returns
returns c = running_end c.loop-i.invariant c.loop-i-test.false
