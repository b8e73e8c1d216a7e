use Rattle.std.proofs.Common.{length}
use mathlib.Core.Path.{refl, ap}
use native.Mathlib.Omega.{arith}
use Rattle.write_pattern.specs.Runs.{hung, branching_start, branching_room, branching_next, branching_end}
use Rattle.write_pattern.proofs.draw_branches.Goals as goal

pub count-i-end-requires : goal.count-i-end-requires
count-i-end-requires c = c.requires.0.shaped

pub loop-i-init : goal.loop-i-init
loop-i-init c = branching_start c.requires.1

pub path-key_path-requires : goal.path-key_path-requires
path-key_path-requires c = (c.requires.0.shaped, let e = c.count-i-end.ensures.0 in omega arith)

pub draw_run-d-requires : goal.draw_run-d-requires
unfolding hung
draw_run-d-requires c = let e = c.count-i-end.ensures.0 in branching_room _ c.requires.1 c.requires.0.few c.requires.0.short c.loop-i.invariant (omega arith) c.path-key_path.ensures

pub loop-i-preserved : goal.loop-i-preserved
unfolding hung
loop-i-preserved c = let e = c.count-i-end.ensures.0 in let h = c.requires.0.short c.loop-i.i (omega arith) in branching_next c.loop-i.invariant (omega arith) c.path-key_path.ensures (let k = ap length c.path-key_path.ensures in omega arith) refl c.draw_run-d.ensures

pub returns : goal.returns
returns c = branching_end c.loop-i.invariant (let e = c.count-i-end.ensures.0 in omega arith) c.requires.0.few
