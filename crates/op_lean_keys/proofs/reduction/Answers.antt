use Prim.Native.Nat.{◌-◌}
use mathlib.Core.Bool.{false}
use native.Mathlib.Omega.{arith}
use mathlib.Core.Path.{◌∙◌}
use lib.ListN.{length-set}
use Rattle.op_lean_keys.specs.Turning.{Turning, turning_start, turning_next, turning_end}
use Rattle.op_lean_keys.proofs.reduction.Goals as goal

pub loop-n-init : goal.loop-n-init
loop-n-init c = turning_start c.requires.by.few

pub bounds-stays-n : goal.bounds-stays-n
bounds-stays-n c = omega (arith, c.loop-n.invariant.within, c.requires.by.few)

pub key_follows-implied-requires : goal.key_follows-implied-requires
key_follows-implied-requires c = (c.requires, length-set c.loop-n.stays (c.loop-n.n - 1) false ∙ c.loop-n.invariant.size, omega (arith, c.loop-n.invariant.within))

pub bounds-stays-n-in-loop-n : goal.bounds-stays-n-in-loop-n
bounds-stays-n-in-loop-n c = omega (arith, c.loop-n.invariant.within, c.requires.by.few)

pub loop-n-preserved : goal.loop-n-preserved
loop-n-preserved c = turning_next c.requires.by.few c.loop-n.invariant c.loop-n-test.true c.key_follows-implied.ensures

pub returns : goal.returns
returns c = turning_end c.requires.by.few c.loop-n.invariant c.loop-n-test.false
