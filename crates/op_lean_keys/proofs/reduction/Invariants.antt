use Prim.Native.Nat.{◌-◌}
use mathlib.Core.Bool.{false}
use native.Mathlib.Omega.{arith}
use mathlib.Core.Path.{◌∙◌}
use lib.ListN.{length-set}
use Rattle.op_lean_keys.specs.Turning.{Turning, turning_start, turning_next, turning_end}
use Rattle.op_lean_keys.proofs.reduction.Given as goal

abbrev pub invariant-loop-n : goal.invariant-loop-n
invariant-loop-n l = Turning l.part l.keys l.classes l.second l.stays l.n
