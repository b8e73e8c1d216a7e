use Prim.Native.Nat.{ℕ, ◌-◌}
use Prim.Native.Nat.{◌-◌}
use lib.ListN.{length, length-replicate}
use Rattle.rule_stands.specs.Standing.{StandsTo, stands_start, stands_few, stands_line, stands_next, stands_done, line_long, line_low, line_end}
use native.Mathlib.Omega.{arith}
use Rattle.rule_stands.proofs.stands.find_lines.Given as goal

abbrev pub invariant-loop-place : goal.invariant-loop-place
invariant-loop-place l = StandsTo l.proof l.at l.place l.n

abbrev pub decreases-loop-place : goal.decreases-loop-place
decreases-loop-place l = length l.proof - l.place
