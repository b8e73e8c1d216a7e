use Prim.Native.Nat.{◌≤◌}
use Rattle.write_report.specs.Lines.{RefusalsTo}
use Rattle.write_report.proofs.put_refusals.Given as goal

abbrev pub invariant-loop-number : goal.invariant-loop-number
invariant-loop-number l = RefusalsTo l.initial.out l.out l.start l.number l.refused l.at × (l.number ≤ 20)
