use Prim.Native.Nat.{◌≤◌}
use Rattle.write_report.specs.Lines.{KeysWritten}
use Rattle.write_report.proofs.put_keys.Given as goal

abbrev pub invariant-loop-n : goal.invariant-loop-n
invariant-loop-n l = KeysWritten l.initial.out l.out l.n l.kept l.broken l.at × (l.n ≤ l.keys)
