use Prim.Native.Nat.{◌+◌, ◌≤◌}
use Rattle.write_bytes.specs.Wrote.{Wrote}
use Rattle.write_trimmed.specs.Putting.{kept_bytes}
use Rattle.write_trimmed.proofs.puts.put_lines.Given as goal

abbrev pub invariant-loop-n : goal.invariant-loop-n
invariant-loop-n l = (l.n ≤ l.end + 1) × Wrote l.initial.out l.out 0 (kept_bytes l.proof l.at l.firsts l.marks l.numbers l.n) l.next
