use Prim.Native.Nat.{◌≤◌}
use mathlib.Core.Path.{◌≡◌}
use lib.ListN.{length}
use Rattle.op_tally.specs.Counting.{tally_of, KeysMore}
use Rattle.op_tally.proofs.count_keys.Given as goal

abbrev pub invariant-loop-n : goal.invariant-loop-n
invariant-loop-n l = KeysMore (tally_of l.initial.tally) l.n l.breaks (tally_of l.tally) × (l.n ≤ l.keys) × (length l.initial.tally.kept ≡ 64) × (length l.initial.tally.broken ≡ 64)
