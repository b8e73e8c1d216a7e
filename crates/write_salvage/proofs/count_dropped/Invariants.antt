use Rattle.std.proofs.Common.{◌≡◌, ◌≤◌, take}
use Rattle.std.specs.Prelude.{length}
use Rattle.meaning.specs.Salvage.{drop_lines}
use Rattle.write_salvage.proofs.count_dropped.Given as goal

abbrev pub invariant-loop-reason : goal.invariant-loop-reason
invariant-loop-reason l = (l.dropped ≡ length (drop_lines 0 (take l.reason-index l.reasons))) × (l.dropped ≤ l.reason-index)
