use Rattle.std.proofs.Common.{◌≡◌, ◌≤◌, ◌+◌, take}
use Rattle.std.specs.Prelude.{length}
use Rattle.meaning.specs.Salvage.{salvaged_line, drop_lines}
use Rattle.write_salvage.specs.Blocks.{Since}
use Rattle.write_salvage.proofs.put_reasons.Given as goal

abbrev pub invariant-loop-n : goal.invariant-loop-n
invariant-loop-n l =
    Since l.initial.out l.out l.start (salvaged_line l.dropped) (drop_lines 0 (take l.n l.reasons)) l.initial.put.at l.initial.put.lines l.put.at l.put.lines
    × (l.put.lines ≤ l.n + l.initial.put.lines) × (l.initial.put.lines ≡ 1) × (length l.out ≡ length l.initial.out)
