use Rattle.std.proofs.Common.{◌≤◌, ◌≡◌, ◌+◌, length}
use Rattle.make.proofs.make_lines.Given as goal

abbrev pub invariant-loop-rest : goal.invariant-loop-rest
invariant-loop-rest g l = (l.line + length l.rest ≤ length l.text) × (length l.made ≡ length l.initial.made) × (length l.answer ≡ length l.initial.answer)

abbrev pub decreases-loop-rest : goal.decreases-loop-rest
decreases-loop-rest g l = length l.rest
