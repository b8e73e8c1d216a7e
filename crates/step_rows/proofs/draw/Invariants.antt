use Rattle.step_rows.specs.Drawn.{Drawing}
use Rattle.step_rows.proofs.draw.Given as goal

abbrev pub invariant-loop-j : goal.invariant-loop-j
invariant-loop-j l = Drawing l.asked l.j-iterator.iter l.j-iterator.count l.rows
