use Rattle.path_words.specs.Rows.{Filling}
use Rattle.path_words.proofs.next_row.Given as goal

abbrev pub invariant-loop-i : goal.invariant-loop-i
invariant-loop-i l = Filling l.initial.rows l.rows l.old l.p l.symbol l.i
