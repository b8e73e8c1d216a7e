use Rattle.path_words.specs.Rows.{Rowed}
use Rattle.path_words.proofs.included.Given as goal

abbrev pub invariant-loop-i : goal.invariant-loop-i
invariant-loop-i l = Rowed l.p l.q l.rows l.old l.i
