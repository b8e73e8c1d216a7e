use Rattle.read_record.specs.Fields.{Numbered}
use Rattle.read_record.proofs.fields.number.Given as goal

abbrev pub invariant-loop-i : goal.invariant-loop-i
invariant-loop-i l = Numbered l.l l.i l.n
