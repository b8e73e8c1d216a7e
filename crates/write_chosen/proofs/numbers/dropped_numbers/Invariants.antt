use Rattle.write_chosen.specs.Dropping.{Numbering}
use Rattle.write_chosen.proofs.numbers.dropped_numbers.Given as goal

abbrev pub invariant-loop-n : goal.invariant-loop-n
invariant-loop-n l = Numbering l.keys l.stays l.dropped l.n
