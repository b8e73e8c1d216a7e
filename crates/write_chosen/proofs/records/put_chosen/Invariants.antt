use Rattle.write_chosen.specs.Choosing.{Choosing}
use Rattle.write_chosen.proofs.records.put_chosen.Given as goal

abbrev pub invariant-loop-n : goal.invariant-loop-n
invariant-loop-n l = Choosing l.initial.out l.at l.part l.keys l.stays l.out l.rest l.chosen l.n
