use Rattle.write_set.specs.Fronts.{Fronting}
use Rattle.write_set.proofs.put_front.Given as goal

abbrev pub invariant-loop-path : goal.invariant-loop-path
invariant-loop-path l = Fronting l.initial.buffer l.front l.count l.paths l.buffer l.at l.path-iterator
