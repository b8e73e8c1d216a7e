use Rattle.write_set.specs.Unions.{Uniting}
use Rattle.write_set.proofs.unite_beyond.Given as goal

abbrev pub invariant-loop-path : goal.invariant-loop-path
invariant-loop-path l = Uniting l.initial.buffer l.count l.set l.front l.more l.paths l.buffer l.grown.count l.grown.used l.path-iterator
