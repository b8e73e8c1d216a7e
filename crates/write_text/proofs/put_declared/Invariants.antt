use Rattle.std.proofs.Common.{◌-◌}
use Rattle.write_text.specs.Names.{names}
use Rattle.write_text.specs.Texts.{declared_text}
use Rattle.write_text.specs.Looking.{Looking, Stays}
use Rattle.write_text.proofs.put_declared.Given as goal

abbrev pub invariant-loop : goal.invariant-loop
invariant-loop l = Looking l.n (l.end - l.counter) l.rest (declared_text (names l.labels) l.n) × Stays l.initial.out l.out
