use Rattle.write_text.specs.Names.{names}
use Rattle.write_text.specs.Symbols.{Symbols}
use Rattle.write_text.proofs.put_path_text.Given as goal

abbrev pub invariant-loop-i : goal.invariant-loop-i
invariant-loop-i l = Symbols (names l.labels) l.path l.initial.out l.out l.initial.next l.i l.next
