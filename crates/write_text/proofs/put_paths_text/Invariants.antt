use Rattle.meaning.specs.Records.{key_in}
use Rattle.write_text.specs.Names.{names}
use Rattle.write_text.specs.Symbols.{Set}
use Rattle.write_text.proofs.put_paths_text.Given as goal

abbrev pub invariant-loop-i : goal.invariant-loop-i
invariant-loop-i l = Set (names l.labels) (key_in l.body).paths l.initial.out l.out l.initial.next l.i l.next
