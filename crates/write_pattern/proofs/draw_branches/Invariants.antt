use Rattle.meaning.specs.Records.{key_in}
use Rattle.read_record.specs.Classes.{class_by}
use Rattle.write_pattern.specs.Runs.{Branching}
use Rattle.write_pattern.proofs.draw_branches.Given as goal

abbrev pub invariant-loop-i : goal.invariant-loop-i
invariant-loop-i l = Branching (class_by l.classes) l.whole l.initial.d l.d (key_in l.asked).paths l.i
