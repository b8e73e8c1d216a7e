use Rattle.read_record.specs.Classes.{class_by}
use Rattle.write_pattern.specs.Runs.{Running}
use Rattle.write_pattern.proofs.draw_run.Given as goal

abbrev pub invariant-loop-i : goal.invariant-loop-i
invariant-loop-i l = Running (class_by l.classes) l.every l.last l.initial.d l.d l.run l.i
