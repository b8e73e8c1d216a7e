use Rattle.read_record.specs.Classes.{class_by}
use Rattle.write_tree.specs.Written.{Copied}
use Rattle.write_tree.proofs.write_copy.Given as goal

abbrev pub invariant-loop-x : goal.invariant-loop-x
invariant-loop-x l = Copied (class_by l.classes) l.drawing l.cut l.shift l.from l.to l.initial.out l.out l.x
