use Rattle.write_line.specs.Normals.{Normed}
use Rattle.write_line.proofs.put_normal.Given as goal

abbrev pub invariant-loop-i : goal.invariant-loop-i
invariant-loop-i l = Normed l.initial.out l.out l.at l.path l.i l.next
