use Rattle.std.proofs.Common.{◌-◌}
use Rattle.read_record.specs.BodyParts.{paths_end}
use Rattle.read_record.specs.Bodies.{Ends}
use Rattle.read_record.proofs.bodies.paths_end.Given as goal

abbrev pub invariant-loop : goal.invariant-loop
invariant-loop l = Ends (l.count - l.counter) l.rest (paths_end l.count l.l)
