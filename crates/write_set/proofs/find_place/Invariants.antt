use Rattle.theory_derive.specs.Sets.{insert}
use Rattle.read_record.specs.BodyParts.{paths_of}
use Rattle.write_set.specs.Places.{Seeking}
use Rattle.write_set.proofs.find_place.Given as goal

abbrev pub invariant-loop-other : goal.invariant-loop-other
invariant-loop-other l = Seeking (insert l.path) (paths_of l.count l.paths) l.passed l.other-iterator
