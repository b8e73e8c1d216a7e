use Rattle.meaning.specs.Text.{put_path}
use Rattle.read_record.specs.BodyParts.{paths_of}
use Rattle.write_set.specs.Places.{Seeking}
use Rattle.write_order.proofs.find_place.Given as goal

abbrev pub invariant-loop-other : goal.invariant-loop-other
invariant-loop-other l = Seeking (put_path l.path) (paths_of l.count l.paths) l.passed l.other-iterator
