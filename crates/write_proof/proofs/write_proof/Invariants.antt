use Rattle.write_proof.specs.Whole.{Writing}
use Rattle.meaning.specs.Records.{key_in}
use Rattle.write_proof.proofs.write_proof.Given as goal

abbrev pub invariant-loop-n : goal.invariant-loop-n
invariant-loop-n l = Writing l.profile l.labels (key_in l.asked) l.steps l.count l.initial.out l.out l.initial.place.at l.place.at l.place.lines l.n
