use Rattle.meaning.specs.Lists.{is_empty}
use Rattle.meaning.specs.Records.{key_in}
use Rattle.read_record.specs.Hunts.{Hunt}
use Rattle.read_record.proofs.keys.holds_empty.Given as goal

abbrev pub invariant-loop : goal.invariant-loop
invariant-loop l = Hunt is_empty (key_in l.body).paths l.n l.counter l.rest
