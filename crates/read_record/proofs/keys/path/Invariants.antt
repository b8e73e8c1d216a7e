use Rattle.meaning.specs.Records.{key_in}
use Rattle.read_record.specs.KeyPaths.{AtPath}
use Rattle.read_record.proofs.keys.path.Given as goal

abbrev pub invariant-loop : goal.invariant-loop
invariant-loop l = AtPath (key_in l.body).paths l.counter l.rest
