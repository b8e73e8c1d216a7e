use Rattle.std.proofs.Common.{arith}
use Rattle.std.proofs.lemmas.Bool.Decides.{nat_tests}
use Rattle.read_record.specs.Names.{in_name_ascii}
use Rattle.read_record.proofs.names.in_name.Goals as goal

pub returns-then-b-eq45 : goal.returns-then-b-eq45
returns-then-b-eq45 c = let e = in_name_ascii c.args.b in grind (arith, nat_tests)

pub returns-else-b-eq45 : goal.returns-else-b-eq45
returns-else-b-eq45 c = let e = in_name_ascii c.args.b in grind (arith, nat_tests)
