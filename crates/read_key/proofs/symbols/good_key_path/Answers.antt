use Rattle.std.proofs.Common.{arith}
use Rattle.std.proofs.lemmas.Bool.Decides.{nat_tests}
use Rattle.read_key.specs.Symbols.{good_key_path}
use Rattle.read_key.proofs.symbols.good_key_path.Goals as goal

pub returns-then-good_path : goal.returns-then-good_path
unfolding good_key_path
returns-then-good_path c = grind (arith, nat_tests)

pub returns-else-good_path : goal.returns-else-good_path
unfolding good_key_path
returns-else-good_path c = grind (arith, nat_tests)
