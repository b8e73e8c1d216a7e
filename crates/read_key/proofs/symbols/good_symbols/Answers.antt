use Rattle.std.proofs.Common.{arith}
use Rattle.std.proofs.lemmas.Bool.Decides.{nat_tests}
use Rattle.read_record.specs.Classes.{good_symbols_by}
use Rattle.read_key.specs.Symbols.{good_key_path}
use Rattle.read_key.proofs.symbols.good_symbols.Goals as goal

pub returns-then-good_path-2 : goal.returns-then-good_path-2
unfolding good_symbols_by good_key_path
returns-then-good_path-2 c = grind (arith, nat_tests)

pub returns-else-good_path-2 : goal.returns-else-good_path-2
unfolding good_symbols_by good_key_path
returns-else-good_path-2 c = grind (arith, nat_tests)
