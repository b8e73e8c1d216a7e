use Rattle.std.proofs.Common.{arith}
use Rattle.std.proofs.lemmas.Bool.Decides.{nat_tests}
use Rattle.read_record.specs.Classes.{good_path_by}
use Rattle.read_key.proofs.symbols.good_path.Goals as goal

pub returns-then-all_symbols : goal.returns-then-all_symbols
unfolding good_path_by
returns-then-all_symbols c = grind (arith, nat_tests)

pub returns-else-all_symbols : goal.returns-else-all_symbols
unfolding good_path_by
returns-else-all_symbols c = grind (arith, nat_tests)
