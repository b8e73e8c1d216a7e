use Rattle.std.proofs.Common.{arith}
use Rattle.std.proofs.lemmas.Bool.Decides.{nat_tests}
use Rattle.read_record.specs.Classes.{is_symbol_by}
use Rattle.read_key.specs.Symbols.{symbol_declared}
use Rattle.read_key.proofs.symbols.is_symbol.Goals as goal

pub returns-in-0 : goal.returns-in-0
unfolding is_symbol_by
returns-in-0 c = grind (arith, nat_tests)

pub returns-in_default : goal.returns-in_default
returns-in_default c = symbol_declared _ _ (omega arith) (omega arith) c.from.ensures
