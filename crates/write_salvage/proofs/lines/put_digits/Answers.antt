use native.Mathlib.Omega.{arith}
use Rattle.write_listing.specs.Decimal.{twenty_digits}
use Rattle.write_salvage.specs.Lines.{digits_wrote}
use Rattle.write_salvage.proofs.lines.put_digits.Goals as goal

pub put_decimal-requires : goal.put_decimal-requires
put_decimal-requires c = let d = twenty_digits c.args.n (omega arith) in omega arith

pub returns : goal.returns
returns c = digits_wrote _ (omega arith) c.put_decimal.ensures
