use native.Mathlib.Omega.{arith}
use lib.ListN.{length-set}
use Rattle.write_salvage.specs.Lines.{number_wrote}
use Rattle.write_salvage.proofs.lines.put_number.Goals as goal

pub put_digits-requires : goal.put_digits-requires
put_digits-requires c = simp length-set (omega arith)

pub shape_of-out : goal.shape_of-out
shape_of-out c = let k = c.put_digits.auto.out in simp length-set at k

pub returns : goal.returns
returns c = number_wrote _ _ _ (omega arith) c.put_digits.ensures
