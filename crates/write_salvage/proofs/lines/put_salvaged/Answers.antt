use native.Mathlib.Omega.{arith}
use lib.ListN.{length-set}
use Rattle.write_salvage.specs.Lines.{salvaged_wrote}
use Rattle.write_salvage.proofs.lines.put_salvaged.Goals as goal

pub shape_of-out : goal.shape_of-out
shape_of-out c = simp length-set (omega arith)

pub returns : goal.returns
returns c = search (salvaged_wrote)
