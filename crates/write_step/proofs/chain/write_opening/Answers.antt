use Rattle.write_step.specs.StepLines.{opening_wrote}
use Rattle.write_step.specs.StepFits.{cited_fits, narrowed_fits}
use lib.Seq.{length-take-le}
use mathlib.Core.Path.{sym}
use native.Mathlib.Omega.{arith}
use Rattle.write_step.proofs.chain.write_opening.Goals as goal

pub write_of_key-second-requires : goal.write_of_key-second-requires
write_of_key-second-requires c = search (cited_fits)

pub slice_bounds-write_of_key-end : goal.slice_bounds-write_of_key-end
slice_bounds-write_of_key-end c = sym (length-take-le _ _ (omega arith))

pub write_of_key-third-requires : goal.write_of_key-third-requires
write_of_key-third-requires c = search (narrowed_fits)

pub returns : goal.returns
returns c = opening_wrote _ _ _ _ _ _ c.write_along.ensures c.write_of_key-third.ensures c.write_of_key-second.ensures c.context.ensures c.target-aim.ensures
