use Rattle.write_step.specs.Singles.{of_key_fits, of_key_wrote}
use Rattle.write_step.proofs.single.write_of_key.Goals as goal

pub write_line-requires : goal.write_line-requires
write_line-requires c = search (of_key_fits)

pub returns : goal.returns
returns c = search (of_key_wrote)
