use Rattle.write_salvage.specs.Blocks.{puts_in, puts_other}
use Rattle.write_salvage.proofs.pass_broken.Goals as goal

pub returns-then-in_block : goal.returns-then-in_block
returns-then-in_block c = search (puts_in)

pub returns : goal.returns
returns c = search (puts_other)
