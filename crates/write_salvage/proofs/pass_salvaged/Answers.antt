use Rattle.write_salvage.specs.Blocks.{first_in, first_other}
use Rattle.write_salvage.proofs.pass_salvaged.Goals as goal

pub returns-then-in_block : goal.returns-then-in_block
returns-then-in_block c = search (first_in)

pub returns : goal.returns
returns c = search (first_other)
