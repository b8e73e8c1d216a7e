use Rattle.std.proofs.Common.{arith}
use Rattle.std.proofs.lemmas.Bool.Decides.{nat_tests}
use Rattle.write_salvage.specs.Blocks.{in_block}
use Rattle.write_salvage.proofs.in_block.Goals as goal

pub returns-then-start-line : goal.returns-then-start-line
unfolding in_block
returns-then-start-line c = grind (arith, nat_tests)

pub returns-else-start-line : goal.returns-else-start-line
unfolding in_block
returns-else-start-line c = grind (arith, nat_tests)
