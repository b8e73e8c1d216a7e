use Rattle.std.proofs.Common.{arith}
use Rattle.std.proofs.lemmas.Bool.Decides.{nat_tests}
use Rattle.meaning.specs.Refusals.{good_set}
use Rattle.read_key.proofs.order.good_set.Goals as goal

pub returns-then-n-most : goal.returns-then-n-most
unfolding good_set
returns-then-n-most c = grind (arith, nat_tests)

pub returns-else-n-most : goal.returns-else-n-most
unfolding good_set
returns-else-n-most c = grind (arith, nat_tests)
