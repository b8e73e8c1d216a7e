use Rattle.std.proofs.Common.{arith}
use Rattle.std.proofs.lemmas.Bool.Decides.{nat_tests}
use Rattle.read_entry.specs.Labels.{is_class}
use Rattle.read_entry.proofs.labels.is_class.Goals as goal

pub returns-then-class-eq-ELEMENT : goal.returns-then-class-eq-ELEMENT
unfolding is_class
returns-then-class-eq-ELEMENT c = grind (arith, nat_tests)

pub returns-else-class-eq-ELEMENT : goal.returns-else-class-eq-ELEMENT
unfolding is_class
returns-else-class-eq-ELEMENT c = grind (arith, nat_tests)
