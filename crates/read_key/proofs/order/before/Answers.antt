use Rattle.std.proofs.Common.{◌≡◌, ◌∙◌, arith}
use Rattle.std.proofs.lemmas.Bool.Decides.{nat_tests}
use Rattle.meaning.specs.Lists.{lower, before}
use Rattle.read_record.specs.Library.{lower_list}
use Rattle.read_key.proofs.order.before.Goals as goal

pub returns-then-p-q : goal.returns-then-p-q
unfolding before
returns-then-p-q c = grind (arith, nat_tests)

pub returns-then-p-q-2 : goal.returns-then-p-q-2
unfolding before
returns-then-p-q-2 c = let e : c.lt.result ≡ lower c.args.p.now c.args.q.now = c.lt.ensures ∙ lower_list _ _ (omega arith) in grind (arith, nat_tests)

pub returns-else-p-q-2 : goal.returns-else-p-q-2
unfolding before
returns-else-p-q-2 c = grind (arith, nat_tests)
