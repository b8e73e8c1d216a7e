use Rattle.std.proofs.Common.{arith}
use Rattle.tap.specs.Told.{counterexample_short, counterexample_told}
use Rattle.tap.proofs.culvertecho_check_counterexample.Goals as goal

pub returns-then-detail-lt-DETAIL_BYTES : goal.returns-then-detail-lt-DETAIL_BYTES
returns-then-detail-lt-DETAIL_BYTES c = rw c.number.ensures (counterexample_short _ _ _ _ (omega arith))

pub returns : goal.returns
returns c = counterexample_told _ _ _ (omega arith) _ c.check_counterexample-found.result c.check_counterexample-found.ensures c.of_countering-told.ensures c.put_details.ensures
