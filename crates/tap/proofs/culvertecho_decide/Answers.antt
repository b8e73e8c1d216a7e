use Rattle.std.proofs.Common.{arith}
use Rattle.tap.specs.Told.{decide_short, decide_told}
use Rattle.tap.proofs.culvertecho_decide.Goals as goal

pub returns-then-detail-lt-DETAIL_BYTES : goal.returns-then-detail-lt-DETAIL_BYTES
returns-then-detail-lt-DETAIL_BYTES c = rw c.number.ensures (decide_short _ _ _ _ (omega arith))

pub returns : goal.returns
returns c = decide_told _ _ _ (omega arith) _ _ c.decide-found.result c.decide-found.ensures c.of_deciding-told.ensures c.put_details.ensures
