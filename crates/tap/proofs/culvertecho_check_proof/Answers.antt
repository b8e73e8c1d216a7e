use Rattle.std.proofs.Common.{arith}
use Rattle.tap.specs.Told.{proof_short, proof_told}
use Rattle.tap.proofs.culvertecho_check_proof.Goals as goal

pub returns-then-detail-lt-DETAIL_BYTES : goal.returns-then-detail-lt-DETAIL_BYTES
returns-then-detail-lt-DETAIL_BYTES c = rw c.number.ensures (proof_short _ _ _ _ (omega arith))

pub returns : goal.returns
returns c = proof_told _ _ _ (omega arith) _ c.check_proof-found.result c.check_proof-found.ensures c.of_checking-told.ensures c.put_details.ensures
