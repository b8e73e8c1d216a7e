use Rattle.std.proofs.lemmas.Result.{err_from_is_err_and}
use Rattle.op_proof.specs.Returns.{proof_stops, proof_over, proof_judged}
use Rattle.op_proof.proofs.check_proof.Goals as goal

pub returns-in_err-accepted : goal.returns-in_err-accepted
returns-in_err-accepted c =
    let p = err_from_is_err_and c.from_residual.result c.from_residual.ensures.1 in rw (p.1, p.2) (proof_stops c.in_err-accepted.ensures _)

pub returns-then-proof-gt-PROOF_BYTES : goal.returns-then-proof-gt-PROOF_BYTES
returns-then-proof-gt-PROOF_BYTES c = proof_over c.in_ok-accepted.ensures.0 _ c.if-proof-gt-PROOF_BYTES.true

pub check_lines-proved-requires : goal.check_lines-proved-requires
check_lines-proved-requires c = c.in_ok-accepted.ensures.0

pub returns : goal.returns
returns c = proof_judged c.in_ok-accepted.ensures.0 _ c.if-proof-gt-PROOF_BYTES.false _ c.check_lines-proved.ensures c.of_input.ensures
