use Rattle.std.proofs.Common.{rules}
use Rattle.std.proofs.lemmas.Result.{err_from_is_err_and}
use Rattle.op_proof_line.specs.Writing.{write_small, write_refused, write_filled, write_proved}
use Rattle.op_proof_line.proofs.write_proof_line.Goals as goal

pub returns-in_err-has_room : goal.returns-in_err-has_room
returns-in_err-has_room c =
    let p = err_from_is_err_and c.from_residual.result c.from_residual.ensures.1 in
    rw (p.1, p.2) (write_small _ _ _ _ _ _ c.in_err-has_room.ensures.0 c.in_err-has_room.ensures.1)

pub returns-in_err-check_proof : goal.returns-in_err-check_proof
returns-in_err-check_proof c =
    let p = err_from_is_err_and c.from_residual-in_err-check_proof.result c.from_residual-in_err-check_proof.ensures.1 in
    rw (p.1, p.2) (write_refused _ _ _ _ _ _ c.in_err-check_proof.ensures (search rules))

pub put_key-requires : goal.put_key-requires
put_key-requires c = (write_proved _ _ _ c.in_ok-check_proof.ensures, search rules)

pub returns : goal.returns
returns c = write_filled _ _ _ c.in_ok-check_proof.ensures _ (search rules) c.put_key.ensures
