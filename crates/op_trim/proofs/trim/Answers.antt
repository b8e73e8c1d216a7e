use Rattle.std.proofs.Common.{rules}
use Rattle.std.proofs.lemmas.Result.{err_from_is_err_and}
use Rattle.op_trim.specs.Returns.{trim_small, trim_refused, trim_proved, trim_filled}
use Rattle.op_trim.proofs.trim.Goals as goal

pub returns-in_err-has_room : goal.returns-in_err-has_room
returns-in_err-has_room c =
    let p = err_from_is_err_and c.from_residual.result c.from_residual.ensures.1 in
    rw (p.1, p.2) (trim_small _ _ _ _ _ c.in_err-has_room.ensures.0 c.in_err-has_room.ensures.1)

pub returns-in_err-check_proof : goal.returns-in_err-check_proof
returns-in_err-check_proof c =
    let p = err_from_is_err_and c.from_residual-in_err-check_proof.result c.from_residual-in_err-check_proof.ensures.1 in
    rw (p.1, p.2) (trim_refused _ _ _ _ _ c.in_err-check_proof.ensures (search rules))

pub put_trimmed-requires : goal.put_trimmed-requires
put_trimmed-requires c = (trim_proved _ _ _ c.in_ok-check_proof.ensures, search rules)

pub returns : goal.returns
returns c = trim_filled _ _ _ c.in_ok-check_proof.ensures (search rules) c.put_trimmed.ensures
