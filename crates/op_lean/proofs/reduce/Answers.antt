use Rattle.std.proofs.lemmas.Result.{err_from_is_err_and}
use Rattle.op_lean.specs.Returns.{reduce_short, reduce_stops, found_accepted}
use Rattle.op_lean.proofs.reduce.Goals as goal

pub returns-in_err-has_room : goal.returns-in_err-has_room
returns-in_err-has_room c =
    let p = err_from_is_err_and c.from_residual.result c.from_residual.ensures.1 in
    rw (p.1, p.2) (reduce_short _ _ _ c.in_err-has_room.ensures.0 c.in_err-has_room.ensures.1)

pub returns-in_err-accepted : goal.returns-in_err-accepted
returns-in_err-accepted c =
    let p = err_from_is_err_and c.from_residual-in_err-accepted.result c.from_residual-in_err-accepted.ensures.1 in
    rw (p.1, p.2) (reduce_stops _ _ _ c.in_ok-has_room.ensures c.in_err-accepted.ensures)

pub reduce_accepted-requires : goal.reduce_accepted-requires
reduce_accepted-requires c = (found_accepted c.in_ok-accepted.ensures.0 c.in_ok-accepted.ensures.1, c.in_ok-has_room.ensures)
