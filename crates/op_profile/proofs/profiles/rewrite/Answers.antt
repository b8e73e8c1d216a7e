use Rattle.std.proofs.lemmas.Result.{err_from_is_err_and}
use Rattle.op_profile.specs.Returns.{small_rewrites, rewrite_stops, rewrite_fills, fits_answer}
use Rattle.op_profile.proofs.profiles.rewrite.Goals as goal

pub returns-in_err-has_room : goal.returns-in_err-has_room
returns-in_err-has_room c =
    let p = err_from_is_err_and c.from_residual.result c.from_residual.ensures.1 in
    rw (p.1, p.2) (small_rewrites _ _ _ c.in_err-has_room.ensures.0 c.in_err-has_room.ensures.1)

pub returns-in_err-accept_profile : goal.returns-in_err-accept_profile
returns-in_err-accept_profile c =
    let p = err_from_is_err_and c.from_residual-in_err-accept_profile.result c.from_residual-in_err-accept_profile.ensures.1 in
    rw (p.1, p.2) (rewrite_stops c.in_err-accept_profile.ensures _ c.in_ok-has_room.ensures)

pub put-requires : goal.put-requires
put-requires c = fits_answer c.in_ok-accept_profile.ensures.0 _ c.in_ok-has_room.ensures

pub returns : goal.returns
returns c = rewrite_fills c.in_ok-accept_profile.ensures.0 (λ i. (c.shared_slice_known-1.given i).fits) c.in_ok-has_room.ensures c.put.ensures
