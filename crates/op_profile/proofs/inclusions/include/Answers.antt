use Rattle.std.proofs.lemmas.Result.{err_from_is_err_and}
use Rattle.op_profile.specs.Returns.{include_stops}
use Rattle.op_accept.specs.Taken.{tables_of, ready_of}
use Rattle.op_profile.proofs.inclusions.include.Goals as goal

pub returns-in_err-accepted : goal.returns-in_err-accepted
returns-in_err-accepted c =
    let p = err_from_is_err_and c.from_residual.result c.from_residual.ensures.1 in rw (p.1, p.2) (include_stops c.in_err-accepted.ensures _ _)

pub include_paths-requires : goal.include_paths-requires
include_paths-requires c = tables_of c.in_ok-accepted.ensures.0 c.in_ok-accepted.ensures.1

pub returns : goal.returns
returns c = c.include_paths.ensures _ (ready_of c.in_ok-accepted.ensures.0)
