use Rattle.std.proofs.lemmas.Result.{err_from_is_err_and}
use Rattle.op_accept.specs.Taken.{tables_of}
use Rattle.op_tree_accepted.specs.BothAccepted.{padded_refused, both_accepted, checks_profile_stops, checks_both_stop}
use Rattle.op_tree.proofs.check_counterexample.Goals as goal

pub returns-in_err-accepted : goal.returns-in_err-accepted
returns-in_err-accepted c =
    let p = err_from_is_err_and c.from_residual.result c.from_residual.ensures.1 in
    rw (p.1, p.2) (checks_profile_stops c.in_err-accepted.ensures _ _, padded_refused)

pub returns-in_err-read_both : goal.returns-in_err-read_both
returns-in_err-read_both c =
    let p = err_from_is_err_and c.from_residual-in_err-read_both.result c.from_residual-in_err-read_both.ensures.1 in
    rw (p.1, p.2) (checks_both_stop c.in_ok-accepted.ensures.0 _ _ c.in_err-read_both.ensures, padded_refused)

pub check_accepted-requires : goal.check_accepted-requires
check_accepted-requires c =
    (both_accepted (tables_of c.in_ok-accepted.ensures.0 c.in_ok-accepted.ensures.1) c.in_ok-read_both.ensures, c.in_ok-accepted.ensures.0)
