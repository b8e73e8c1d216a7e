use Rattle.std.proofs.lemmas.Result.{err_from_is_err_and}
use Rattle.op_accept.specs.Taken.{tables_of, ready_in}
use Rattle.op_tree_accepted.specs.BothAccepted.{padded_none, both_accepted, tests_profile_stops, tests_both_stop}
use Rattle.op_tree.proofs.keep.Goals as goal

pub returns-in_err-accepted : goal.returns-in_err-accepted
returns-in_err-accepted c =
    let p = err_from_is_err_and c.from_residual.result c.from_residual.ensures.1 in
    rw (p.1, p.2) (tests_profile_stops c.in_err-accepted.ensures _ _, padded_none)

pub returns-in_err-read_both : goal.returns-in_err-read_both
returns-in_err-read_both c =
    let p = err_from_is_err_and c.from_residual-in_err-read_both.result c.from_residual-in_err-read_both.ensures.1 in
    rw (p.1, p.2) (tests_both_stop c.in_ok-accepted.ensures.0 _ _ c.in_err-read_both.ensures, padded_none)

pub keep_accepted-requires : goal.keep_accepted-requires
keep_accepted-requires c = both_accepted (tables_of c.in_ok-accepted.ensures.0 c.in_ok-accepted.ensures.1) c.in_ok-read_both.ensures

pub returns : goal.returns
returns c = (c.keep_accepted.ensures.0 _ (ready_in c.in_ok-accepted.ensures.0), c.keep_accepted.ensures.1)
