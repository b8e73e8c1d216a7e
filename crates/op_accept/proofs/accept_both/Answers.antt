use Rattle.std.proofs.lemmas.Result.{err_from_is_err_and}
use Rattle.op_accept.specs.Taken.{both_refused, both_asked}
use Rattle.op_accept.proofs.accept_both.Goals as goal

pub returns-in_err-accepted : goal.returns-in_err-accepted
returns-in_err-accepted c =
    let p = err_from_is_err_and c.from_residual.result c.from_residual.ensures.1 in rw (p.1, p.2) (both_refused _ c.in_err-accepted.ensures)

pub returns-in_err-of_input : goal.returns-in_err-of_input
returns-in_err-of_input c =
    let p = err_from_is_err_and c.from_residual-in_err-of_input.result c.from_residual-in_err-of_input.ensures.1 in
    rw (p.1, p.2) (both_asked _ c.in_ok-accepted.ensures.0 _ c.read_question.ensures c.in_err-of_input.ensures)
