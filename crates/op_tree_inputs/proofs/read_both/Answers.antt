use Rattle.std.proofs.lemmas.Result.{err_from_is_err_and}
use Rattle.op_tree_inputs.specs.Inputs.{question_stops, tree_says}
use Rattle.op_tree_inputs.proofs.read_both.Goals as goal

pub returns-in_err-of_input : goal.returns-in_err-of_input
returns-in_err-of_input c =
    let p = err_from_is_err_and c.from_residual.result c.from_residual.ensures.1 in
    rw (p.1, p.2) (question_stops _ _ _ _ _ c.read_question.ensures c.in_err-of_input.ensures)

pub returns : goal.returns
returns c = tree_says _ _ _ _ _ c.read_question.ensures c.in_ok-of_input.ensures _ c.read_tree.ensures c.of_input-2.ensures
