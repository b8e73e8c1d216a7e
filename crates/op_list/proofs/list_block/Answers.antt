use Rattle.std.proofs.Common.{rules}
use Rattle.std.proofs.lemmas.Result.{err_from_is_err_and}
use Rattle.op_list.specs.Listed.{small_lists, list_stops, tree_stops, tree_ready, tree_lists}
use Rattle.op_list.proofs.list_block.Goals as goal

pub returns-in_err-has_room : goal.returns-in_err-has_room
returns-in_err-has_room c =
    let p = err_from_is_err_and c.from_residual.result c.from_residual.ensures.1 in
    rw (p.1, p.2) (small_lists _ _ _ _ _ c.in_err-has_room.ensures.0 c.in_err-has_room.ensures.1)

pub returns-in_err-accepted : goal.returns-in_err-accepted
returns-in_err-accepted c =
    let p = err_from_is_err_and c.from_residual-in_err-accepted.result c.from_residual-in_err-accepted.ensures.1 in
    rw (p.1, p.2) (list_stops c.in_err-accepted.ensures _ _ _ (search rules))

pub returns-in_err-of_input : goal.returns-in_err-of_input
returns-in_err-of_input c =
    let p = err_from_is_err_and c.from_residual-in_err-of_input.result c.from_residual-in_err-of_input.ensures.1 in
    rw (p.1, p.2) (tree_stops c.in_ok-accepted.ensures.0 _ _ c.read_tree-judged.ensures c.in_err-of_input.ensures _ _ (search rules))

pub put_block-requires : goal.put_block-requires
put_block-requires c =
    (tree_ready c.in_ok-accepted.ensures.0 _ _ c.read_tree-judged.ensures c.in_ok-of_input.ensures c.in_ok-accepted.ensures.1, search rules)

pub returns : goal.returns
returns c =
    tree_lists c.in_ok-accepted.ensures.0 _ _ c.read_tree-judged.ensures c.in_ok-of_input.ensures c.in_ok-accepted.ensures.1 _ (search rules) c.put_block.ensures
