use Rattle.std.proofs.Common.{rules}
use Rattle.std.proofs.lemmas.Result.{err_from_is_err_and}
use Rattle.op_accept.specs.Taken.{tables_of, ready_in}
use Rattle.op_salvage.specs.Salvaged.{small_salvages, salvage_stops}
use Rattle.op_salvage.proofs.salvage.salvage.Goals as goal

pub returns-in_err-has_room : goal.returns-in_err-has_room
returns-in_err-has_room c =
    let p = err_from_is_err_and c.from_residual.result c.from_residual.ensures.1 in
    rw (p.1, p.2) (small_salvages _ _ _ _ c.in_err-has_room.ensures.0 c.in_err-has_room.ensures.1)

pub returns-in_err-accepted : goal.returns-in_err-accepted
returns-in_err-accepted c =
    let p = err_from_is_err_and c.from_residual-in_err-accepted.result c.from_residual-in_err-accepted.ensures.1 in
    rw (p.1, p.2) (salvage_stops c.in_err-accepted.ensures _ _ (search rules))

pub salvage_tree-requires : goal.salvage_tree-requires
salvage_tree-requires c = (tables_of c.in_ok-accepted.ensures.0 c.in_ok-accepted.ensures.1, search rules)

pub returns : goal.returns
returns c = c.salvage_tree.ensures _ (ready_in c.in_ok-accepted.ensures.0)
