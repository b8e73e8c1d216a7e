use Rattle.std.proofs.Common.{rules}
use Rattle.std.proofs.lemmas.Result.{err_from_is_err_and}
use Rattle.op_accept.specs.Taken.{tables_of}
use Rattle.op_tree_accepted.specs.BothAccepted.{counted_bodies}
use Rattle.op_salvage_list.specs.Listing.{small_lists, profile_lists, keys_few}
use Rattle.op_salvage_list.proofs.salvage_block.Goals as goal

pub returns-in_err-has_room : goal.returns-in_err-has_room
returns-in_err-has_room c =
    let p = err_from_is_err_and c.from_residual.result c.from_residual.ensures.1 in
    rw (p.1, p.2) (small_lists _ _ _ _ _ c.in_err-has_room.ensures.0 c.in_err-has_room.ensures.1)

pub returns-in_err-accepted : goal.returns-in_err-accepted
returns-in_err-accepted c =
    let p = err_from_is_err_and c.from_residual-in_err-accepted.result c.from_residual-in_err-accepted.ensures.1 in
    rw (p.1, p.2) (profile_lists c.in_err-accepted.ensures _ _ _ (search rules))

pub list_under-requires : goal.list_under-requires
list_under-requires c =
    let g = c.in_ok-accepted.ensures.0 in
    (tables_of g c.in_ok-accepted.ensures.1, counted_bodies g c.record_at-part.ensures, keys_few g, search rules)

pub returns : goal.returns
returns c = c.list_under.ensures _ _ c.in_ok-accepted.ensures.0 c.record_at-part.ensures
