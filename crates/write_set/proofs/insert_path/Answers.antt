use Rattle.std.proofs.Common.{sym, arith, length-take-le}
use Rattle.write_set.specs.Inserts.{inserted_held, inserted_new}
use Rattle.write_set.proofs.insert_path.Goals as goal

pub slice_bounds-find_place-end-2 : goal.slice_bounds-find_place-end-2
slice_bounds-find_place-end-2 c = sym (length-take-le _ _ (let r = c.requires.room in omega arith))

pub returns-in_default : goal.returns-in_default
returns-in_default c = inserted_held c.requires c.in_default.ensures

pub insert_behind-end-requires : goal.insert_behind-end-requires
insert_behind-end-requires c = let w = c.in-Some.ensures.within in let l = length-take-le c.args.used c.args.buffer.now (let r = c.requires.room in omega arith) in
    (c.requires.path_short, omega arith, c.requires.room)

pub returns : goal.returns
returns c = inserted_new c.requires c.in-Some.ensures c.insert_behind-end.ensures
