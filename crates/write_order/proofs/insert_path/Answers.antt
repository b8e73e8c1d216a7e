use Rattle.std.proofs.Common.{sym, arith, length-take-le}
use Rattle.write_order.specs.Inserts.{inserted_new}
use Rattle.write_order.proofs.insert_path.Goals as goal

pub slice_bounds-find_place-end-2 : goal.slice_bounds-find_place-end-2
slice_bounds-find_place-end-2 c = sym (length-take-le _ _ (let r = c.requires.room in omega arith))

pub insert_behind-requires : goal.insert_behind-requires
insert_behind-requires c = let w = c.find_place-passed.ensures.within in let l = length-take-le c.args.used c.args.buffer.now (let r = c.requires.room in omega arith) in
    (c.requires.path_short, omega arith, c.requires.room)

pub returns : goal.returns
returns c = inserted_new c.requires c.find_place-passed.ensures c.insert_behind.ensures
