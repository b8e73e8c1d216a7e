use Rattle.write_proof.specs.Asks.{asked_room, asked_wrote}
use mathlib.Core.Path.{refl}
use native.Mathlib.Omega.{arith}
use Rattle.write_proof.proofs.put_asked.Goals as goal

pub put-target_at-requires : goal.put-target_at-requires
put-target_at-requires c = let r = asked_room c.requires c.context.ensures refl refl in omega arith

pub put-path_at-requires : goal.put-path_at-requires
put-path_at-requires c = let r = asked_room c.requires c.context.ensures c.target.ensures refl in let a = c.put-target_at.ensures.after in let k = c.put-target_at.ensures.kept in omega arith

pub put-requires : goal.put-requires
put-requires c = let r = asked_room c.requires c.context.ensures c.target.ensures c.path.ensures in let a = c.put-target_at.ensures.after in let k = c.put-target_at.ensures.kept in
    let b = c.put-path_at.ensures.after in let m = c.put-path_at.ensures.kept in omega arith

pub returns : goal.returns
returns c = asked_wrote c.requires c.context.ensures c.target.ensures c.path.ensures c.put-target_at.ensures c.put-path_at.ensures c.put.ensures
