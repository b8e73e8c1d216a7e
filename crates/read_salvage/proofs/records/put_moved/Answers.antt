use native.Mathlib.Omega.{arith}
use mathlib.Core.Path.{sym}
use lib.ListN.{length-set, length-take, length-drop}
use lib.Seq.{length-take-le}
use Rattle.read_salvage.specs.Moved.{moved_wrote}
use Rattle.read_salvage.proofs.records.put_moved.Goals as goal

pub slice_bounds-put-end : goal.slice_bounds-put-end
slice_bounds-put-end c = let p = c.requires.0 in sym (length-take-le 4 c.args.node.now (omega arith))

pub put-parent_at-requires : goal.put-parent_at-requires
put-parent_at-requires c = let p = c.requires in let six = p.0 in let room = p.1 in let e = length-take-le 4 c.args.node.now (omega arith) in omega arith

pub bounds-out-parent_at : goal.bounds-out-parent_at
bounds-out-parent_at c = let w = c.put-parent_at.ensures in let p = c.requires in let six = p.0 in let room = p.1 in let e = length-take-le 4 c.args.node.now (omega arith) in let a = w.after in let k = w.kept in omega arith

pub bounds-out-parent_at-2 : goal.bounds-out-parent_at-2
bounds-out-parent_at-2 c = let w = c.put-parent_at.ensures in let p = c.requires in let six = p.0 in let room = p.1 in let e = length-take-le 4 c.args.node.now (omega arith) in let a = w.after in let k = w.kept in simp length-set (omega arith)

pub put-requires : goal.put-requires
put-requires c = let w = c.put-parent_at.ensures in let p = c.requires in let six = p.0 in let room = p.1 in let k = w.kept in simp (length-set, length-take, length-drop) (omega arith)

pub returns : goal.returns
returns c = moved_wrote _ _ c.requires.0 c.requires.1 c.put-parent_at.ensures c.put.ensures
