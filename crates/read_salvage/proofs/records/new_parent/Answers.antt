use native.Mathlib.Omega.{arith}
use Rattle.read_salvage.specs.Moved.{parent_placed, parent_none}
use Rattle.read_salvage.proofs.records.new_parent.Goals as goal

pub returns-then-parent-records : goal.returns-then-parent-records
returns-then-parent-records c = (parent_placed _ _ _ c.if-parent-records.true (let p = c.requires in let a = p.0 in let b = p.1 in omega arith) c.from.ensures, omega arith)

pub returns : goal.returns
returns c = (parent_none _ _ _ c.if-parent-records.false, omega arith)
