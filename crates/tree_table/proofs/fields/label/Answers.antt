use Prim.Native.Nat.{ℕ, ◌*◌, ◌+◌}
use lib.ListN.{get_or}
use native.Mathlib.Omega.{arith}
use mathlib.Core.Path.{ap, ◌∙◌}
use Rattle.tree_table.specs.FileTable.{file_table, told_fits}
use borrow.Author.Rules.{rules}
use Rattle.tree_table.proofs.fields.label.Goals as goal

pub overflow_mul-node_bytes : goal.overflow_mul-node_bytes
overflow_mul-node_bytes c = let f = told_fits _ _ _ c.node_bytes.ensures.0 c.requires in let z = f.0 in search rules

pub overflow_add-node_bytes : goal.overflow_add-node_bytes
overflow_add-node_bytes c = let f = told_fits _ _ _ c.node_bytes.ensures.0 c.requires in let z = f.0 in let y = f.1 in search rules

pub bounds-tree-node_bytes : goal.bounds-tree-node_bytes
bounds-tree-node_bytes c = let f = told_fits _ _ _ c.node_bytes.ensures.0 c.requires in let z = f.0 in let y = f.1 in omega arith

pub returns : goal.returns
unfolding file_table
returns c = (c.from.ensures ∙ ap (λ (w : ℕ). get_or c.args.tree.now (w * c.args.i + 6) 0) c.node_bytes.ensures.0, omega arith)
