use Prim.Native.Nat.{ℕ, ◌/◌}
use lib.ListN.{length}
use mathlib.Core.Path.{ap}
use Rattle.tree_table.specs.FileTable.{file_table}
use Rattle.tree_table.proofs.fields.size.Goals as goal

pub returns : goal.returns
unfolding file_table
returns c = ap (λ (w : ℕ). length c.args.tree.now / w) c.node_bytes.ensures.0
