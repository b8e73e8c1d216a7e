use Prim.Native.Nat.{ℕ, ◌+◌}
use mathlib.Core.Path.{ap, ◌∙◌}
use Rattle.meaning.specs.Records.{value_bytes}
use Rattle.tree_table.specs.FileTable.{file_stride}
use Rattle.tree_table.proofs.fields.node_bytes.Goals as goal

pub returns : goal.returns
unfolding file_stride
returns c = (c.bytes_of.ensures.0 ∙ ap (λ (k : ℕ). 7 + value_bytes k) c.node_kind.ensures, c.bytes_of.ensures.1, c.bytes_of.ensures.2)
