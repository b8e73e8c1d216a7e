use Rattle.std.proofs.Common.{◌≡◌, ℕ, ◌<◌, get_or}
use Rattle.tree_table.specs.FileTable.{file_table}
use Rattle.tree_rows.proofs.fields.put_fields.Given as goal

abbrev pub invariant-loop-v : goal.invariant-loop-v
invariant-loop-v l = ((u : ℕ) → u < l.v → get_or l.parents u 0 ≡ (file_table l.tree).parent u) × ((u : ℕ) → u < l.v → get_or l.labels u 0 ≡ (file_table l.tree).label u)
