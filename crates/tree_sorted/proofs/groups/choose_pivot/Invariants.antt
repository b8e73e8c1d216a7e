use Rattle.std.proofs.Common.{◌<◌}
use Rattle.meaning.specs.Records.{key_in}
use Rattle.tree_rows.specs.Indexed.{table_in, classes_in}
use Rattle.tree_sorted.specs.Groups.{Grouped}
use Rattle.tree_sorted.specs.Chains.{TopsStay}
use Rattle.tree_sorted.proofs.groups.choose_pivot.Given as goal

abbrev pub invariant-loop-i : goal.invariant-loop-i
invariant-loop-i l = (l.pivot < l.i) × Grouped (classes_in l.indexed) (table_in l.indexed) (key_in l.body) l.sorted.group × TopsStay l.initial.sorted l.sorted
