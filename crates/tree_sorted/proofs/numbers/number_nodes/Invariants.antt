use Rattle.std.proofs.Common.{◌≤◌, ◌*◌}
use Rattle.tree_sorted.specs.Numbers.{NumberedTo}
use Rattle.tree_sorted.specs.Sorted.{Stays}
use Rattle.tree_sorted.proofs.numbers.number_nodes.Given as goal

abbrev pub invariant-loop-c : goal.invariant-loop-c
invariant-loop-c l = NumberedTo l.count l.indexed.rows.now.family l.list.from l.initial.sorted.group l.sorted.number l.sorted.stamp l.c
    × Stays l.initial.sorted l.sorted × (l.shared ≤ 4096 * l.c)
