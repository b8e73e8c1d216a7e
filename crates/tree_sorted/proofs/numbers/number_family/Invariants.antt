use Rattle.std.proofs.Common.{◌≡◌, ◌<◌, ◌≤◌, length}
use Rattle.tree_table.specs.Seek.{left}
use Rattle.tree_sorted.specs.Numbers.{Passing}
use Rattle.tree_sorted.specs.Sorted.{Stays}
use Rattle.tree_sorted.proofs.numbers.number_family.Given as goal

abbrev pub invariant-loop-x : goal.invariant-loop-x
invariant-loop-x l = Passing l.count l.rows.family l.list.from l.initial.sorted.group l.c l.initial.sorted.number l.sorted.number l.sorted.stamp l.sorted.lead l.x
    × Stays l.initial.sorted l.sorted × (0 < l.x → l.shared < l.x) × (l.shared ≤ 4096)
    × (length l.sorted.number ≡ 4096) × (length l.sorted.stamp ≡ 4096) × (length l.sorted.lead ≡ 4096)

abbrev pub decreases-loop-x : goal.decreases-loop-x
decreases-loop-x l = left l.count l.x
