use Rattle.std.proofs.Common.{◌≡◌, length}
use Rattle.tree_sorted.specs.Numbers.{Unstamped}
use Rattle.tree_sorted.specs.Sorted.{Stays}
use Rattle.tree_sorted.proofs.numbers.clear_numbers.Given as goal

abbrev pub invariant-loop-v : goal.invariant-loop-v
invariant-loop-v l = Unstamped l.v l.sorted.number l.sorted.stamp 1 × Stays l.initial.sorted l.sorted
    × (length l.sorted.number ≡ 4096) × (length l.sorted.stamp ≡ 4096)
