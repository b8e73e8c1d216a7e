use Rattle.std.proofs.Common.{◌≡◌, length}
use Rattle.tree_sorted.specs.Adopting.{AdoptedTo, NumbersStay}
use Rattle.tree_sorted.proofs.groups.adopt.Given as goal

abbrev pub invariant-loop-a : goal.invariant-loop-a
invariant-loop-a l = AdoptedTo l.count l.list.from l.initial.sorted.group l.initial.sorted.number l.sorted.group l.a
    × NumbersStay l.initial.sorted l.sorted × (length l.sorted.group ≡ 4096)
