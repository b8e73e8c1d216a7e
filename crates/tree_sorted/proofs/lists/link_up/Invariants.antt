use Rattle.std.proofs.Common.{◌≡◌, length}
use Rattle.tree_sorted.specs.Hung.{HungFrom}
use Rattle.tree_sorted.proofs.lists.link_up.Given as goal

abbrev pub invariant-loop-x : goal.invariant-loop-x
invariant-loop-x l = (length l.list.first ≡ 4096) × (length l.list.next ≡ 4096) × (l.list.from ≡ l.initial.list.from)
    × HungFrom l.count l.initial.list.from l.list.first l.list.next l.x
