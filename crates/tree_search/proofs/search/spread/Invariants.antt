use Rattle.std.proofs.Common.{◌≡◌}
use Rattle.tree_search.specs.Start.{SpreadTo}
use Rattle.tree_search.proofs.search.spread.Given as goal

abbrev pub invariant-loop-v : goal.invariant-loop-v
invariant-loop-v l = SpreadTo l.initial.sorted.top l.sorted.group l.v × (l.sorted.top ≡ l.initial.sorted.top)
