use Rattle.tree_search.specs.Start.{ZeroTo}
use Rattle.tree_search.proofs.search.forget.Given as goal

abbrev pub invariant-loop-v : goal.invariant-loop-v
invariant-loop-v l = ZeroTo l.memo l.v
