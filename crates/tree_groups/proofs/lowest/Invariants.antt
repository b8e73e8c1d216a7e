use Rattle.std.proofs.Common.{◌<◌}
use Rattle.tree_groups.specs.Lowest.{LowFrom}
use Rattle.tree_groups.proofs.lowest.Given as goal

abbrev pub invariant-loop-x : goal.invariant-loop-x
invariant-loop-x l = (0 < l.x) × LowFrom l.family l.low l.count l.x
