use Rattle.std.proofs.Common.{◌<◌}
use Rattle.tree_table.specs.Links.{LinkedFrom}
use Rattle.tree_rows.specs.Chain.{by_family}
use Rattle.tree_rows.proofs.hang.hang_under.Given as goal

abbrev pub invariant-loop-x : goal.invariant-loop-x
invariant-loop-x l = (0 < l.x) × LinkedFrom (by_family l.count l.owner) l.x l.first l.next
