use lib.ListN.{length}
use Rattle.read_tree.specs.Walks.{TreeLoop}
use Rattle.read_tree.proofs.tree.read_tree.Given as goal

abbrev pub invariant-loop-rest : goal.invariant-loop-rest
invariant-loop-rest l = TreeLoop l.second l.kind l.classes l.bytes l.nodes l.rest

abbrev pub decreases-loop-rest : goal.decreases-loop-rest
decreases-loop-rest l = length l.rest
