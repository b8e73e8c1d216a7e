use Prim.Native.Nat.{suc}
use Rattle.read_tree.specs.Nodes.{is_twin, Seeking}
use Rattle.read_tree.proofs.nodes.has_twin.Given as goal

abbrev pub invariant-loop-i : goal.invariant-loop-i
invariant-loop-i l = Seeking (is_twin l.long l.bytes l.parent l.label) l.nodes (suc l.parent) l.i
