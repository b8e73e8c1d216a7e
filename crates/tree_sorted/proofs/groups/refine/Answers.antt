use Rattle.std.proofs.Common.{arith}
use Rattle.tree_table.specs.LinkedTree.{bytes_tree}
use Rattle.tree_sorted.specs.GoodKey.{good_simple}
use Rattle.tree_sorted.specs.Chains.{refined, tops_both, tops_of_groups, tops_of_numbers}
use Rattle.tree_sorted.proofs.groups.refine.Goals as goal

pub returns-then-is_single : goal.returns-then-is_single
returns-then-is_single c =
    let p = c.requires.prepared in
    let q = c.requires.i_in_bounds in
    let e = c.size-nodes.ensures in
    let n = c.number_nodes-shared.ensures in
    let a = c.adopt.ensures in (
      refined _ _ _ _ _ (bytes_tree p.0.tree) p.0.tree.few p.0.families p.2 _ q.0 (good_simple p.1 _ q.0) _ _ c.adopt.new.sorted _ _ e (omega arith) n.1 n.0 a.0 q.1,
      tops_both _ _ _ (tops_of_groups _ _ n.1) (tops_of_numbers _ _ a.1),
    )
