use Rattle.tree_table.specs.LinkedTree.{bytes_tree}
use Rattle.tree_sorted.specs.Chains.{sorted_so, tops_both, tops_of_groups, tops_of_chain}
use Rattle.tree_sorted.proofs.groups.sort_targets.Goals as goal

pub returns : goal.returns
returns c =
    let p = c.requires.prepared in
    let e = c.size.ensures in
    let n = c.number_nodes.ensures in
    let q = c.choose_pivot-pivot.ensures in
    let r = c.chain_numbers.ensures in (
      sorted_so _ _ _ _ _ (bytes_tree p.0.tree) p.0.tree.few p.0.families p.2 _ q.0 _ _ _ _ e n.1 n.0 q.1 r.1 r.0,
      tops_both _ _ _ q.2 (tops_both _ _ _ (tops_of_groups _ _ n.1) (tops_of_chain _ _ r.1)),
    )
