use Rattle.std.proofs.Common.{subst}
use Rattle.tree_table.specs.LinkedTree.{bytes_tree}
use Rattle.tree_search.specs.Start.{SpreadTo, grouped_tops, spread_groups}
use Rattle.tree_search.proofs.search.sort_key.Goals as goal

pub sort_targets-requires-clause-grouped : goal.sort_targets-requires-clause-grouped
sort_targets-requires-clause-grouped c =
    let t = c.requires.0.tree in
    let s = subst (SpreadTo _ _) c.size.ensures c.spread.ensures.0 in
    grouped_tops _ _ _ _ (bytes_tree t) t.few (spread_groups _ _ _ _ _ _ c.context.ensures c.target.ensures c.highest_contexts.ensures _ s)
