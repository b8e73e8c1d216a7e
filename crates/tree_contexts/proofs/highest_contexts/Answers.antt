use Rattle.tree_table.specs.LinkedTree.{parents_smaller}
use Rattle.tree_contexts.specs.Rooted.{tops_handed}
use Rattle.tree_contexts.proofs.highest_contexts.Goals as goal

pub returns : goal.returns
returns c = let p = c.requires.tree in tops_handed _ _ _ _ _ _ _ (parents_smaller p) p.some c.root_alone.ensures c.hand_down.ensures c.own_numbers.ensures c.hand_down-2.ensures
