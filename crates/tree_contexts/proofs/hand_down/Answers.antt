use Rattle.std.proofs.Common.{rules, refl}
use Rattle.tree_table.specs.LinkedTree.{parents_smaller}
use Rattle.tree_contexts.specs.Least.{least_empty, least_more}
use Rattle.tree_contexts.proofs.hand_down.Goals as goal

pub loop-symbol-init : goal.loop-symbol-init
loop-symbol-init c = least_empty _ _ _ refl (search rules)

pub loop-symbol-preserved : goal.loop-symbol-preserved
loop-symbol-preserved c = least_more _ _ _ _ _ (parents_smaller c.requires.tree) _ _ (search rules) c.from.ensures c.loop-symbol.invariant c.by_symbol.ensures
