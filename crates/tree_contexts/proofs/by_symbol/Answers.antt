use Rattle.tree_contexts.specs.Turned.{least_symbol}
use Rattle.tree_contexts.proofs.by_symbol.Goals as goal

pub returns-then-symbol-eq-ANY_PATH : goal.returns-then-symbol-eq-ANY_PATH
returns-then-symbol-eq-ANY_PATH c = least_symbol _ _ _ _ c.if-symbol-eq-ANY_PATH.true c.by_any_path.ensures
