use Rattle.read_tree.specs.Walks.{limit_wide, limit_other}
use Rattle.read_tree.proofs.tree.tree_limit.Goals as goal

pub returns-then-kind-eq-WIDE_KIND : goal.returns-then-kind-eq-WIDE_KIND
returns-then-kind-eq-WIDE_KIND c = limit_wide _ c.if-kind-eq-WIDE_KIND.true

pub returns : goal.returns
returns c = limit_other _ c.if-kind-eq-WIDE_KIND.false
