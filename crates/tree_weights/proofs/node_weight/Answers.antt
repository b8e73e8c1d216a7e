use Rattle.std.proofs.Common.{◌∙◌, ap, ℕ}
use Rattle.tree_weights.specs.Weights.{weigh_element, weigh_leaf, mix}
use Rattle.tree_weights.proofs.node_weight.Goals as goal

pub returns-then-is_element : goal.returns-then-is_element
returns-then-is_element c =
    weigh_element _ _ _ _ _ _ _ _ c.label-tag.ensures.0 c.is_element.ensures c.if-is_element.true
    (c.mixed.ensures ∙ ap (λ (o : ℕ). mix c.label-tag.result o c.args.sum) c.from.ensures)

pub returns-else-is_element : goal.returns-else-is_element
returns-else-is_element c =
    weigh_leaf _ _ _ _ _ _ _ _ _ c.label-tag.ensures.0 c.value.ensures.0 c.is_element.ensures c.if-is_element.false c.mixed-else-is_element.ensures
