use Rattle.std.proofs.Common.{◌∙◌, ap, ℕ, ◌+◌, ◌*◌, ◌/◌, ◌%◌}
use Rattle.tree_weights.specs.Sums.{ordered, child_passed, child_ordered}
use Rattle.tree_weights.proofs.with_child.Goals as goal

pub returns-then-is_attribute : goal.returns-then-is_attribute
returns-then-is_attribute c = child_passed _ _ _ _ _ _ _ c.label.ensures.0 c.is_attribute.ensures c.if-is_attribute.true

pub returns-else-is_attribute : goal.returns-else-is_attribute
returns-else-is_attribute c =
    unfold ordered in
    (ap (λ (o : ℕ). (o * 31 + c.args.own / 4096) % 65536) c.from.ensures
    ∙ child_ordered _ _ _ _ _ _ _ c.label.ensures.0 c.is_attribute.ensures c.if-is_attribute.false)
