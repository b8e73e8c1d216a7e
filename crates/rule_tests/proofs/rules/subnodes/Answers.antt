use Rattle.std.proofs.Common.{rules, sym, ◌∙◌}
use Rattle.std.proofs.lemmas.Bool.{true≢false}
use Rattle.rule_tests.specs.RuleLaws.{goes_on_long}
use Rattle.rule_tests.proofs.rules.subnodes.Goals.{then-same_context, else-same_context}
use Rattle.rule_tests.proofs.rules.subnodes.Goals as goal

pub longer_only-requires : goal.longer_only-requires
longer_only-requires c =
    elim c.if-same_context.branch [
      | then-same_context w ↦ goes_on_long _ _ (search rules) w.goes_on.ensures (sym w.value-is ∙ c.if-goes_on.true)
      | else-same_context w ↦ absurd (true≢false (sym c.if-goes_on.true ∙ w.value-is ∙ w.if-same_context.false))
    ]
