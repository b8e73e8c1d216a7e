use Rattle.std.proofs.Common.{sym, ◌∙◌}
use Rattle.std.proofs.lemmas.Bool.{true≢false}
use Rattle.rule_tests.specs.RuleLaws.{last_old, last_new, last_both, with_empty_some}
use Rattle.rule_tests.proofs.rules.longer_last.Goals.{then-is_with_empty, else-is_with_empty}
use Rattle.rule_tests.proofs.rules.longer_last.Goals as goal

pub last_path-requires : goal.last_path-requires
last_path-requires c =
    elim c.if-is_with_empty.branch [
      | then-is_with_empty w ↦ with_empty_some _ w.is_with_empty-then-is_with_empty.ensures (sym w.value-is ∙ c.if-is_with_empty-2.true)
      | else-is_with_empty w ↦ absurd (true≢false (sym c.if-is_with_empty-2.true ∙ w.value-is ∙ w.if-is_with_empty.false))
    ]

pub last_path-requires-then-is_with_empty-2 : goal.last_path-requires-then-is_with_empty-2
last_path-requires-then-is_with_empty-2 c =
    elim c.if-is_with_empty.branch [
      | then-is_with_empty w ↦ with_empty_some _ c.is_with_empty.ensures w.if-is_with_empty.true
      | else-is_with_empty w ↦ absurd (true≢false (sym c.if-is_with_empty-2.true ∙ w.value-is ∙ w.if-is_with_empty.false))
    ]

pub returns-then-is_with_empty-2 : goal.returns-then-is_with_empty-2
returns-then-is_with_empty-2 c =
    elim c.if-is_with_empty.branch [
      | then-is_with_empty w ↦ let e = sym w.value-is ∙ c.if-is_with_empty-2.true in search last_both
      | else-is_with_empty w ↦ absurd (true≢false (sym c.if-is_with_empty-2.true ∙ w.value-is ∙ w.if-is_with_empty.false))
    ]

pub returns-else-is_with_empty-2 : goal.returns-else-is_with_empty-2
returns-else-is_with_empty-2 c =
    c.if-is_with_empty-2.false
    ∙ elim c.if-is_with_empty.branch [
      | then-is_with_empty w ↦ let e = sym w.value-is ∙ c.if-is_with_empty-2.false in search last_new
      | else-is_with_empty w ↦ search last_old
    ]
