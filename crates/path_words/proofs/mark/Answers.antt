use Rattle.std.proofs.Common.{sym, ◌∙◌}
use Rattle.std.proofs.lemmas.Bool.{true≢false}
use borrow.Author.Tests.{eqb-true, eqb-false, le-ltb}
use Rattle.path_words.specs.Rows.{mark_ends, mark_takes, mark_nowhere, mark_same, mark_other, mark_past}
use Rattle.path_words.proofs.mark.Goals.{then-i-p-2, else-i-p-2}
use Rattle.path_words.proofs.mark.Goals as goal

pub returns-then-rows-old : goal.returns-then-rows-old
returns-then-rows-old c = search mark_ends

pub returns-then-i-p : goal.returns-then-i-p
returns-then-i-p c = search mark_takes

pub returns-else-i-p : goal.returns-else-i-p
returns-else-i-p c = search mark_nowhere

pub returns-then-p-i : goal.returns-then-p-i
returns-then-p-i c =
    elim c.if-i-p-2.branch [
      | then-i-p-2 w ↦ let e = eqb-true _ _ (sym w.value-is ∙ c.if-p-i.true) in search mark_same
      | else-i-p-2 w ↦ absurd (true≢false (sym c.if-p-i.true ∙ w.value-is ∙ le-ltb _ _ w.if-i-p-2.false))
    ]

pub returns-else-p-i : goal.returns-else-p-i
returns-else-p-i c =
    c.if-p-i.false
    ∙ elim c.if-i-p-2.branch [
      | then-i-p-2 w ↦ let e = eqb-false _ _ (sym w.value-is ∙ c.if-p-i.false) in search mark_other
      | else-i-p-2 w ↦ search mark_past
    ]
