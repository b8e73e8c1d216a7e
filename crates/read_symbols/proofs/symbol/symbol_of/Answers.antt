use Rattle.std.proofs.Common.{ap, ◌∙◌}
use Rattle.meaning.specs.Lists.{same}
use Rattle.read_record.specs.Library.{same_list}
use Rattle.read_symbols.specs.Symbols.{told_any, told_text, told_attribute, told_element}
use Rattle.read_symbols.proofs.symbol.symbol_of.Goals as goal

pub returns-then-eq : goal.returns-then-eq
returns-then-eq c = told_any _ _ (c.eq.ensures ∙ (same_list _ _ ∙ ap (same _) c.as_slice.ensures)) c.if-eq.true

pub returns-then-eq-2 : goal.returns-then-eq-2
returns-then-eq-2 c = told_text _ _ (c.eq.ensures ∙ (same_list _ _ ∙ ap (same _) c.as_slice.ensures)) c.if-eq.false (c.eq-2.ensures ∙ (same_list _ _ ∙ ap (same _) c.as_slice-2.ensures)) c.if-eq-2.true

pub returns-in-Some : goal.returns-in-Some
returns-in-Some c =
    told_attribute _ _ (c.eq.ensures ∙ (same_list _ _ ∙ ap (same _) c.as_slice.ensures)) c.if-eq.false (c.eq-2.ensures ∙ (same_list _ _ ∙ ap (same _) c.as_slice-2.ensures)) c.if-eq-2.false c.in-Some.ensures.cases _ c.named.ensures

pub returns-in-None : goal.returns-in-None
returns-in-None c =
    told_element _ _ (c.eq.ensures ∙ (same_list _ _ ∙ ap (same _) c.as_slice.ensures)) c.if-eq.false (c.eq-2.ensures ∙ (same_list _ _ ∙ ap (same _) c.as_slice-2.ensures)) c.if-eq-2.false c.in-None.ensures.cases _ c.named-in-None.ensures
