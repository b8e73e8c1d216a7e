-- The class of a label by the table, as the code's tests find it.
use Rattle.std.specs.Prelude.{ℕ, ◌≡◌, Bool, cond, not, List, eqb, get_or}
use Rattle.std.proofs.Math.Path.{refl, sym}
use Rattle.std.proofs.Math.Bool.{true, false}
use Rattle.std.proofs.Common.{true≢false}
use borrow.Author.Tests.{eq-eqb, ne_eqb}
use Rattle.meaning.specs.Limits.{text_label, filler_attribute, attribute_class}
use Rattle.meaning.specs.Paths.{Class, element, attribute, text, is_element, is_attribute}
use Rattle.read_record.specs.Classes.{class_by}

module _ (classes : List ℕ) (n : ℕ) where
  pub text_no_attribute : n ≡ text_label → is_attribute (class_by classes n) ≡ false
  unfolding class_by is_attribute
  text_no_attribute e = rw (eq-eqb n text_label e)

  pub filler_attribute_lem : (n ≡ text_label → ⊥) → n ≡ filler_attribute → is_attribute (class_by classes n) ≡ true
  unfolding class_by is_attribute
  filler_attribute_lem m e = rw (ne_eqb n text_label m, eq-eqb n filler_attribute e)

  pub table_attribute : (n ≡ text_label → ⊥) → (n ≡ filler_attribute → ⊥)
      → eqb (get_or classes n 0) attribute_class ≡ is_attribute (class_by classes n)
  unfolding class_by is_attribute
  table_attribute m k = rw (ne_eqb n text_label m, ne_eqb n filler_attribute k) (go (eqb (get_or classes n 0) attribute_class))
    where
      go : (b : Bool) → b ≡ is_attribute (cond b attribute element)
      go true = refl
      go false = refl

  pub text_no_element : n ≡ text_label → is_element (class_by classes n) ≡ false
  unfolding class_by is_element
  text_no_element e = rw (eq-eqb n text_label e)

  pub attribute_no_element : is_attribute (class_by classes n) ≡ true → is_element (class_by classes n) ≡ false
  unfolding is_element is_attribute
  attribute_no_element e = go (class_by classes n) e
    where
      go : (c : Class) → is_attribute c ≡ true → is_element c ≡ false
      go element e = sym e
      go attribute e = refl
      go text e = refl

  pub other_element : (n ≡ text_label → ⊥) → is_attribute (class_by classes n) ≡ false → is_element (class_by classes n) ≡ true
  unfolding class_by is_attribute is_element
  other_element m e = go (eqb n filler_attribute) (eqb (get_or classes n 0) attribute_class) (rw (ne_eqb n text_label m) at e)
    where
      go : (b d : Bool) → is_attribute (cond b attribute (cond d attribute element)) ≡ false
          → is_element (cond (eqb n text_label) text (cond b attribute (cond d attribute element))) ≡ true
      go true d e = absurd (true≢false e)
      go false true e = absurd (true≢false e)
      go false false e = rw (ne_eqb n text_label m)

  pub element_told : (n ≡ text_label → ⊥) → not (is_attribute (class_by classes n)) ≡ is_element (class_by classes n)
  unfolding class_by is_attribute is_element
  element_told m = rw (ne_eqb n text_label m) (go (eqb n filler_attribute) (eqb (get_or classes n 0) attribute_class))
    where
      go : (b d : Bool) → not (is_attribute (cond b attribute (cond d attribute element))) ≡ is_element (cond b attribute (cond d attribute element))
      go true d = refl
      go false true = refl
      go false false = refl
