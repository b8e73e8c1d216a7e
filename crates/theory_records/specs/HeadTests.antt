-- The tests that every counted record begins with, 7, 1 and 2, as the code makes them, return by return.
use Rattle.std.specs.Prelude.{ℕ, ◌-◌, ◌≡◌, Bool, true, false, not, List, ◌∷◌, eqb, take, drop}
use Rattle.std.proofs.Math.Path.{sym}
use Rattle.std.proofs.Common.{ap, ◌∙◌}
use borrow.Author.Tests.{eqb-true, eq-eqb, ne_eqb, not-true, not-false}
use Rattle.meaning.specs.Records.{word, record_length, record_kind, record_body}
use Rattle.meaning.specs.Refusals.{first_of, too_many, whole}
use Rattle.theory_records.specs.Tests.{first_none}
use Rattle.theory_records.specs.Heads.{Whole, whole_says}

unfoldable pub head_tests : (kind limit count : ℕ) → List ℕ → List (ℕ × Bool) → List (ℕ × Bool)
head_tests kind limit count l more =
    (7, too_many kind limit count l) ∷ (1, not (whole l)) ∷ (2, not (eqb (record_kind l) kind)) ∷ more

module _ (kind limit count : ℕ) (l : List ℕ) (more : List (ℕ × Bool)) {a : Bool} (many : a ≡ too_many kind limit count l) where
  pub head_many : a ≡ true → 7 ≡ first_of (head_tests kind limit count l more)
  unfolding head_tests first_of
  head_many t = rw (sym many ∙ t)

  module _ (t : a ≡ false) {b : Bool} (is_whole : b ≡ whole l) where
    pub head_torn : not b ≡ true → 1 ≡ first_of (head_tests kind limit count l more)
    unfolding head_tests first_of
    head_torn u = rw (sym many ∙ t, sym is_whole ∙ not-true _ u)

    module _ (u : not b ≡ false) {k : ℕ} (its : k ≡ word l 2) where
      pub head_other : (k ≡ kind → ⊥) → 2 ≡ first_of (head_tests kind limit count l more)
      unfolding head_tests first_of record_kind
      head_other h = rw (sym many ∙ t, sym is_whole ∙ not-false _ u, ne_eqb (word l 2) kind (λ q. h (its ∙ q)))

      pub head_more : k ≡ kind → first_of more ≡ first_of (head_tests kind limit count l more)
      unfolding head_tests first_of record_kind
      head_more h = rw (sym many ∙ t, sym is_whole ∙ not-false _ u, eq-eqb (word l 2) kind (sym its ∙ h))

-- none of them holds
pub record HeadPassed (kind : ℕ) (l : List ℕ) (more : List (ℕ × Bool)) : Type 0 where
  pub is_whole : Whole l
  pub is_kind : record_kind l ≡ kind
  pub others : first_of more ≡ 0

pub head_passed : (kind limit count : ℕ) (l : List ℕ) (more : List (ℕ × Bool)) → first_of (head_tests kind limit count l more) ≡ 0
    → HeadPassed kind l more
unfolding head_tests
head_passed kind limit count l more e =
    let seven = first_none _ _ _ e in
    let one = first_none _ _ _ seven.1 in
    let two = first_none _ _ _ one.1 in
    record { is_whole = whole_says l (not-false _ one.0); is_kind = eqb-true _ _ (not-false _ two.0); others = two.1 }

-- the body, as the code has it
pub body_part : (l : List ℕ) {n : ℕ} → n ≡ word l 0 → take (n - 4) (drop 4 l) ≡ record_body l
unfolding record_body record_length
body_part l e = ap (λ (m : ℕ). take (m - 4) (drop 4 l)) e
