-- Rule 10, return by return.
use Rattle.std.specs.Prelude.{ℕ, ◌-◌, ◌≡◌, refl, Bool, true, false, ◌&&◌, List, [], ◌∷◌, length, get_or, take, drop, eqb}
use Rattle.std.proofs.Math.Path.{sym, ap}
use Rattle.std.proofs.Common.{◌∙◌, arith}
use borrow.Author.Tests.{eq-eqb, ne_eqb}
use Rattle.std.proofs.Math.Bool.{and-false}
use borrow.Author.Rules.{part_to_end}
use Rattle.meaning.specs.Paths.{Class, is_attribute, singles}
use Rattle.meaning.specs.Keys.{Key}
use Rattle.meaning.specs.Records.{word, read_line, key_in}
use Rattle.rule_premises.specs.Premises.{body_shape}
use Rattle.theory_rule_tests.specs.LineTest.{unused, follows_test}
use Rattle.theory_rule_tests.specs.EditionTest.{one_attribute, tenth_test, follows_in_test}

-- a target of one label
one_label : (single : ℕ → Bool) (t : List ℕ) → length t ≡ 1 → one_attribute single t ≡ single (get_or t 0 0)
unfolding one_attribute
one_label single [] e = absurd (omega arith)
one_label single (l ∷ []) e = refl
one_label single (l ∷ m ∷ t) e = absurd (omega arith)

no_label : (single : ℕ → Bool) (t : List ℕ) → (length t ≡ 1 → ⊥) → one_attribute single t ≡ false
unfolding one_attribute
no_label single [] n = refl
no_label single (l ∷ []) n = absurd (n refl)
no_label single (l ∷ m ∷ t) n = refl

module _ (second : Bool) (κ : ℕ → Class) (body : List ℕ) where
  pub tenth_first : {first : ℕ} → first ≡ word body 1 → (first ≡ 65535 → ⊥) → false ≡ tenth_test (singles second κ) (read_line body)
  unfolding tenth_test unused read_line
  tenth_first e h = rw (ne_eqb (word body 1) 65535 (λ q. h (e ∙ q)))

  pub tenth_second : {other : ℕ} → other ≡ word body 3 → (other ≡ 65535 → ⊥) → false ≡ tenth_test (singles second κ) (read_line body)
  unfolding tenth_test unused read_line
  tenth_second e h = rw (ne_eqb (word body 3) 65535 (λ q. h (e ∙ q))) (sym (and-false (eqb (word body 1) 65535)))

  module _ {first other : ℕ} (is_first : first ≡ word body 1) (h : first ≡ 65535) (is_other : other ≡ word body 3) (g : other ≡ 65535)
      {t : List ℕ} (is_target : t ≡ (key_in (take (length body - 5) (drop 5 body))).target) where
    target_is : t ≡ (key_in (drop 5 body)).target
    target_is = is_target ∙ ap (λ (b : List ℕ). (key_in b).target) (part_to_end body 5)

    one : {b : Bool} → one_attribute (singles second κ) t ≡ b → b ≡ tenth_test (singles second κ) (read_line body)
    unfolding tenth_test unused read_line
    one e =
        rw (eq-eqb (word body 1) 65535 (sym is_first ∙ h), eq-eqb (word body 3) 65535 (sym is_other ∙ g))
        (sym e ∙ ap (one_attribute (singles second κ)) target_is)

    pub tenth_long : (length t ≡ 1 → ⊥) → false ≡ tenth_test (singles second κ) (read_line body)
    tenth_long n = one (no_label (singles second κ) t n)

    module _ (l : length t ≡ 1) where
      pub tenth_edition : second ≡ false → second ≡ tenth_test (singles second κ) (read_line body)
      unfolding singles
      tenth_edition e =
          e ∙ one (one_label (singles second κ) t l ∙ ap (λ (b : Bool). b && is_attribute (κ (get_or t 0 0))) e)

      pub tenth_label : second ≡ true → {k : ℕ} → k ≡ get_or t 0 0 → {r : Bool} → r ≡ is_attribute (κ k)
          → r ≡ tenth_test (singles second κ) (read_line body)
      unfolding singles
      tenth_label e label told =
          one
          (one_label (singles second κ) t l ∙ ap (λ (b : Bool). b && is_attribute (κ (get_or t 0 0))) e
          ∙ sym (told ∙ ap (λ (n : ℕ). is_attribute (κ n)) label))

pub ruleset returns = (body_shape, tenth_first, tenth_second, tenth_long, tenth_edition, tenth_label)

-- either way
module _ (single : ℕ → Bool) (keys earlier : List Key) (body : List ℕ) {rule : ℕ} (is_rule : rule ≡ get_or body 0 0) where
  pub by_tenth : rule ≡ 10 → {r : Bool} → r ≡ tenth_test single (read_line body) → r ≡ follows_in_test single keys earlier (read_line body)
  unfolding follows_in_test read_line
  by_tenth e told = rw (eq-eqb (get_or body 0 0) 10 (sym is_rule ∙ e)) told

  pub by_others : (rule ≡ 10 → ⊥) → {r : Bool} → r ≡ follows_test keys earlier (read_line body) → r ≡ follows_in_test single keys earlier (read_line body)
  unfolding follows_in_test read_line
  by_others n told = rw (ne_eqb (get_or body 0 0) 10 (λ q. n (is_rule ∙ q))) told

pub ruleset editions = (by_tenth, by_others)
