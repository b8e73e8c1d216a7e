-- "A path is valid if an attribute or text label stands only last": of parts, of an append, of the normal form.
use Prim.Native.Nat.{ℕ, zero, suc}
use Rattle.std.specs.Prelude.{◌≡◌, Bool, ◌&&◌, ◌||◌, T}
use Rattle.std.proofs.Math.Path.{refl, sym, ap₂}
use Rattle.std.proofs.Common.{subst, ◌∙◌}
use Rattle.std.proofs.Math.Bool.{true}
use mathlib.Core.List.{List, [], ◌∷◌, ◌++◌}
use Rattle.std.proofs.Math.Dec.{eqb}
use Rattle.meaning.specs.Lists.{is_empty, every}
use Rattle.meaning.specs.Paths.{Class, is_element, norm, valid}
use Rattle.theory_lists.specs.Bools.{bool_eq, and_left, and_right, both, or_right}

-- a symbol that may stand before another
unfoldable pub may_step : (ℕ → Class) → ℕ → Bool
may_step κ s = eqb s 0 || is_element (κ s)

module _ (κ : ℕ → Class) where
  -- valid read from the front, without looking two symbols ahead
  pub valid_cons : (s : ℕ) (P : List ℕ) → valid κ (s ∷ P) ≡ ((is_empty P || may_step κ s) && valid κ P)
  unfolding valid is_empty may_step
  valid_cons s [] = refl
  valid_cons s (t ∷ P) = refl

  pub valid_first : (s : ℕ) (P : List ℕ) → T (valid κ (s ∷ P)) → T (is_empty P || may_step κ s)
  valid_first s P t = and_left (is_empty P || may_step κ s) (valid κ P) (subst (λ (b : Bool). T b) (valid_cons s P) t)

  pub valid_put : (s : ℕ) (P : List ℕ) → T (is_empty P || may_step κ s) → T (valid κ P) → T (valid κ (s ∷ P))
  valid_put s P f t = subst (λ (b : Bool). T b) (sym (valid_cons s P)) (both (is_empty P || may_step κ s) (valid κ P) f t)

  pub valid_tail : (s : ℕ) (P : List ℕ) → T (valid κ (s ∷ P)) → T (valid κ P)
  unfolding valid
  valid_tail s [] t = tt
  valid_tail s (r ∷ P) t = and_right (eqb s 0 || is_element (κ s)) (valid κ (r ∷ P)) t

  pub valid_right : (P Q : List ℕ) → T (valid κ (P ++ Q)) → T (valid κ Q)
  valid_right [] Q t = t
  valid_right (s ∷ P) Q t = valid_right P Q (valid_tail s (P ++ Q) t)

  pub valid_left : (P Q : List ℕ) → T (valid κ (P ++ Q)) → T (valid κ P)
  unfolding valid
  valid_left [] Q t = tt
  valid_left (s ∷ []) Q t = tt
  valid_left (s ∷ r ∷ P) Q t =
      let first = eqb s 0 || is_element (κ s) in
      both first (valid κ (r ∷ P)) (and_left first (valid κ (r ∷ P ++ Q)) t) (valid_left (r ∷ P) Q (and_right first (valid κ (r ∷ P ++ Q)) t))

  -- what stands before a symbol steps on: 0 or an element
  pub valid_before : (P : List ℕ) (s : ℕ) (Q : List ℕ) → T (valid κ (P ++ s ∷ Q)) → T (every (may_step κ) P)
  unfolding valid every may_step
  valid_before [] s Q t = tt
  valid_before (r ∷ []) s Q t = both (eqb r 0 || is_element (κ r)) true (and_left (eqb r 0 || is_element (κ r)) (valid κ (s ∷ Q)) t) tt
  valid_before (r ∷ p ∷ P) s Q t =
      let first = eqb r 0 || is_element (κ r) in
      both first (every (may_step κ) (p ∷ P)) (and_left first (valid κ (p ∷ P ++ s ∷ Q)) t)
      (valid_before (p ∷ P) s Q (and_right first (valid κ (p ∷ P ++ s ∷ Q)) t))

  -- a path of which every symbol steps on may stand before any valid path
  pub valid_append : (P Q : List ℕ) → T (every (may_step κ) P) → T (valid κ Q) → T (valid κ (P ++ Q))
  unfolding every
  valid_append [] Q s t = t
  valid_append (r ∷ P) Q s t =
      valid_put r (P ++ Q) (or_right (is_empty (P ++ Q)) (may_step κ r) (and_left (may_step κ r) (every (may_step κ) P) s))
      (valid_append P Q (and_right (may_step κ r) (every (may_step κ) P) s) t)

  -- before something, every symbol has to step on
  pub valid_split : (P : List ℕ) (s : ℕ) (Q : List ℕ) → valid κ (P ++ s ∷ Q) ≡ (every (may_step κ) P && valid κ (s ∷ Q))
  valid_split P s Q =
      bool_eq (valid κ (P ++ s ∷ Q)) (every (may_step κ) P && valid κ (s ∷ Q))
      (λ t. both (every (may_step κ) P) (valid κ (s ∷ Q)) (valid_before P s Q t) (valid_right P (s ∷ Q) t))
      (λ t. valid_append P (s ∷ Q) (and_left (every (may_step κ) P) (valid κ (s ∷ Q)) t) (and_right (every (may_step κ) P) (valid κ (s ∷ Q)) t))

  -- the normal form is as valid as the path
  is_empty_norm : (P : List ℕ) → is_empty (norm P) ≡ is_empty P
  unfolding norm is_empty
  is_empty_norm [] = refl
  is_empty_norm (suc a ∷ P) = refl
  is_empty_norm (zero ∷ []) = refl
  is_empty_norm (zero ∷ zero ∷ P) = is_empty_norm (zero ∷ P)
  is_empty_norm (zero ∷ suc a ∷ P) = refl

  pub valid_norm : (P : List ℕ) → valid κ (norm P) ≡ valid κ P
  unfolding norm valid
  valid_norm [] = refl
  valid_norm (suc a ∷ P) =
      valid_cons (suc a) (norm P)
      ∙ ap₂ (λ (e v : Bool). (e || may_step κ (suc a)) && v) (is_empty_norm P) (valid_norm P)
      ∙ sym (valid_cons (suc a) P)
  valid_norm (zero ∷ []) = refl
  valid_norm (zero ∷ zero ∷ P) = valid_norm (zero ∷ P)
  valid_norm (zero ∷ suc a ∷ P) = valid_norm (suc a ∷ P)
