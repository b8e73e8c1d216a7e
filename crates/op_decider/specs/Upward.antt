-- Request 5: whether t steps to its parent u, as the code asks it.
use Prim.Native.Nat.{ℕ, suc, ◌+◌, ◌-◌, ◌≤◌, ◌<◌}
use Rattle.std.specs.Prelude.{◌≡◌, Bool, true, false, ◌&&◌, not, eqb}
use Rattle.std.proofs.Math.Path.{sym, ap, ap₂, subst}
use Rattle.std.proofs.Common.{◌∙◌, eq-eqb, ne_eqb}
use mathlib.Core.List.{List, [], ◌∷◌, ◌++◌}
use native.Mathlib.Omega.{arith}
use Rattle.std.proofs.Math.Dec.{T, eqb→eq}
use Rattle.std.proofs.Math.ListN.{length, get_or}
use Rattle.std.proofs.lemmas.Bool.{not-true, not-false}
use Rattle.meaning.specs.Paths.{Class, is_attribute, singles}
use Rattle.meaning.specs.Keys.{Key}
use Rattle.meaning.specs.Records.{key_in}
use Rattle.meaning.specs.Pattern.{q_of, t_of}
use Rattle.theory_lists.specs.Bools.{and_left, and_right, both, eqb_of, of_true, of_false}
use Rattle.theory_pattern.specs.Spots.{chain_of, Ends, at_t, above_single}

get_or_behind : (a b : List ℕ) (i : ℕ) → get_or (a ++ b) (length a + i) 0 ≡ get_or b i 0
get_or_behind [] b i = ap (λ (n : ℕ). get_or b n 0) (let e : 0 + i ≡ i = omega arith in e)
get_or_behind (x ∷ a) b i = ap (λ (n : ℕ). get_or (x ∷ (a ++ b)) n 0) (let e : suc (length a) + i ≡ suc (length a + i) = omega arith in e) ∙ get_or_behind a b i

-- the last symbol of a target
unfoldable pub last_of : List ℕ → ℕ
last_of x = get_or x (length x - 1) 0

unfoldable pub steps_up : Bool → (ℕ → Class) → Key → ℕ → Bool
steps_up second κ k u =
    second && (not (eqb (length k.target) 0) && (eqb (u + 1) (length k.context + length k.target) && is_attribute (κ (last_of k.target))))

-- return by return
module _ (second : Bool) (κ : ℕ → Class) (body : List ℕ) (u : ℕ) where
  pub up_first : not second ≡ true → false ≡ steps_up second κ (key_in body) u
  unfolding steps_up
  up_first e =
      sym
      (ap
      (λ (b : Bool).
      b
      && (not (eqb (length (key_in body).target) 0)
      && (eqb (u + 1) (length (key_in body).context + length (key_in body).target) && is_attribute (κ (last_of (key_in body).target)))))
      (not-true second e))

  module _ (e : not second ≡ false) {x : List ℕ} (is_target : x ≡ (key_in body).target) where
    behind : steps_up second κ (key_in body) u
        ≡ (not (eqb (length x) 0) && (eqb (u + 1) (length (key_in body).context + length x) && is_attribute (κ (last_of x))))
    unfolding steps_up
    behind =
        ap₂
        (λ (b : Bool) (y : List ℕ). b && (not (eqb (length y) 0) && (eqb (u + 1) (length (key_in body).context + length y) && is_attribute (κ (last_of y)))))
        (not-false second e) (sym is_target)

    pub up_empty : length x ≡ 0 → false ≡ steps_up second κ (key_in body) u
    up_empty z = sym (behind ∙ rw (eq-eqb (length x) 0 z))

    module _ (n : length x ≡ 0 → ⊥) {c : List ℕ} (is_context : c ≡ (key_in body).context) where
      further : steps_up second κ (key_in body) u ≡ (eqb (u + 1) (length c + length x) && is_attribute (κ (last_of x)))
      further =
          behind
          ∙ ap₂ (λ (b : Bool) (m : ℕ). not b && (eqb (u + 1) (m + length x) && is_attribute (κ (last_of x)))) (ne_eqb (length x) 0 n) (ap length (sym is_context))

      pub up_other : (u + 1 ≡ length c + length x → ⊥) → false ≡ steps_up second κ (key_in body) u
      up_other m = sym (further ∙ rw (ne_eqb (u + 1) (length c + length x) m))

      pub up_told : u + 1 ≡ length c + length x → {l : ℕ} → l ≡ get_or x (length x - 1) 0 → {r : Bool} → r ≡ is_attribute (κ l)
          → r ≡ steps_up second κ (key_in body) u
      unfolding last_of
      up_told m label told =
          told ∙ ap (λ (k : ℕ). is_attribute (κ k)) label
          ∙ sym (further ∙ ap (λ (b : Bool). b && is_attribute (κ (last_of x))) (eq-eqb (u + 1) (length c + length x) m))

-- what it says
module _ (second : Bool) (κ : ℕ → Class) (k : Key) (u : ℕ) where
  last_is : suc u ≡ t_of k → (length k.target ≡ 0 → ⊥) → get_or (chain_of k) u 0 ≡ last_of k.target
  unfolding chain_of t_of last_of
  last_is e n =
      ap (λ (i : ℕ). get_or (k.context ++ k.target) i 0) (let q : u ≡ length k.context + (length k.target - 1) = omega arith in q)
      ∙ get_or_behind k.context k.target (length k.target - 1)

  pub up_ends : steps_up second κ k u ≡ true → Ends (singles second κ) k u
  unfolding steps_up t_of singles
  up_ends e =
      let a = of_true _ e in
      let b = and_right second _ a in
      let c = and_right (not (eqb (length k.target) 0)) _ b in
      let full = not_empty (and_left (not (eqb (length k.target) 0)) _ b) in
      let at : suc u ≡ length k.context + length k.target =
      (let q = eqb→eq (u + 1) (length k.context + length k.target) (and_left (eqb (u + 1) (length k.context + length k.target)) _ c) in omega arith) in
      above_single at
      (both second (is_attribute (κ (get_or (chain_of k) u 0))) (and_left second _ a)
      (subst (λ (n : ℕ). T (is_attribute (κ n))) (sym (last_is at full)) (and_right (eqb (u + 1) (length k.context + length k.target)) _ c)))
    where
      not_empty : T (not (eqb (length k.target) 0)) → length k.target ≡ 0 → ⊥
      not_empty h z = subst (λ (b : Bool). T (not b)) (eq-eqb (length k.target) 0 z) h

  pub up_not : steps_up second κ k u ≡ false → q_of k ≤ u → u < t_of k → Ends (singles second κ) k u → ⊥
  unfolding steps_up t_of q_of singles
  up_not e q low (at_t t) = omega arith
  up_not e q low (above_single t s) =
      let full : (length k.target ≡ 0 → ⊥) = λ z. omega arith in
      of_false _ e
      (both second _ (and_left second _ s)
      (both (not (eqb (length k.target) 0)) _ (subst (λ (b : Bool). T (not b)) (sym (ne_eqb (length k.target) 0 full)) tt)
      (both (eqb (u + 1) (length k.context + length k.target)) _ (eqb_of (u + 1) (length k.context + length k.target) (omega arith))
      (subst (λ (n : ℕ). T (is_attribute (κ n))) (last_is t full) (and_right second _ s)))))
