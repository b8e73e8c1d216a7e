-- Validity of a join without the join: what stands before the last symbol is an element or the any-path. Then the code's returns.
use Prim.Native.Nat.{ℕ, zero, suc}
use Rattle.std.specs.Prelude.{◌-◌, ◌≡◌, Bool, cond, ◌&&◌, ◌||◌, eqb, length, take}
use Rattle.std.proofs.Math.Path.{refl, sym, ap, ap₂}
use Rattle.std.proofs.Common.{◌∙◌, arith}
use Rattle.std.proofs.Math.Bool.{true, false, not, and-true, and_assoc}
use mathlib.Core.List.{List, [], ◌∷◌, ◌++◌, append-nil}
use Rattle.std.proofs.Math.ListN.{get_or}
use borrow.Author.Tests.{ne_eqb}
use Rattle.meaning.specs.Lists.{every}
use Rattle.meaning.specs.Paths.{Class, element, attribute, is_element, norm, join, valid}
use Rattle.meaning.specs.Keys.{Key}
use Rattle.read_record.specs.Classes.{class_by, all_valid_by}
use Rattle.theory_paths.specs.Valid.{valid_norm}

-- a symbol that may stand before others
unfoldable pub inner : (ℕ → Class) → ℕ → Bool
inner κ s = eqb s 0 || is_element (κ s)

-- a path behind a front of which is known whether each symbol is inner and whether it is valid
unfoldable pub behind : (ℕ → Class) → Bool → Bool → List ℕ → Bool
behind κ inners whole [] = whole
behind κ inners whole (s ∷ p) = inners && valid κ (s ∷ p)

every_append : {A : Type 0} (f : A → Bool) (a b : List A) → every f (a ++ b) ≡ (every f a && every f b)
unfolding every
every_append f [] b = refl
every_append f (x ∷ a) b = ap (λ (t : Bool). f x && t) (every_append f a b) ∙ sym (and_assoc (f x) (every f a) (every f b))

module _ (κ : ℕ → Class) where
  inner_norm : (p : List ℕ) → every (inner κ) (norm p) ≡ every (inner κ) p
  unfolding norm every inner
  inner_norm [] = refl
  inner_norm (suc a ∷ p) = ap (λ (b : Bool). (eqb (suc a) 0 || is_element (κ (suc a))) && b) (inner_norm p)
  inner_norm (zero ∷ []) = refl
  inner_norm (zero ∷ zero ∷ p) = inner_norm (zero ∷ p)
  inner_norm (zero ∷ suc a ∷ p) = ap (λ (b : Bool). (eqb (suc a) 0 || is_element (κ (suc a))) && b) (inner_norm p)

  valid_front : (a : List ℕ) (x : ℕ) (p : List ℕ) → valid κ (a ++ x ∷ p) ≡ (every (inner κ) a && valid κ (x ∷ p))
  unfolding valid every inner
  valid_front [] x p = refl
  valid_front (s ∷ []) x p = ap (λ (b : Bool). b && valid κ (x ∷ p)) (sym (and-true (eqb s 0 || is_element (κ s))))
  valid_front (s ∷ t ∷ a) x p =
      ap (λ (b : Bool). (eqb s 0 || is_element (κ s)) && b) (valid_front (t ∷ a) x p)
      ∙ sym (and_assoc (eqb s 0 || is_element (κ s)) (every (inner κ) (t ∷ a)) (valid κ (x ∷ p)))

  -- one path behind another
  pub valid_append : (a p : List ℕ) → valid κ (a ++ p) ≡ behind κ (every (inner κ) a) (valid κ a) p
  unfolding behind
  valid_append a [] = ap (valid κ) (append-nil a)
  valid_append a (x ∷ p) = valid_front a x p

  -- C.T.P, from what is known of C and T
  pub valid_joined : (c t p : List ℕ) → valid κ (join (join c t) p) ≡ behind κ (every (inner κ) c && every (inner κ) t) (valid κ (c ++ t)) p
  unfolding join
  valid_joined c t p =
      valid_norm κ (norm (c ++ t) ++ p) ∙ valid_append (norm (c ++ t)) p
      ∙ ap₂ (λ (i v : Bool). behind κ i v p) (inner_norm (c ++ t) ∙ every_append (inner κ) c t) (valid_norm κ (c ++ t))

module _ (classes : List ℕ) (s : ℕ) where
  pub inner_any : s ≡ 0 → true ≡ inner (class_by classes) s
  unfolding inner
  inner_any e = rw e

  pub inner_text : s ≡ 1 → false ≡ inner (class_by classes) s
  unfolding inner class_by is_element
  inner_text e = rw e

  pub inner_filler : s ≡ 202 → false ≡ inner (class_by classes) s
  unfolding inner class_by is_element
  inner_filler e = rw e

  pub inner_class : (s ≡ 0 → ⊥) → (s ≡ 1 → ⊥) → (s ≡ 202 → ⊥) → {n : ℕ} → n ≡ s → not (eqb (get_or classes n 0) 2) ≡ inner (class_by classes) s
  unfolding inner class_by is_element
  inner_class a b d e = rw (ne_eqb s 0 a, ne_eqb s 1 b, ne_eqb s 202 d, e) (go (eqb (get_or classes s 0) 2))
    where
      go : (t : Bool) → not t ≡ is_element (cond t attribute element)
      go true = refl
      go false = refl

-- each symbol but the last may stand before others
pub valid_inner : (κ : ℕ → Class) (p : List ℕ) → every (inner κ) (take (length p - 1) p) ≡ valid κ p
unfolding every valid inner
valid_inner κ [] = refl
valid_inner κ (s ∷ []) = refl
valid_inner κ (s ∷ t ∷ p) =
    let e : suc (suc (length p)) - 1 ≡ suc (length p) = omega arith in
    let f : suc (length p) - 1 ≡ length p = omega arith in
    rw e (ap (λ (b : Bool). (eqb s 0 || is_element (κ s)) && b) ((rw f at (valid_inner κ (t ∷ p)))))

pub behind_empty : (κ : ℕ → Class) (i v : Bool) (p : List ℕ) → length p ≡ 0 → v ≡ behind κ i v p
unfolding behind
behind_empty κ i v [] h = refl
behind_empty κ i v (x ∷ p) h = absurd (omega arith)

pub behind_inner : (κ : ℕ → Class) (i v : Bool) (p : List ℕ) → (length p ≡ 0 → ⊥) → i ≡ true → {r : Bool} → r ≡ valid κ p → r ≡ behind κ i v p
unfolding behind
behind_inner κ i v [] h t e = absurd (h refl)
behind_inner κ i v (x ∷ p) h t e = e ∙ (rw t)

pub behind_not : (κ : ℕ → Class) (i v : Bool) (p : List ℕ) → (length p ≡ 0 → ⊥) → i ≡ false → false ≡ behind κ i v p
unfolding behind
behind_not κ i v [] h t = absurd (h refl)
behind_not κ i v (x ∷ p) h t = rw t

pub both_behind : (κ : ℕ → Class) (c t : List ℕ) {i : Bool} → i ≡ every (inner κ) c → {v : Bool} → v ≡ valid κ c
    → {r : Bool} → r ≡ behind κ i v t → r ≡ valid κ (c ++ t)
both_behind κ c t e f h = h ∙ ap₂ (λ (i v : Bool). behind κ i v t) e f ∙ sym (valid_append κ c t)

every_same : {A : Type 0} (f g : A → Bool) → ((x : A) → f x ≡ g x) → (l : List A) → every f l ≡ every g l
unfolding every
every_same f g h [] = refl
every_same f g h (x ∷ l) = ap₂ (λ (a b : Bool). a && b) (h x) (every_same f g h l)

pub all_behind : (classes : List ℕ) (k : Key) {c : List ℕ} → c ≡ k.context → {t : List ℕ} → t ≡ k.target
    → {i : Bool} → i ≡ (every (inner (class_by classes)) c && every (inner (class_by classes)) t)
    → {v : Bool} → v ≡ valid (class_by classes) (c ++ t) → every (behind (class_by classes) i v) k.paths ≡ all_valid_by classes k
unfolding all_valid_by
all_behind classes k {c} ec {t} et {i} ei {v} ev =
    every_same (behind (class_by classes) i v) (λ (p : List ℕ). valid (class_by classes) (join (join k.context k.target) p))
    (λ p.
    ap₂ (λ (a b : Bool). behind (class_by classes) a b p) ei ev ∙ sym (valid_joined (class_by classes) c t p)
    ∙ ap₂ (λ (a b : List ℕ). valid (class_by classes) (join (join a b) p)) ec et) k.paths
