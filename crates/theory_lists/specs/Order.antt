-- The order of key paths, "shorter first, equal lengths by bytes": it decides between two that differ, nothing stands before itself, and what
-- stands before another stands before all that come after it.
use Rattle.std.specs.Prelude.{ℕ, suc, ◌≤◌, ◌<◌, ◌≡◌, refl, ◌⊎◌, Bool, false, ◌&&◌, ◌||◌, List, [], ◌∷◌, T, eqb, ltb, length}
use Rattle.std.proofs.Common.{sym, ap₂, ◌∙◌, inl, inr, ⊎_elim, arith, ltb-true, lt-ltb, eqb-true, eq-eqb, lt→ltb, ltb→lt}
use Rattle.meaning.specs.Lists.{lower, before}
use Rattle.theory_lists.specs.Bools.{true_of, of_true, false_of, and_left, and_right, both, or_left, or_right, or_cases, eqb_of}
use Rattle.theory_lists.specs.Logic.{less_or}

pub lower_or : (p q : List ℕ) → length p ≡ length q → T (lower p q) ⊎ (p ≡ q) ⊎ T (lower q p)
unfolding lower
lower_or [] [] e = inr (inl refl)
lower_or [] (y ∷ q) e = absurd (let z : 0 ≡ suc (length q) = e in omega arith)
lower_or (x ∷ p) [] e = absurd (let z : suc (length p) ≡ 0 = e in omega arith)
lower_or (x ∷ p) (y ∷ q) e = go (less_or x y) (less_or y x) (lower_or p q (let z : suc (length p) ≡ suc (length q) = e in omega arith))
  where
    Goal : Type 0
    Goal = T (lower (x ∷ p) (y ∷ q)) ⊎ ((x ∷ p) ≡ (y ∷ q)) ⊎ T (lower (y ∷ q) (x ∷ p))

    go : (x < y) ⊎ (y ≤ x) → (y < x) ⊎ (x ≤ y) → T (lower p q) ⊎ (p ≡ q) ⊎ T (lower q p) → Goal
    go (inl h) k r = inl (or_left (ltb x y) _ (lt→ltb x y h))
    go (inr h) (inl k) r = inr (inr (or_left (ltb y x) _ (lt→ltb y x k)))
    go (inr h) (inr k) (inl r) = inl (or_right (ltb x y) _ (both (eqb x y) _ (eqb_of x y (omega arith)) r))
    go (inr h) (inr k) (inr (inl r)) = inr (inl (ap₂ {C = List ℕ} (λ a b. a ∷ b) (omega arith) r))
    go (inr h) (inr k) (inr (inr r)) = inr (inr (or_right (ltb y x) _ (both (eqb y x) _ (eqb_of y x (omega arith)) r)))

-- of two paths that differ, one stands before the other
pub before_or : (p q : List ℕ) → T (before p q) ⊎ (p ≡ q) ⊎ T (before q p)
unfolding before
before_or p q = go (less_or (length p) (length q)) (less_or (length q) (length p))
  where
    equal : length p ≡ length q → T (before p q) ⊎ (p ≡ q) ⊎ T (before q p)
    equal e =
        ⊎_elim (λ r. inl (or_right (ltb (length p) (length q)) _ (both (eqb (length p) (length q)) _ (eqb_of (length p) (length q) e) r)))
        (⊎_elim (λ r. inr (inl r)) (λ r. inr (inr (or_right (ltb (length q) (length p)) _ (both (eqb (length q) (length p)) _ (eqb_of (length q) (length p) (sym e)) r)))))
        (lower_or p q e)

    go : (length p < length q) ⊎ (length q ≤ length p) → (length q < length p) ⊎ (length p ≤ length q) → T (before p q) ⊎ (p ≡ q) ⊎ T (before q p)
    go (inl h) k = inl (or_left (ltb (length p) (length q)) _ (lt→ltb (length p) (length q) h))
    go (inr h) (inl k) = inr (inr (or_left (ltb (length q) (length p)) _ (lt→ltb (length q) (length p) k)))
    go (inr h) (inr k) = equal (omega arith)

lower_itself : (p : List ℕ) → T (lower p p) → ⊥
unfolding lower
lower_itself [] h = h
lower_itself (x ∷ p) h =
    ⊎_elim (λ k. let z : x < x = ltb→lt x x k in omega arith) (λ k. lower_itself p (and_right (eqb x x) _ k)) (or_cases (ltb x x) _ h)

-- no path stands before itself
pub before_itself : (p : List ℕ) → T (before p p) → ⊥
unfolding before
before_itself p h =
    ⊎_elim (λ k. let z : length p < length p = ltb→lt (length p) (length p) k in omega arith)
    (λ k. lower_itself p (and_right (eqb (length p) (length p)) _ k)) (or_cases (ltb (length p) (length p)) _ h)

-- less, or the same and what follows
lower_cases : (m n : ℕ) (b : Bool) → T (ltb m n || (eqb m n && b)) → (m < n) ⊎ ((m ≡ n) × T b)
lower_cases m n b t = go (or_cases (ltb m n) (eqb m n && b) t)
  where
    go : T (ltb m n) ⊎ T (eqb m n && b) → (m < n) ⊎ ((m ≡ n) × T b)
    go (inl s) = inl (ltb-true m n (true_of _ s))
    go (inr s) = inr (eqb-true m n (true_of _ (and_left (eqb m n) b s)), and_right (eqb m n) b s)

or_less : (m n : ℕ) (b : Bool) → m < n → T (ltb m n || (eqb m n && b))
or_less m n b h = or_left (ltb m n) (eqb m n && b) (of_true _ (lt-ltb m n h))

or_same : (m n : ℕ) (b : Bool) → m ≡ n → T b → T (ltb m n || (eqb m n && b))
or_same m n b e t = or_right (ltb m n) (eqb m n && b) (both (eqb m n) b (of_true _ (eq-eqb m n e)) t)

lower_trans : (p q r : List ℕ) → T (lower p q) → T (lower q r) → T (lower p r)
unfolding lower
lower_trans [] q r s t = absurd s
lower_trans (x ∷ p) [] r s t = absurd s
lower_trans (x ∷ p) (y ∷ q) [] s t = absurd t
lower_trans (x ∷ p) (y ∷ q) (z ∷ r) s t = go (lower_cases x y (lower p q) s) (lower_cases y z (lower q r) t) (lower_trans p q r)
  where
    go : (x < y) ⊎ ((x ≡ y) × T (lower p q)) → (y < z) ⊎ ((y ≡ z) × T (lower q r)) → (T (lower p q) → T (lower q r) → T (lower p r))
        → T (ltb x z || (eqb x z && lower p r))
    go (inl a) (inl b) more = or_less x z (lower p r) (omega arith)
    go (inl a) (inr b) more = let e = b.0 in or_less x z (lower p r) (omega arith)
    go (inr a) (inl b) more = let e = a.0 in or_less x z (lower p r) (omega arith)
    go (inr a) (inr b) more = or_same x z (lower p r) (a.0 ∙ b.0) (more a.1 b.1)

pub before_trans : (p q r : List ℕ) → T (before p q) → T (before q r) → T (before p r)
unfolding before
before_trans p q r s t = go (lower_cases (length p) (length q) (lower p q) s) (lower_cases (length q) (length r) (lower q r) t)
  where
    go : (length p < length q) ⊎ ((length p ≡ length q) × T (lower p q)) → (length q < length r) ⊎ ((length q ≡ length r) × T (lower q r))
        → T (ltb (length p) (length r) || (eqb (length p) (length r) && lower p r))
    go (inl a) (inl b) = or_less (length p) (length r) (lower p r) (omega arith)
    go (inl a) (inr b) = let e = b.0 in or_less (length p) (length r) (lower p r) (omega arith)
    go (inr a) (inl b) = let e = a.0 in or_less (length p) (length r) (lower p r) (omega arith)
    go (inr a) (inr b) = or_same (length p) (length r) (lower p r) (a.0 ∙ b.0) (lower_trans p q r a.1 b.1)

pub before_other : (p q : List ℕ) → T (before q p) → before p q ≡ false
before_other p q t = false_of (before p q) (λ s. before_itself q (before_trans q p q t s))
