-- Counts over a list of inputs: there is one, and for each key they make the number of inputs.
use Prim.Native.Nat.{ℕ, zero, suc, ◌+◌, ◌<◌, ◌≤◌}
use Rattle.std.specs.Prelude.{◌≡◌, ◌⊎◌}
use Rattle.std.proofs.Math.Path.{refl, ap}
use Rattle.std.proofs.Common.{sym, ◌∙◌, inl, inr}
use mathlib.Core.List.{List, [], ◌∷◌}
use native.Mathlib.Omega.{arith}
use Rattle.std.proofs.Math.Decide.{ℕ_discrete}
use Rattle.std.proofs.Math.ListN.{length}
use Rattle.meaning.specs.Keys.{Key, Keeps}
use Rattle.meaning.specs.Refusals.{tree_refusal}
use Rattle.meaning.specs.Operations.{second_in, labels_in, KeepsIn}
use Rattle.meaning.specs.Campaign.{Segment, unreadable, segment, BreaksIn, Counted, none, one, other, KeptBy, BrokenBy, RefusedBy, Unread, last_number}

pub counted_unique : {A : Type 0} {Q : A → Type 0} {xs : List A} {m n : ℕ} → Counted Q xs m → Counted Q xs n → m ≡ n
counted_unique none none = refl
counted_unique (one q c) (one r d) = ap suc (counted_unique c d)
counted_unique (one q c) (other r d) = absurd (r q)
counted_unique (other q c) (one r d) = absurd (q r)
counted_unique (other q c) (other r d) = counted_unique c d

-- the counts of the refusal numbers from n on, so many of them
unfoldable pub sum_from : (ℕ → ℕ) → ℕ → ℕ → ℕ
sum_from f zero n = 0
sum_from f (suc left) n = f n + sum_from f left (suc n)

-- a member is counted once where the statement holds of it, else not
pub record Split {A : Type 0} (Q : A → Type 0) (x : A) (xs : List A) (n : ℕ) : Type 0 where
  pub rest : ℕ
  pub counted : Counted Q xs rest
  pub here : ℕ
  pub is : n ≡ here + rest
  pub either : (Q x × (here ≡ 1)) ⊎ ((Q x → ⊥) × (here ≡ 0))

pub split : {A : Type 0} {Q : A → Type 0} {x : A} {xs : List A} {n : ℕ} → Counted Q (x ∷ xs) n → Split Q x xs n
split (one {n = n} q c) = record { rest = n; counted = c; here = 1; is = omega arith; either = inl (q, refl) }
split (other {n = n} q c) = record { rest = n; counted = c; here = 0; is = omega arith; either = inr (q, refl) }

unfoldable pub Either : Type 0 → ℕ → Type 0
Either Q n = (Q × (n ≡ 1)) ⊎ ((Q → ⊥) × (n ≡ 0))

is_one : {Q : Type 0} {n : ℕ} → Either Q n → Q → n ≡ 1
unfolding Either
is_one (inl p) q = p.1
is_one (inr p) q = absurd (p.0 q)

is_zero : {Q : Type 0} {n : ℕ} → Either Q n → (Q → ⊥) → n ≡ 0
unfolding Either
is_zero (inl p) q = absurd (q p.0)
is_zero (inr p) q = p.1

-- a list of numbers is counted by each number at once: the sum over the first ones
module _ {A : Type 0} (Q : ℕ → A → Type 0) where
  sum_none : (f : ℕ → ℕ) → ((k : ℕ) → f k ≡ 0) → (left n : ℕ) → sum_from f left n ≡ 0
  unfolding sum_from
  sum_none f z zero n = refl
  sum_none f z (suc left) n = let e = z n in let g = sum_none f z left (suc n) in omega arith

  sum_add : (f g h : ℕ → ℕ) → ((k : ℕ) → f k ≡ g k + h k) → (left n : ℕ) → sum_from f left n ≡ sum_from g left n + sum_from h left n
  unfolding sum_from
  sum_add f g h e zero n = refl
  sum_add f g h e (suc left) n = let a = e n in let b = sum_add f g h e left (suc n) in omega arith

  -- a function that is 1 at one number and 0 elsewhere
  sum_after : (f : ℕ → ℕ) (m : ℕ) → ((k : ℕ) → (k ≡ m → ⊥) → f k ≡ 0) → (left n : ℕ) → m < n → sum_from f left n ≡ 0
  unfolding sum_from
  sum_after f m z zero n h = refl
  sum_after f m z (suc left) n h = let e = z n (λ q. omega arith) in let g = sum_after f m z left (suc n) (omega arith) in omega arith

  sum_one : (f : ℕ → ℕ) (m : ℕ) → f m ≡ 1 → ((k : ℕ) → (k ≡ m → ⊥) → f k ≡ 0) → (left n : ℕ) → n ≤ m → m < n + left → sum_from f left n ≡ 1
  unfolding sum_from
  sum_one f m o z zero n h k = absurd (omega arith)
  sum_one f m o z (suc left) n h k = go (λ i j. sum_one f m o z left (suc n) i j) (ℕ_discrete n m)
    where
      go : (suc n ≤ m → m < suc n + left → sum_from f left (suc n) ≡ 1) → Dec (n ≡ m) → f n + sum_from f left (suc n) ≡ 1
      go ih (yes e) = let a = ap f e in let b = sum_after f m z left (suc n) (omega arith) in omega arith
      go ih (no e) = let a = z n e in let b = ih (omega arith) (omega arith) in omega arith

-- "show that for each key kept, broken, refused and unread together make the number of inputs": under a bound on the refusal numbers of a tree,
-- which is `tree_number` of `Numbers`; `report_sums` of `Reports` says it of every report
module _ (profile : List ℕ) (key : Key) (small : (tree : List ℕ) → (tree_refusal (second_in profile) (labels_in profile) tree).number ≤ last_number) where
  -- each input is counted once
  once : (s : Segment) (k b u : ℕ) (r : ℕ → ℕ) → Either (KeptBy profile key s) k → Either (BrokenBy profile key s) b → Either (Unread s) u
      → ((n : ℕ) → Either (RefusedBy profile n s) (r n)) → k + b + sum_from r last_number 1 + u ≡ 1
  unfolding KeptBy BrokenBy RefusedBy Unread KeepsIn BreaksIn Keeps Either
  once unreadable k b u r ck cb cu cr =
      let e = is_zero ck (λ h. h) in
      let f = is_zero cb (λ h. h) in
      let g = is_one cu tt in
      let z = sum_none (RefusedBy profile) r (λ n. is_zero (cr n) (λ h. h)) last_number 1 in
      omega arith
  once (segment tree) k b u r ck cb cu cr = at (tree_refusal (second_in profile) (labels_in profile) tree).number refl
    where
      both : (tree_refusal (second_in profile) (labels_in profile) tree).number ≡ 0 → Either (KeptBy profile key (segment tree)) k
          → Either (BrokenBy profile key (segment tree)) b → k + b ≡ 1
      both q (inl x) (inl y) = absurd (x.0.1 y.0.1)
      both q (inl x) (inr y) = let i = x.1 in let j = y.1 in omega arith
      both q (inr x) (inl y) = let i = x.1 in let j = y.1 in omega arith
      both q (inr x) (inr y) = absurd (x.0 (q, λ w. y.0 (q, w)))

      at : (m : ℕ) → (tree_refusal (second_in profile) (labels_in profile) tree).number ≡ m → k + b + sum_from r last_number 1 + u ≡ 1
      at zero q =
          let e = both q ck cb in
          let g = is_zero cu (λ h. h) in
          let z = sum_none (RefusedBy profile) r (λ n. is_zero (cr n) (λ h. let i = h.0 in let j = h.1 in omega arith)) last_number 1 in
          omega arith
      at (suc m) q =
          let e = is_zero ck (λ h. let i = h.0 in omega arith) in
          let f = is_zero cb (λ h. let i = h.0 in omega arith) in
          let g = is_zero cu (λ h. h) in
          let w = small tree in
          let z = sum_one (RefusedBy profile) r (suc m) (is_one (cr (suc m)) (omega arith, q)) (λ n h. is_zero (cr n) (λ v. h (sym v.1 ∙ q)))
          last_number 1 (omega arith) (omega arith) in
          omega arith

  pub sums : (segments : List Segment) (k b u : ℕ) (r : ℕ → ℕ) → Counted (KeptBy profile key) segments k → Counted (BrokenBy profile key) segments b
      → ((number : ℕ) → Counted (RefusedBy profile number) segments (r number)) → Counted Unread segments u
      → k + b + sum_from r last_number 1 + u ≡ length segments
  unfolding Either
  sums [] k b u r ck cb cr cu =
      let e = counted_unique ck none in
      let f = counted_unique cb none in
      let g = counted_unique cu none in
      let z = sum_none (RefusedBy profile) r (λ n. counted_unique (cr n) none) last_number 1 in
      omega arith
  sums (s ∷ segments) k b u r ck cb cr cu =
      let K = split ck in
      let B = split cb in
      let U = split cu in
      let R : (n : ℕ) → Split (RefusedBy profile n) s segments (r n) = λ n. split (cr n) in
      let ih = sums segments K.rest B.rest U.rest (λ n. (R n).rest) K.counted B.counted (λ n. (R n).counted) U.counted in
      let a = sum_add (RefusedBy profile) r (λ n. (R n).here) (λ n. (R n).rest) (λ n. (R n).is) last_number 1 in
      let e = K.is in
      let f = B.is in
      let g = U.is in
      let o = once s K.here B.here U.here (λ n. (R n).here) K.either B.either U.either (λ n. (R n).either) in
      let l : length (s ∷ segments) ≡ suc (length segments) = refl in
      omega arith
