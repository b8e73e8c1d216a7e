-- The walk from the front: document 01, "In each input its size, then records from the front".
use Prim.Native.Nat.{ℕ, zero, suc, ◌-◌, ◌≤◌, ◌<◌}
use Rattle.std.specs.Prelude.{◌≡◌, Bool, length, drop}
use Rattle.std.proofs.Math.Path.{refl, subst}
use Rattle.std.proofs.Common.{sym, ap, ◌∙◌}
use mathlib.Core.List.{List, [], ◌∷◌}
use native.Mathlib.Omega.{arith}
use Rattle.meaning.specs.Records.{record_length}
use Rattle.meaning.specs.Refusals.{Walked, first_of, walk}

module _ {S : Type 0} (tests : S → List ℕ → List (ℕ × Bool)) (next : S → List ℕ → S) where
  -- what is still to pass is passed
  pub walk_skip : (k n : ℕ) (s : S) (l : List ℕ) → walk tests next k n s l ≡ walk tests next 0 n s (drop k l)
  unfolding walk
  walk_skip zero n s l = refl
  walk_skip (suc k) n s [] = refl
  walk_skip (suc k) n s (b ∷ l) = walk_skip k n s l

  -- nothing is left: the walk ends
  pub walk_end : (n : ℕ) (s : S) → walk tests next 0 n s [] ≡ record { number = 0; at = n; state = s }
  unfolding walk
  walk_end n s = refl

  -- a record that is refused stops the walk
  pub walk_stop : (n r : ℕ) (s : S) (l : List ℕ) → 0 < length l → first_of (tests s l) ≡ suc r
      → walk tests next 0 n s l ≡ record { number = suc r; at = n; state = s }
  unfolding walk
  walk_stop n r s [] h e = absurd (omega arith)
  walk_stop n r s (b ∷ l) h e = rw (walk, e)

  walk_step_at : (n m : ℕ) (s : S) (b : ℕ) (l : List ℕ) → first_of (tests s (b ∷ l)) ≡ 0 → record_length (b ∷ l) ≡ suc m
      → walk tests next 0 n s (b ∷ l) ≡ walk tests next 0 (suc n) (next s (b ∷ l)) (drop m l)
  unfolding walk
  walk_step_at n m s b l e q =
      let less : suc m - 1 ≡ m = omega arith in
      rw (walk, e, q)
      (ap (λ (k : ℕ). walk tests next k (suc n) (next s (b ∷ l)) l) less ∙ walk_skip m (suc n) (next s (b ∷ l)) l)

  -- a record that is accepted is passed, and what stands behind it is walked with what was read
  pub walk_step : (n : ℕ) (s : S) (l : List ℕ) → 0 < length l → first_of (tests s l) ≡ 0 → 1 ≤ record_length l
      → walk tests next 0 n s l ≡ walk tests next 0 (suc n) (next s l) (drop (record_length l) l)
  walk_step n s [] h e long = absurd (omega arith)
  walk_step n s (b ∷ l) h e long = go (record_length (b ∷ l)) refl long
    where
      go : (k : ℕ) → record_length (b ∷ l) ≡ k → 1 ≤ k
          → walk tests next 0 n s (b ∷ l) ≡ walk tests next 0 (suc n) (next s (b ∷ l)) (drop (record_length (b ∷ l)) (b ∷ l))
      go zero q one = absurd (omega arith)
      go (suc m) q one =
          walk_step_at n m s b l e q
          ∙ ap (λ (k : ℕ). walk tests next 0 (suc n) (next s (b ∷ l)) (drop k (b ∷ l))) (sym q)

-- Where a walk came to: the rest of the input there, of which P holds as of every place before; the input is at its end, or the record
-- there is refused by the number
pub record Stopped {S : Type 0} (tests : S → List ℕ → List (ℕ × Bool)) (P : ℕ → S → List ℕ → Type 0) (w : Walked S) : Type 0 where
  pub rest : List ℕ
  pub held : P w.at w.state rest
  pub sound : w.number ≡ 0 → rest ≡ []
  pub refused : 0 < w.number → (0 < length rest) × (first_of (tests w.state rest) ≡ w.number)

-- What each accepted record keeps holds where the walk stops
module _ {S : Type 0} (tests : S → List ℕ → List (ℕ × Bool)) (next : S → List ℕ → S) (P : ℕ → S → List ℕ → Type 0)
    (long : (s : S) (l : List ℕ) → 0 < length l → first_of (tests s l) ≡ 0 → 1 ≤ record_length l)
    (kept : (n : ℕ) (s : S) (l : List ℕ) → P n s l → 0 < length l → first_of (tests s l) ≡ 0
    → P (suc n) (next s l) (drop (record_length l) l)) where
  keeps_from : (k n : ℕ) (s : S) (l : List ℕ) → P n s (drop k l) → Stopped tests P (walk tests next k n s l)
  unfolding walk
  keeps_from zero n s [] p = record { rest = []; held = p; sound = λ e. refl; refused = λ h. absurd (omega arith) }
  keeps_from (suc k) n s [] p = record { rest = []; held = p; sound = λ e. refl; refused = λ h. absurd (omega arith) }
  keeps_from (suc k) n s (b ∷ l) p = keeps_from k n s l p
  keeps_from zero n s (b ∷ l) p =
      go (first_of (tests s (b ∷ l))) refl
      (λ e. keeps_from (record_length (b ∷ l) - 1) (suc n) (next s (b ∷ l)) l
      (passed e (record_length (b ∷ l)) refl))
    where
      passed : first_of (tests s (b ∷ l)) ≡ 0 → (k : ℕ) → record_length (b ∷ l) ≡ k
          → P (suc n) (next s (b ∷ l)) (drop (record_length (b ∷ l) - 1) l)
      passed e zero q =
          let one : 1 ≤ record_length (b ∷ l) = long s (b ∷ l) (omega arith) e in absurd (omega arith)
      passed e (suc m) q =
          let less : record_length (b ∷ l) - 1 ≡ m = omega arith in
          subst (λ (k : ℕ). P (suc n) (next s (b ∷ l)) (drop k l)) (sym less)
          (subst (λ (k : ℕ). P (suc n) (next s (b ∷ l)) (drop k (b ∷ l))) q (kept n s (b ∷ l) p (omega arith) e))

      go : (r : ℕ) → first_of (tests s (b ∷ l)) ≡ r
          → (first_of (tests s (b ∷ l)) ≡ 0
          → Stopped tests P (walk tests next (record_length (b ∷ l) - 1) (suc n) (next s (b ∷ l)) l))
          → Stopped tests P (walk tests next 0 n s (b ∷ l))
      go zero e more = rw (walk, e) (more e)
      go (suc r) e more =
          rw (walk, e)
          (record { rest = b ∷ l; held = p; sound = λ q. absurd (omega arith); refused = λ h. (omega arith, e) })

  pub walk_keeps : (n : ℕ) (s : S) (l : List ℕ) → P n s l → Stopped tests P (walk tests next 0 n s l)
  walk_keeps n s l p = keeps_from 0 n s l p
