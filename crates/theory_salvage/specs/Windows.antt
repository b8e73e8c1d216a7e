-- A block of lines filled as they come: one line more is put behind those in the block exactly where its number is one of the block's.
use Rattle.std.specs.Prelude.{ℕ, zero, suc, ◌+◌, ◌<◌, ◌≤◌, ◌≡◌, refl, List, [], ◌∷◌, ◌++◌, length, take, drop}
use Rattle.std.proofs.Common.{ap, arith}

module _ {A : Type 0} where
  -- there is room for it
  pub take_more : (n : ℕ) (xs : List A) (x : A) → length xs < n → take n (xs ++ (x ∷ [])) ≡ take n xs ++ (x ∷ [])
  take_more zero xs x h = absurd (omega arith)
  take_more (suc n) [] x h = go n
    where
      go : (m : ℕ) → take (suc m) (x ∷ []) ≡ x ∷ []
      go zero = refl
      go (suc m) = refl
  take_more (suc n) (y ∷ xs) x h = ap (λ (l : List A). y ∷ l) (take_more n xs x (omega arith))

  pub take_full : (n : ℕ) (xs : List A) (x : A) → n ≤ length xs → take n (xs ++ (x ∷ [])) ≡ take n xs
  take_full zero xs x h = refl
  take_full (suc n) [] x h = absurd (omega arith)
  take_full (suc n) (y ∷ xs) x h = ap (λ (l : List A). y ∷ l) (take_full n xs x (omega arith))

  -- its number is in the block
  pub window_in : (start n : ℕ) (xs : List A) (x : A) → start ≤ length xs → length xs < start + n
      → take n (drop start (xs ++ (x ∷ []))) ≡ take n (drop start xs) ++ (x ∷ [])
  window_in zero n xs x h k = take_more n xs x (omega arith)
  window_in (suc start) n [] x h k = absurd (omega arith)
  window_in (suc start) n (y ∷ xs) x h k = window_in start n xs x (omega arith) (omega arith)

  -- .. behind it
  pub window_behind : (start n : ℕ) (xs : List A) (x : A) → start + n ≤ length xs → take n (drop start (xs ++ (x ∷ []))) ≡ take n (drop start xs)
  window_behind zero n xs x h = take_full n xs x (omega arith)
  window_behind (suc start) n [] x h = absurd (omega arith)
  window_behind (suc start) n (y ∷ xs) x h = window_behind start n xs x (omega arith)

  -- .. before it
  pub window_before : (start n : ℕ) (xs : List A) (x : A) → length xs < start → take n (drop start (xs ++ (x ∷ []))) ≡ take n (drop start xs)
  window_before zero n xs x h = absurd (omega arith)
  window_before (suc start) n [] x h = ap (take n) (none start)
    where
      none : (k : ℕ) → drop {A = A} k [] ≡ []
      none zero = refl
      none (suc k) = refl
  window_before (suc start) n (y ∷ xs) x h = window_before start n xs x (omega arith)
