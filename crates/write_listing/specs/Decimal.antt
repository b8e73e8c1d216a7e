-- Decimal digits: one more digit for each division by ten; a number of four bytes has at most ten.
use Rattle.std.specs.Prelude.{ℕ, zero, suc, ◌+◌, ◌*◌, ◌/◌, ◌%◌, ◌<◌, ◌≤◌, ◌≡◌, [], ◌∷◌, ◌++◌, length}
use Rattle.std.proofs.Common.{◌∙◌, ap, arith, length-append, lt-ltb, le-ltb}
use Rattle.std.proofs.Math.Decide.{dec_lt}
use Rattle.meaning.specs.Listing.{digits, decimal}

-- more steps than the number has digits change nothing
steps_same : (s r n : ℕ) → n < s → n < r → digits s n ≡ digits r n
unfolding digits
steps_same zero r n h g = absurd (omega arith)
steps_same (suc s) zero n h g = absurd (omega arith)
steps_same (suc s) (suc r) n h g = go (dec_lt n 10) (steps_same s r (n / 10))
  where
    go : Dec (n < 10) → (n / 10 < s → n / 10 < r → digits s (n / 10) ≡ digits r (n / 10)) → digits (suc s) n ≡ digits (suc r) n
    go (yes l) ih = rw (lt-ltb n 10 l)
    go (no m) ih = rw (le-ltb n 10 (omega arith), ih (omega arith) (omega arith))

pub decimal_one : (n : ℕ) → n < 10 → decimal n ≡ (48 + n) ∷ []
unfolding digits decimal
decimal_one n h = rw (lt-ltb n 10 h)

pub decimal_more : (n : ℕ) → 10 ≤ n → decimal n ≡ decimal (n / 10) ++ ((48 + n % 10) ∷ [])
unfolding digits decimal
decimal_more n h = rw (le-ltb n 10 h, steps_same n (suc (n / 10)) (n / 10) (omega arith) (omega arith))

pub length_one : (n : ℕ) → n < 10 → length (decimal n) ≡ 1
length_one n h = ap length (decimal_one n h)

pub length_more : (n : ℕ) → 10 ≤ n → length (decimal n) ≡ length (decimal (n / 10)) + 1
length_more n h = ap length (decimal_more n h) ∙ length-append (decimal (n / 10)) ((48 + n % 10) ∷ [])

-- at most k digits, where the tenth part has at most k - 1
fewer : (k n : ℕ) → (10 ≤ n → length (decimal (n / 10)) ≤ k) → length (decimal n) ≤ k + 1
fewer k n h = go (dec_lt n 10)
  where
    go : Dec (n < 10) → length (decimal n) ≤ k + 1
    go (yes l) = let e = ap length (decimal_one n l) in omega arith
    go (no m) = let e = length_more n (omega arith) in let g = h (omega arith) in omega arith

-- ten, a hundred, a thousand ..
unfoldable tens : ℕ → ℕ
tens zero = 10
tens (suc k) = 10 * tens k

most_digits : (k n : ℕ) → n < tens k → length (decimal n) ≤ k + 1
unfolding tens
most_digits zero n h = fewer 0 n (λ g. absurd (omega arith))
most_digits (suc k) n h = let m = fewer (k + 1) n (λ g. most_digits k (n / 10) (omega arith)) in omega arith

pub ten_digits : (n : ℕ) → n < 4294967296 → length (decimal n) ≤ 10
unfolding tens
ten_digits n h = most_digits 9 n (omega arith)

-- a number of eight bytes has at most twenty
pub twenty_digits : (n : ℕ) → n < 18446744073709551616 → length (decimal n) ≤ 20
unfolding tens
twenty_digits n h = most_digits 19 n (omega arith)
