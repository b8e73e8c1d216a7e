-- Bytes, and numbers of two bytes: document 01, "two bytes, little-endian".
use Rattle.std.specs.Prelude.{ℕ, zero, suc, ◌+◌, ◌*◌, ◌/◌, ◌%◌, ◌^◌, ◌<◌, ◌≡◌, refl, List, [], ◌∷◌, ◌++◌, length, get_or, take, drop}
use Rattle.std.proofs.Common.{ap, ◌∙◌, arith, mod-eq_of_lt, pow-suc}
use Rattle.std.proofs.Math.Nat.{add-mul-mod_self_left, add-mul-div_left, div-eq_of_lt, pow-zero}
use Rattle.meaning.specs.Lists.{Each, end, also}
use Rattle.meaning.specs.Records.{word, word_bytes, number, number_bytes}

-- Each is a byte: what a slice of u8 holds
abbrev pub IsByte : ℕ → Type 0
IsByte b = b < 256

abbrev pub Bytes : List ℕ → Type 0
Bytes l = Each IsByte l

pub bytes_from : (l : List ℕ) → ((i : ℕ) → i < length l → get_or l i 0 < 256) → Bytes l
bytes_from [] f = end
bytes_from (b ∷ l) f = also (f 0 (omega arith)) (bytes_from l (λ (i : ℕ) h. f (suc i) (omega arith)))

pub bytes_at : {l : List ℕ} → Bytes l → (i : ℕ) → get_or l i 0 < 256
bytes_at end i = omega arith
bytes_at (also b bs) zero = b
bytes_at (also b bs) (suc i) = bytes_at bs i

pub bytes_drop : (k : ℕ) {l : List ℕ} → Bytes l → Bytes (drop k l)
bytes_drop zero bs = bs
bytes_drop (suc k) end = end
bytes_drop (suc k) (also b bs) = bytes_drop k bs

pub bytes_take : (k : ℕ) {l : List ℕ} → Bytes l → Bytes (take k l)
bytes_take zero bs = end
bytes_take (suc k) end = end
bytes_take (suc k) (also b bs) = also b (bytes_take k bs)

-- a number of two bytes is read back
pub word_word_bytes : (n : ℕ) (l : List ℕ) → n < 65536 → word (word_bytes n ++ l) 0 ≡ n
unfolding word word_bytes
word_word_bytes n l h = omega arith

-- what is read is written back
pub word_bytes_word : (l : List ℕ) (i : ℕ) → Bytes l → word_bytes (word l i) ≡ get_or l i 0 ∷ get_or l (i + 1) 0 ∷ []
unfolding word word_bytes
word_bytes_word l i bs =
    let a : get_or l i 0 < 256 = bytes_at bs i in
    let b : get_or l (i + 1) 0 < 256 = bytes_at bs (i + 1) in
    let low : (get_or l i 0 + 256 * get_or l (i + 1) 0) % 256 ≡ get_or l i 0 =
    add-mul-mod_self_left (get_or l i 0) 256 (get_or l (i + 1) 0) ∙ mod-eq_of_lt a in
    let quotient : (get_or l i 0 + 256 * get_or l (i + 1) 0) / 256 ≡ get_or l (i + 1) 0 =
    add-mul-div_left (get_or l i 0) (get_or l (i + 1) 0) (omega arith) ∙ (omega (arith, div-eq_of_lt a)) in
    rw (low, quotient, mod-eq_of_lt b)

-- Numbers of any width, once for two bytes and for four
pub number_length : (width n : ℕ) → length (number_bytes width n) ≡ width
unfolding number_bytes
number_length zero n = refl
number_length (suc width) n = ap suc (number_length width (n / 256))

-- what is written is read back
pub number_bytes_lem : (width n : ℕ) → n < 256 ^ width → number (number_bytes width n) ≡ n
unfolding number number_bytes
number_bytes_lem zero n h = let p = pow-zero 256 in omega arith
number_bytes_lem (suc width) n h = let p = pow-suc 256 width in let e = number_bytes_lem width (n / 256) (omega arith) in omega arith

-- and what is read is written back
pub bytes_number : {l : List ℕ} → Bytes l → number_bytes (length l) (number l) ≡ l
unfolding number number_bytes
bytes_number end = refl
bytes_number (also {x = b} {xs = l} h bs) =
    let low : (b + 256 * number l) % 256 ≡ b = omega arith in
    let high : (b + 256 * number l) / 256 ≡ number l = omega arith in
    rw (low, high, bytes_number bs)
