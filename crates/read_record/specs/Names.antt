-- Names of labels: what the code's tests say of `is_letter`, `in_name` and `is_name`.
use Rattle.std.specs.Prelude.{ℕ, suc, ◌<◌, ◌≤◌, ◌≡◌, Bool, ◌&&◌, ◌||◌, List, [], ◌∷◌, eqb, length, get_or, drop}
use Rattle.std.proofs.Math.Path.{refl}
use Rattle.std.proofs.Math.Bool.{true, false}
use Rattle.std.proofs.Common.{arith}
use borrow.Author.Tests.{le-leb, lt-leb}
use Rattle.std.specs.Char.{is_ascii_alphabetic, is_ascii_alphanumeric}
use Rattle.std.proofs.lemmas.Bool.Decides.{nat_tests}
use Rattle.meaning.specs.Lists.{every}
use Rattle.meaning.specs.Refusals.{is_letter, in_name, is_name}

-- the library's tests of a byte
pub letter_ascii : (b : ℕ) → is_ascii_alphabetic b ≡ is_letter b
unfolding is_letter
letter_ascii b = grind (arith, nat_tests)

pub in_name_ascii : (b : ℕ) → in_name b ≡ (is_ascii_alphanumeric b || eqb b 45 || eqb b 95)
unfolding is_letter in_name
in_name_ascii b = grind (arith, nat_tests)

pub name_empty : (l : List ℕ) → length l ≡ 0 → false ≡ is_name l
unfolding is_name
name_empty [] e = refl
name_empty (b ∷ l) e = absurd (omega arith)

pub name_long : (l : List ℕ) → 32 < length l → false ≡ is_name l
unfolding is_name
name_long [] h = absurd (omega arith)
name_long (b ∷ l) h = rw (lt-leb (suc (length l)) 32 h) (go (is_letter b && every in_name l))
  where
    go : (x : Bool) → false ≡ (x && false)
    go true = refl
    go false = refl

pub name_first : (l : List ℕ) → 0 < length l → is_letter (get_or l 0 0) ≡ false → false ≡ is_name l
unfolding is_name
name_first [] h t = absurd (omega arith)
name_first (b ∷ l) h t = rw t

pub name_rest : (l : List ℕ) → 0 < length l → length l ≤ 32 → is_letter (get_or l 0 0) ≡ true → every in_name (drop 1 l) ≡ is_name l
unfolding is_name
name_rest [] h n t = absurd (omega arith)
name_rest (b ∷ l) h n t = rw (t, le-leb (suc (length l)) 32 n) (go (every in_name l))
  where
    go : (x : Bool) → x ≡ (x && true)
    go true = refl
    go false = refl
