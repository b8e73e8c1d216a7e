-- The names of a list, one after the other: the first is what stands before the first newline, the others are those of what stands behind it.
use Rattle.std.specs.Prelude.{ℕ, suc, ◌<◌, ◌≤◌, ◌≡◌, refl, Bool, true, false, cond, List, [], ◌∷◌, eqb, length}
use Rattle.std.proofs.Common.{ap, arith, lt-ltb, le-ltb}
use Rattle.meaning.specs.Refusals.{sound}
use Rattle.meaning.specs.Campaign.{in_front, names_in, list_refusal}

unfoldable pub first_name : List ℕ → List ℕ
first_name [] = []
first_name (b ∷ l) = cond (eqb b 10) [] (b ∷ first_name l)

unfoldable pub after_name : List ℕ → List ℕ
after_name [] = []
after_name (b ∷ l) = cond (eqb b 10) l (after_name l)

pub names_none : names_in [] ≡ []
unfolding names_in
names_none = refl

pub names_step : (l : List ℕ) → 0 < length l → names_in l ≡ first_name l ∷ names_in (after_name l)
unfolding names_in first_name after_name in_front
names_step [] h = absurd (omega arith)
names_step (b ∷ []) h = go (eqb b 10)
  where
    go : (c : Bool) → cond c ([] ∷ []) (in_front b []) ≡ cond c [] (b ∷ []) ∷ names_in (cond c [] [])
    go true = refl
    go false = refl
names_step (b ∷ c ∷ l) h = go (eqb b 10) (names_step (c ∷ l) (omega arith))
  where
    go : (d : Bool) → names_in (c ∷ l) ≡ first_name (c ∷ l) ∷ names_in (after_name (c ∷ l))
        → cond d ([] ∷ names_in (c ∷ l)) (in_front b (names_in (c ∷ l))) ≡ cond d [] (b ∷ first_name (c ∷ l)) ∷ names_in (cond d (c ∷ l) (after_name (c ∷ l)))
    go true e = refl
    go false e = ap (in_front b) e

-- what is behind a name is shorter than the list
pub after_shorter : (l : List ℕ) → 0 < length l → length (after_name l) < length l
unfolding after_name
after_shorter [] h = absurd (omega arith)
after_shorter (b ∷ []) h = go (eqb b 10)
  where
    go : (c : Bool) → length {A = ℕ} (cond c [] []) < 1
    go true = omega arith
    go false = omega arith
after_shorter (b ∷ c ∷ l) h = go (eqb b 10) (after_shorter (c ∷ l) (omega arith))
  where
    go : (d : Bool) → length (after_name (c ∷ l)) < length (c ∷ l) → length (cond d (c ∷ l) (after_name (c ∷ l))) < length (b ∷ c ∷ l)
    go true k = omega arith
    go false k = omega arith

-- no more names than bytes
pub names_few : (l : List ℕ) → length (names_in l) ≤ length l
unfolding names_in in_front
names_few [] = omega arith
names_few (b ∷ l) = go (eqb b 10) (names_in l) (names_few l)
  where
    go : (c : Bool) (names : List (List ℕ)) → length names ≤ length l → length (cond c ([] ∷ names) (in_front b names)) ≤ suc (length l)
    go true names h = omega arith
    go false [] h = omega arith
    go false (x ∷ names) h = omega arith

-- 7 of a list comes exactly with over 200 names
pub list_long : (list : List ℕ) → 200 < length (names_in list) → list_refusal list ≡ record { number = 7; input = 3; place = 0 }
unfolding list_refusal
list_long list h = rw (lt-ltb 200 (length (names_in list)) h)

pub list_short : (list : List ℕ) → length (names_in list) ≤ 200 → list_refusal list ≡ sound
unfolding list_refusal
list_short list h = rw (le-ltb 200 (length (names_in list)) h)
