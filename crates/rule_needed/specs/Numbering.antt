-- A line's new number: how many marks stand before it.
use Rattle.std.specs.Prelude.{ℕ, suc, ◌+◌, ◌≤◌, ◌<◌, ◌≡◌, refl, ◌⊎◌, Bool, true, false, cond, List, [], ◌∷◌, ◌++◌, length, get_or, set}
use Rattle.std.proofs.Common.{sym, ap, subst, ◌∙◌, inl, inr, arith, eq-or-lt_of_le, le_of_suc-le-suc, add-one, length-set, length-append, get_or-set_same, get_or-set_other}
use Rattle.meaning.specs.Lists.{keep, numbers}
use Rattle.theory_lists.specs.Lists.{keep_more}

-- how many marks stand before line i
unfoldable pub marks_before : List Bool → ℕ → ℕ
marks_before marks i = length (keep (λ (m : ℕ). get_or marks m false) (numbers i 0))

-- each line before n has its number
pub record NumberedTo (n : ℕ) (marks : List Bool) (found : List ℕ) : Type 0 where
  pub each : (i : ℕ) → i < n → get_or found i 0 ≡ marks_before marks i

-- The loop: the next number is how many marks stood before line n
pub record Counted (n : ℕ) (marks : List Bool) (found : List ℕ) (next : ℕ) : Type 0 where
  pub before : NumberedTo n marks found
  pub is : next ≡ marks_before marks n
  pub low : next ≤ n
  pub size : length found ≡ 256

pub counted_start : (marks : List Bool) (found : List ℕ) → length found ≡ 256 → Counted 0 marks found 0
unfolding marks_before keep numbers
counted_start marks found e =
    record { before = record { each = λ i h. absurd (omega arith) }; is = refl; low = omega arith; size = e }

pub counted_next : {n : ℕ} {marks : List Bool} {found : List ℕ} {next : ℕ} → Counted n marks found next → n < 256 → {after : ℕ}
    → after ≡ cond (get_or marks n false) (next + 1) next → Counted (n + 1) marks (set found n next) after
unfolding marks_before
counted_next {n} {marks} {found} {next} c few {after} e =
    rw add-one
    (record {
      before = record { each = λ i h. number i (eq-or-lt_of_le (le_of_suc-le-suc h)) };
      is =
          e ∙ more (get_or marks n false)
          ∙ sym (ap length (keep_more (λ (m : ℕ). get_or marks m false) n 0)
          ∙ (ap (λ (k : ℕ). length (keep (λ (m : ℕ). get_or marks m false) (numbers n 0) ++ cond (get_or marks k false) (k ∷ []) [])) zero_more
          ∙ length-append (keep (λ (m : ℕ). get_or marks m false) (numbers n 0)) (cond (get_or marks n false) (n ∷ []) [])));
      low = at_most (get_or marks n false) e;
      size = length-set found n next ∙ c.size;
    })
  where
    zero_more : 0 + n ≡ n
    zero_more = omega arith

    more : (b : Bool) → cond b (next + 1) next ≡ length (keep (λ (m : ℕ). get_or marks m false) (numbers n 0)) + length (cond b (n ∷ []) [])
    more true = let q = c.is in omega arith
    more false = let q = c.is in omega arith

    at_most : (b : Bool) → after ≡ cond b (next + 1) next → after ≤ suc n
    at_most true q = let l = c.low in omega arith
    at_most false q = let l = c.low in omega arith

    number : (i : ℕ) → (i ≡ n) ⊎ (i < n) → get_or (set found n next) i 0 ≡ length (keep (λ (m : ℕ). get_or marks m false) (numbers i 0))
    number i (inl q) =
        subst (λ (j : ℕ). get_or (set found n next) j 0 ≡ length (keep (λ (m : ℕ). get_or marks m false) (numbers j 0))) (sym q)
        (get_or-set_same found n next 0 (let s = c.size in omega arith) ∙ c.is)
    number i (inr h) = get_or-set_other found n i next 0 (λ q. omega arith) ∙ c.before.each i h

pub counted_end : {n : ℕ} {marks : List Bool} {found : List ℕ} {next : ℕ} (end : ℕ) → Counted n marks found next → n ≤ end + 1 → end < n
    → NumberedTo (end + 1) marks found
counted_end {n} {marks} {found} end c a b = let e : n ≡ end + 1 = omega arith in subst (λ (m : ℕ). NumberedTo m marks found) e c.before
