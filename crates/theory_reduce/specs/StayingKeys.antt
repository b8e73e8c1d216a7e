-- What holds of the keys holds of those that stay: a test that none passes, and a list read key by key.
use Rattle.std.specs.Prelude.{ℕ, zero, suc, ◌+◌, ◌<◌, ◌≡◌, refl, ◌⊎◌, Bool, true, false, cond, not, ◌||◌, List, [], ◌∷◌, ◌++◌, length, get_or, take}
use Rattle.std.proofs.Common.{sym, ap, subst, ◌∙◌, inl, inr, arith}
use Rattle.meaning.specs.Lists.{any, keep, numbers, same}
use Rattle.meaning.specs.Keys.{Key}
use Rattle.meaning.specs.Records.{no_key, key_body}
use Rattle.meaning.specs.Refusals.{key_twice}
use Rattle.meaning.specs.Reduction.{staying}
use Rattle.theory_lists.specs.Lists.{keep_more}
use Rattle.theory_lists.specs.Bools.{false_of, of_false, or_cases}
use Rattle.theory_records.specs.Profiles.{Different, none_yet, one_more}

-- a test that no key passes is passed by none that stays
pub staying_none : (f : Key → Bool) (stays : List Bool) (keys : List Key) → any f keys ≡ false → any f (staying stays keys) ≡ false
unfolding any staying
staying_none f [] keys e = refl
staying_none f (s ∷ stays) [] e = refl
staying_none f (true ∷ stays) (k ∷ keys) e =
    false_of (f k || any f (staying stays keys))
    (λ t. go (or_cases (f k) (any f (staying stays keys)) t) (staying_none f stays keys (later (f k) (any f keys) e)))
  where
    later : (a b : Bool) → a || b ≡ false → b ≡ false
    later true b q = absurd (of_false true q tt)
    later false b q = q

    first : (a b : Bool) → a || b ≡ false → a ≡ false
    first true b q = q
    first false b q = refl

    go : lib.Dec.T (f k) ⊎ lib.Dec.T (any f (staying stays keys)) → any f (staying stays keys) ≡ false → ⊥
    go (inl t) q = of_false (f k) (first (f k) (any f keys) e) t
    go (inr t) q = of_false _ q t
staying_none f (false ∷ stays) (k ∷ keys) e = staying_none f stays keys (later (f k) (any f keys) e)
  where
    later : (a b : Bool) → a || b ≡ false → b ≡ false
    later true b q = absurd (of_false true q tt)
    later false b q = q

-- one key more at the end stays or does not
pub staying_more : (stays : List Bool) (keys : List Key) (k : Key)
    → (staying stays (keys ++ (k ∷ [])) ≡ staying stays keys) ⊎ (staying stays (keys ++ (k ∷ [])) ≡ staying stays keys ++ (k ∷ []))
unfolding staying
staying_more [] keys k = inl refl
staying_more (true ∷ []) [] k = inr refl
staying_more (true ∷ s ∷ stays) [] k = inr refl
staying_more (false ∷ []) [] k = inl refl
staying_more (false ∷ s ∷ stays) [] k = inl refl
staying_more (false ∷ stays) (m ∷ keys) k = staying_more stays keys k
staying_more (true ∷ stays) (m ∷ keys) k = go (staying_more stays keys k)
  where
    go : (staying stays (keys ++ (k ∷ [])) ≡ staying stays keys) ⊎ (staying stays (keys ++ (k ∷ [])) ≡ staying stays keys ++ (k ∷ []))
        → (m ∷ staying stays (keys ++ (k ∷ [])) ≡ m ∷ staying stays keys) ⊎ (m ∷ staying stays (keys ++ (k ∷ [])) ≡ m ∷ (staying stays keys ++ (k ∷ [])))
    go (inl e) = inl (ap (λ (l : List Key). m ∷ l) e)
    go (inr e) = inr (ap (λ (l : List Key). m ∷ l) e)

-- keys of which no two are equal: no two of those that stay are
staying_nothing : (stays : List Bool) → staying stays [] ≡ []
unfolding staying
staying_nothing [] = refl
staying_nothing (s ∷ stays) = refl

pub staying_different : (stays : List Bool) {keys : List Key} → Different keys → Different (staying stays keys)
unfolding key_twice
staying_different stays (none_yet e) = none_yet (ap (staying stays) e ∙ staying_nothing stays)
staying_different stays {keys} (one_more before k d n e) = go (staying_more stays before k) (staying_different stays d)
  where
    go : (staying stays (before ++ (k ∷ [])) ≡ staying stays before) ⊎ (staying stays (before ++ (k ∷ [])) ≡ staying stays before ++ (k ∷ []))
        → Different (staying stays before) → Different (staying stays keys)
    go (inl q) more = subst Different (sym (ap (staying stays) e ∙ q)) more
    go (inr q) more =
        one_more (staying stays before) k more (staying_none (λ (m : Key). same (key_body m) (key_body k)) stays before n) (ap (staying stays) e ∙ q)

-- the loop over the flags, one key more
pub staying_next : (n : ℕ) (stays : List Bool) (keys : List Key) → n < length stays → n < length keys
    → staying (take (suc n) stays) (take (suc n) keys)
    ≡ staying (take n stays) (take n keys) ++ cond (get_or stays n false) (get_or keys n no_key ∷ []) []
unfolding staying
staying_next n [] keys h k = absurd (omega arith)
staying_next n (s ∷ stays) [] h k = absurd (omega arith)
staying_next zero (true ∷ stays) (m ∷ keys) h k = refl
staying_next zero (false ∷ stays) (m ∷ keys) h k = refl
staying_next (suc n) (true ∷ stays) (m ∷ keys) h k = ap (λ (l : List Key). m ∷ l) (staying_next n stays keys (omega arith) (omega arith))
staying_next (suc n) (false ∷ stays) (m ∷ keys) h k = staying_next n stays keys (omega arith) (omega arith)

-- the numbers of the dropped keys, one key more
pub dropped_next : (stays : List Bool) (n : ℕ) → keep (λ (m : ℕ). not (get_or stays m true)) (numbers (suc n) 0)
    ≡ keep (λ (m : ℕ). not (get_or stays m true)) (numbers n 0) ++ cond (get_or stays n true) [] (n ∷ [])
dropped_next stays n =
    keep_more (λ (m : ℕ). not (get_or stays m true)) n 0
    ∙ (ap (λ (k : ℕ). keep (λ (m : ℕ). not (get_or stays m true)) (numbers n 0) ++ cond (not (get_or stays k true)) (k ∷ []) []) (zero_is n)
    ∙ ap (λ (l : List ℕ). keep (λ (m : ℕ). not (get_or stays m true)) (numbers n 0) ++ l) (turn (get_or stays n true)))
  where
    zero_is : (n : ℕ) → 0 + n ≡ n
    zero_is n = omega arith

    turn : (b : Bool) → cond (not b) (n ∷ []) [] ≡ cond b [] (n ∷ [])
    turn true = refl
    turn false = refl
