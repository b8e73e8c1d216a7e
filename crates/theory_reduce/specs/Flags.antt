-- The flags of the keys as the code has them: an array of which the first k count, changed at one number in each turn.
use Rattle.std.specs.Prelude.{ℕ, zero, suc, ◌≤◌, ◌<◌, ◌≡◌, refl, Bool, true, false, List, [], ◌∷◌, ◌++◌, length, take, drop, set, replicate}
use Rattle.std.proofs.Common.{sym, ap, ◌∙◌, arith, length-take, drop_of_length-le, set-set, take-take, drop_at, length-take-le}
use Rattle.std.proofs.lemmas.List.{set_split, take-set-le}
use Rattle.std.proofs.Math.Seq.{take-set-lt}

take_replicate : (n m : ℕ) → n ≤ m → take n (replicate m true) ≡ replicate n true
take_replicate zero m h = refl
take_replicate (suc n) zero h = absurd (omega arith)
take_replicate (suc n) (suc m) h = ap (λ (l : List Bool). true ∷ l) (take_replicate n m (omega arith))

-- before the first turn
pub flags_start : (k : ℕ) → k ≤ 64 → take k (replicate 64 true) ≡ replicate k true
flags_start k h = take_replicate k 64 h

pub flags_none : (k : ℕ) (flags : List Bool) → drop k (take k flags) ≡ []
flags_none k flags = drop_of_length-le (take k flags) {i = k} (omega (arith, length-take k flags))

module _ (flags : List Bool) (n k : ℕ) (below : n < k) (room : k ≤ length flags) where
  flags_set : (b : Bool) → take k (set flags n b) ≡ take n flags ++ (b ∷ drop (suc n) (take k flags))
  flags_set b =
      take-set-lt k flags n b below
      ∙ (set_split (take k flags) n b (omega (arith, length-take k flags))
      ∙ ap (λ (l : List Bool). l ++ (b ∷ drop (suc n) (take k flags))) (take-take n k flags (omega arith)))

  pub flags_behind : (a b : Bool) → drop n (take k (set (set flags n a) n b)) ≡ b ∷ drop (suc n) (take k flags)
  flags_behind a b =
      ap (λ (l : List Bool). drop n (take k l)) (set-set flags n a b)
      ∙ (ap (drop n) (flags_set b)
      ∙ drop_at (take n flags) (b ∷ drop (suc n) (take k flags)) n (length-take-le n flags (omega arith)))

  module _ (front : take (suc n) flags ≡ replicate (suc n) true) where
    shorter : take n flags ≡ replicate n true
    shorter = sym (take-take n (suc n) flags (omega arith)) ∙ (ap (take n) front ∙ take_replicate n (suc n) (omega arith))

    -- the flags before key n are as they were
    pub flags_front : (a b : Bool) → take n (set (set flags n a) n b) ≡ replicate n true
    flags_front a b =
        take-set-le n (set flags n a) n b (omega arith) ∙ (take-set-le n flags n a (omega arith) ∙ shorter)

    -- what key n is asked of: the keys before it, and those behind it that stay
    pub flags_asked : take k (set flags n false) ≡ replicate n true ++ (false ∷ drop (suc n) (take k flags))
    flags_asked = flags_set false ∙ ap (λ (l : List Bool). l ++ (false ∷ drop (suc n) (take k flags))) shorter
