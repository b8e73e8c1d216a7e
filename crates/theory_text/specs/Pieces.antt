-- A text read piece by piece: what stands behind a piece is no longer than the text.
use Rattle.std.specs.Prelude.{ℕ, suc, ◌≤◌, Bool, true, false, cond, List, [], ◌∷◌, eqb, length}
use Rattle.std.proofs.Common.{arith}
use Rattle.theory_text.specs.Reading.{from_the}

pub from_length : (x : ℕ) (l : List ℕ) → length (from_the x l) ≤ length l
unfolding from_the
from_length x [] = omega arith
from_length x (b ∷ l) = go (eqb b x) (from_length x l)
  where
    go : (c : Bool) → length (from_the x l) ≤ length l → length (cond c (b ∷ l) (from_the x l)) ≤ suc (length l)
    go true h = omega arith
    go false h = omega arith
