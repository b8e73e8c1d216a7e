-- One path begins another: the test, and what it says.
use Rattle.std.specs.Prelude.{ℕ, ◌≡◌, refl, Bool, true, false, ◌&&◌, List, [], ◌∷◌, ◌++◌, T, eqb, length, drop}
use Rattle.std.proofs.Common.{sym, ap₂, eqb→eq}
use Rattle.std.proofs.Math.Dec.{eqb_refl}
use Rattle.theory_lists.specs.Bools.{and_left, and_right, both}

unfoldable pub begins : List ℕ → List ℕ → Bool
begins [] p = true
begins (x ∷ s) [] = false
begins (x ∷ s) (y ∷ p) = eqb x y && begins s p

pub begins_split : (s p : List ℕ) → T (begins s p) → p ≡ s ++ drop (length s) p
unfolding begins
begins_split [] p h = refl
begins_split (x ∷ s) [] h = absurd h
begins_split (x ∷ s) (y ∷ p) h = ap₂ ◌∷◌ (sym (eqb→eq x y (and_left (eqb x y) _ h))) (begins_split s p (and_right (eqb x y) _ h))

pub begins_append : (s r : List ℕ) → T (begins s (s ++ r))
unfolding begins
begins_append [] r = tt
begins_append (x ∷ s) r = both (eqb x x) _ (eqb_refl x) (begins_append s r)
