-- A line without the newline that a file may have at its end.
use Rattle.std.specs.Prelude.{ℕ, ◌-◌, ◌≡◌, refl, cond, List, [], ◌∷◌, ◌++◌, eqb, length, get_or, take}
use Rattle.std.proofs.Common.{arith, eq-eqb, ne_eqb, length-append, take_at}

unfoldable pub bare_line : List ℕ → List ℕ
bare_line l = cond (eqb (get_or l (length l - 1) 0) 10) (take (length l - 1) l) l

-- one newline at the end is taken off
pub bare_ended : (l : List ℕ) → bare_line (l ++ (10 ∷ [])) ≡ l
unfolding bare_line
bare_ended l = rw (less, eq-eqb (get_or (l ++ (10 ∷ [])) (length l) 0) 10 (last l)) (take_at l (10 ∷ []) (length l) refl)
  where
    less : length (l ++ (10 ∷ [])) - 1 ≡ length l
    less = omega (arith, length-append l (10 ∷ []))

    last : (k : List ℕ) → get_or (k ++ (10 ∷ [])) (length k) 0 ≡ 10
    last [] = refl
    last (b ∷ k) = last k

-- and nothing else
pub bare_plain : (l : List ℕ) → (get_or l (length l - 1) 0 ≡ 10 → ⊥) → bare_line l ≡ l
unfolding bare_line
bare_plain l h = rw (ne_eqb (get_or l (length l - 1) 0) 10 h)

-- the newline is taken off
pub bare_cut : (l : List ℕ) → get_or l (length l - 1) 0 ≡ 10 → take (length l - 1) l ≡ bare_line l
unfolding bare_line
bare_cut l h = rw (eq-eqb (get_or l (length l - 1) 0) 10 h)
