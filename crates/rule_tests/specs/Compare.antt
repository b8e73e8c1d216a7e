-- How a path starts.
use Rattle.std.specs.Prelude.{ℕ, zero, suc, ◌≤◌, ◌<◌, ◌≡◌, refl, true, false, List, [], ◌∷◌, length, get_or}
use Rattle.std.proofs.Common.{arith}
use Rattle.theory_rule_tests.specs.Cuts.{starts_any}

pub starts_yes : (l : List ℕ) → 1 ≤ length l → get_or l 0 0 ≡ 0 → true ≡ starts_any l
unfolding starts_any
starts_yes [] h e = absurd (omega arith)
starts_yes (zero ∷ l) h e = refl
starts_yes (suc s ∷ l) h e = absurd (omega arith)

pub starts_empty : (l : List ℕ) → length l < 1 → false ≡ starts_any l
unfolding starts_any
starts_empty [] e = refl
starts_empty (b ∷ l) e = absurd (omega arith)

pub starts_no : (l : List ℕ) → (get_or l 0 0 ≡ 0 → ⊥) → false ≡ starts_any l
unfolding starts_any
starts_no [] h = refl
starts_no (zero ∷ l) h = absurd (h refl)
starts_no (suc s ∷ l) h = refl
