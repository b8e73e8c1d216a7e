-- What lies above a node.
use Rattle.std.specs.Prelude.{ℕ, ◌≡◌, List, [], ◌∷◌}
use Rattle.std.proofs.Common.{arith}
use Rattle.meaning.specs.Trees.{Table, Down, here, step}
use Rattle.theory_trees.specs.Climb.{last_step}

-- v is n or lies above it
pub record Above (t : Table) (v n : ℕ) : Type 0 where
  pub run : List ℕ
  pub down : Down t v run n

module _ {t : Table} where
  pub above_parent : {v n : ℕ} → (v ≡ n → ⊥) → Above t v n → Above t v (t.parent n)
  above_parent {v} {n} h a = go a.run a.down
    where
      go : (run : List ℕ) → Down t v run n → Above t v (t.parent n)
      go [] (here p) = absurd (h p)
      go (l ∷ run) (step x c e d) = let k = last_step x c e d in record { run = k.front; down = k.down }

  pub above_root : {v n : ℕ} → n ≡ 0 → Above t v n → v ≡ n
  above_root {v} {n} z a = go a.run a.down
    where
      go : (run : List ℕ) → Down t v run n → v ≡ n
      go [] (here p) = p
      go (l ∷ run) (step x c e d) = let k = (last_step x c e d).not_root in absurd (omega arith)
