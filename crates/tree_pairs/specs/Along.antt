-- Along the list of the nodes that hang under a node.
use Prim.Native.Nat.{ℕ, zero, suc, ◌+◌, ◌<◌, ◌≤◌}
use Rattle.std.specs.Prelude.{◌≡◌, List, get_or}
use Rattle.std.proofs.Common.{subst}
use native.Mathlib.Omega.{arith}
use Rattle.std.proofs.Math.Decide.{ℕ_discrete}
use Rattle.tree_table.specs.Links.{LeastChild}
use Rattle.tree_table.specs.Seek.{left, left_falls}
use Rattle.tree_rows.specs.Chain.{by_family}

-- At link y: a node of this property that hangs under v is y or a later one
pub record Along (count : ℕ) (from : List ℕ) (F : ℕ → Type 0) (v y : ℕ) : Type 0 where
  pub inside : y < count
  pub hangs : 0 < y → get_or from y 0 ≡ v
  pub later : (k : ℕ) → 0 < k → k < count → get_or from k 0 ≡ v → F k → (0 < y) × (y ≤ k)

module _ (count : ℕ) (from : List ℕ) where
  least_in : (v i r : ℕ) → 0 < count → LeastChild (by_family count from) v i r → r < count
  unfolding by_family
  least_in v i zero p l = p
  least_in v i (suc r) p l = (l.child (omega arith)).0.inside

  pub along_start : (F : ℕ → Type 0) (v r : ℕ) → 0 < count → LeastChild (by_family count from) v 1 r → Along count from F v r
  unfolding by_family
  along_start F v r some l =
      record {
        inside = least_in v 1 r some l;
        hangs = λ p. (l.child p).0.below;
        later = λ k p h e f. l.skipped k (omega arith) (record { not_root = p; inside = h; below = e });
      }

  -- the node at y has the property no more
  pub along_next : (F G : ℕ → Type 0) (v y r : ℕ) → 0 < count → Along count from F v y → LeastChild (by_family count from) v (y + 1) r
      → (G y → ⊥) → ((k : ℕ) → G k → F k) → Along count from G v r
  unfolding by_family
  along_next F G v y r some a l miss less =
      record {
        inside = least_in v (y + 1) r some l;
        hangs = λ p. (l.child p).0.below;
        later = λ k p h e g. l.skipped k (after k g (ℕ_discrete k y) (a.later k p h e (less k g)).1) (record { not_root = p; inside = h; below = e });
      }
    where
      after : (k : ℕ) → G k → Dec (k ≡ y) → y ≤ k → y + 1 ≤ k
      after k g (yes z) h = absurd (miss (subst G z g))
      after k g (no n) h = omega arith

  pub along_falls : (v y r : ℕ) → 0 < y → y < count → LeastChild (by_family count from) v (y + 1) r → left count r < left count y
  unfolding by_family
  along_falls v y r p h l = left_falls count y r p h (λ q. let g = (l.child q).1 in omega arith)
