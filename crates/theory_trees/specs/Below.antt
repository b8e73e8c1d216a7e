-- Runs of labels in a table (`Down`): they append, they split, and their lower end fixes them.
use Rattle.std.specs.Prelude.{ℕ, zero, suc, ◌<◌, ◌≤◌, ◌+◌, ◌≡◌, length}
use Rattle.std.proofs.Math.Path.{refl, sym, ap, ap₂}
use Rattle.std.proofs.Common.{◌∙◌}
use mathlib.Core.List.{List, [], ◌∷◌, ◌++◌}
use native.Mathlib.Omega.{arith}
use Rattle.meaning.specs.Paths.{Class}
use Rattle.meaning.specs.Trees.{Table, IsTree, Child, Down, here, step}

-- The node on the way from v down to x, after r and before s
pub record Way (t : Table) (v : ℕ) (r s : List ℕ) (x : ℕ) : Type 0 where
  pub node : ℕ
  pub above : Down t v r node
  pub below : Down t node s x

module _ {t : Table} where
  -- a run begins at whichever number its upper end is
  pub down_from : {u v w : ℕ} {run : List ℕ} → u ≡ v → Down t v run w → Down t u run w
  down_from e (here p) = here (e ∙ p)
  down_from e (step x c l d) = step x (record { not_root = c.not_root; inside = c.inside; below = c.below ∙ sym e }) l d

  pub down_append : {v w x : ℕ} {r s : List ℕ} → Down t v r w → Down t w s x → Down t v (r ++ s) x
  down_append (here p) d = down_from p d
  down_append (step y c l r) d = step y c l (down_append r d)

  pub down_split : {v x : ℕ} (r s : List ℕ) → Down t v (r ++ s) x → Way t v r s x
  down_split {v} [] s d = record { node = v; above = here refl; below = d }
  down_split (l ∷ r) s (step y c e d) =
      let w = down_split r s d in
      record { node = w.node; above = step y c e w.above; below = w.below }

  -- a child lies below by its label
  pub down_child : {v x : ℕ} → Child t v x → Down t v (t.label x ∷ []) x
  down_child {v} {x} c = step x c refl (here refl)

-- Climbing: the node so many levels above, and the labels passed
unfoldable pub up : Table → ℕ → ℕ → ℕ
up t zero w = w
up t (suc k) w = t.parent (up t k w)

unfoldable pub labels_up : Table → ℕ → ℕ → List ℕ
labels_up t zero w = []
labels_up t (suc k) w = t.label (up t k w) ∷ labels_up t k w

module _ {t : Table} where
  pub down_up : {v w : ℕ} {run : List ℕ} → Down t v run w → up t (length run) w ≡ v
  unfolding up
  down_up (here p) = sym p
  down_up (step x c l d) = ap (λ (n : ℕ). t.parent n) (down_up d) ∙ c.below

  pub down_labels : {v w : ℕ} {run : List ℕ} → Down t v run w → labels_up t (length run) w ≡ run
  unfolding labels_up
  down_labels (here p) = refl
  down_labels (step x c l d) = ap₂ ◌∷◌ (ap (λ (n : ℕ). t.label n) (down_up d) ∙ l) (down_labels d)

  -- ARGUMENT 1, "simple paths are rigid": two runs of one length down to one node are the same, from the same node
  pub rigid_node : {v v' w : ℕ} {run run' : List ℕ} → Down t v run w → Down t v' run' w → length run ≡ length run' → v ≡ v'
  rigid_node {w} d d' e = sym (down_up d) ∙ ap (λ (k : ℕ). up t k w) e ∙ down_up d'

  pub rigid_run : {v v' w : ℕ} {run run' : List ℕ} → Down t v run w → Down t v' run' w → length run ≡ length run' → run ≡ run'
  rigid_run {w} d d' e = sym (down_labels d) ∙ ap (λ (k : ℕ). labels_up t k w) e ∙ down_labels d'

-- "A node's parent has a smaller number"
unfoldable pub ParentsSmaller : Table → Type 0
ParentsSmaller t = (n : ℕ) → 0 < n → n < t.size → t.parent n < n

pub tree_smaller : {κ : ℕ → Class} {t : Table} → IsTree κ t → ParentsSmaller t
unfolding ParentsSmaller
tree_smaller tree n positive inside = (tree.rest n positive inside).above

-- a run from a node of the table ends at one
pub down_inside : {t : Table} {v w : ℕ} {run : List ℕ} → Down t v run w → v < t.size → w < t.size
down_inside (here p) h = omega arith
down_inside (step x c l d) h = down_inside d c.inside

module _ {t : Table} (small : ParentsSmaller t) where
  pub child_greater : {v x : ℕ} → Child t v x → v < x
  unfolding ParentsSmaller
  child_greater {v} {x} c = let h = small x c.not_root c.inside in let e = c.below in omega arith

  pub down_greater : {v w : ℕ} {run : List ℕ} → Down t v run w → v + length run ≤ w
  down_greater (here p) = omega arith
  down_greater (step x c l d) = let h = child_greater c in let r = down_greater d in omega arith
