-- Reach by a path: by joins, by wider paths, by simple paths, and between value-equal nodes.
use Rattle.std.specs.Prelude.{ℕ, ◌<◌, ◌≡◌, refl, T}
use Rattle.std.proofs.Common.{subst}
use mathlib.Core.List.{List, [], ◌++◌}
use Rattle.meaning.specs.Paths.{Class, join, simple}
use Rattle.meaning.specs.Trees.{Table, IsTree, Down, here, Reached, Equal}
use Rattle.theory_paths.specs.Words.{Word, member→word, word→member, word_refl, word_split, word_trans}
use Rattle.theory_paths.specs.Normal.{word_join, word_join→}
use Rattle.theory_paths.specs.Simple.{simple_word}
use Rattle.theory_trees.specs.Below.{down_append, down_split, down_inside, rigid_node}
use Rattle.theory_trees.specs.Laws.{equal_down}

-- The node on the way from v to x, after P and before Q
pub record ReachedWay (t : Table) (v : ℕ) (P Q : List ℕ) (x : ℕ) : Type 0 where
  pub node : ℕ
  pub above : Reached t v P node
  pub below : Reached t node Q x

module _ {t : Table} where
  pub reached_by : {v w : ℕ} {run path : List ℕ} → Down t v run w → Word path run → Reached t v path w
  reached_by {run = run} {path = path} d h = record { run = run; down = d; word = word→member path run h }

  pub reached_word : {v w : ℕ} {path : List ℕ} (r : Reached t v path w) → Word path r.run
  reached_word {path = path} r = member→word path r.run r.word

  -- each symbol of the run taken by itself
  pub reached_run : {v w : ℕ} {run : List ℕ} → Down t v run w → Reached t v run w
  reached_run {run = run} d = reached_by d (word_refl run)

  -- "The empty path reaches v."
  pub reached_self : (v : ℕ) → Reached t v [] v
  reached_self v = reached_run (here refl)

  pub reached_empty : {v w : ℕ} → Reached t v [] w → v ≡ w
  unfolding Word
  reached_empty {v} {w} r = ends (subst (λ (run : List ℕ). Down t v run w) (reached_word r) r.down)
    where
      ends : Down t v [] w → v ≡ w
      ends (here p) = p

  pub reached_append : {v w x : ℕ} {P Q : List ℕ} → Reached t v P w → Reached t w Q x → Reached t v (join P Q) x
  reached_append {P = P} {Q = Q} r s =
      reached_by (down_append r.down s.down) (word_join P Q r.run s.run (reached_word r) (reached_word s))

  pub reached_append_split : {v x : ℕ} (P Q : List ℕ) → Reached t v (P ++ Q) x → ReachedWay t v P Q x
  reached_append_split {v} {x} P Q r =
      let (u, w, e, h, k) = word_split P Q r.run (reached_word r) in
      let way = down_split u w (subst (λ (run : List ℕ). Down t v run x) e r.down) in
      record { node = way.node; above = reached_by way.above h; below = reached_by way.below k }

  pub reached_split : {v x : ℕ} (P Q : List ℕ) → Reached t v (join P Q) x → ReachedWay t v P Q x
  reached_split P Q r = reached_append_split P Q (reached_by r.down (word_join→ P Q r.run (reached_word r)))

  -- by a wider path: P, read as a run, is a word of Q
  pub reached_wider : {v w : ℕ} {P Q : List ℕ} → Word Q P → Reached t v P w → Reached t v Q w
  reached_wider {P = P} {Q = Q} h r = reached_by r.down (word_trans P Q r.run h (reached_word r))

  pub reached_inside : {v w : ℕ} {path : List ℕ} → Reached t v path w → v < t.size → w < t.size
  reached_inside r h = down_inside r.down h

  -- a simple path is its own only word
  pub reached_down : {v w : ℕ} (p : List ℕ) → T (simple p) → Reached t v p w → Down t v p w
  reached_down {v} {w} p s r = subst (λ (run : List ℕ). Down t v run w) (simple_word p r.run s (reached_word r)) r.down

  -- "x reached by p from a and from b, p simple, gives a = b"
  pub reached_rigid : {a b x : ℕ} (p : List ℕ) → T (simple p) → Reached t a p x → Reached t b p x → a ≡ b
  reached_rigid p s r k = rigid_node (reached_down p s r) (reached_down p s k) refl

-- Law 3 along a path: what is reached from one of two equal nodes has its equal below the other
pub record ReachedMate (κ : ℕ → Class) (t : Table) (b : ℕ) (path : List ℕ) (x : ℕ) : Type 0 where
  pub node : ℕ
  pub reached : Reached t b path node
  pub equal : Equal κ t x node

pub equal_reached : {κ : ℕ → Class} {t : Table} → IsTree κ t → {a b x : ℕ} {path : List ℕ} → Equal κ t a b → Reached t a path x
    → ReachedMate κ t b path x
equal_reached tree e r =
    let m = equal_down tree e r.down in
    record { node = m.node; reached = record { run = r.run; down = m.down; word = r.word }; equal = m.equal }
