-- Two nodes that agree on every key path, with a common context.
use Rattle.std.specs.Prelude.{ℕ, ◌<◌, ◌≡◌, refl, ◌≢◌, List}
use Rattle.std.proofs.Common.{sym, ◌∙◌, ap, subst, arith}
use Rattle.std.proofs.Math.Decide.{ℕ_discrete}
use Rattle.meaning.specs.Lists.{Each, end, also}
use Rattle.meaning.specs.Paths.{Class}
use Rattle.meaning.specs.Trees.{Table, IsTree, Down, Reached, Equal}
use Rattle.meaning.specs.Keys.{Key, EqualPair}
use Rattle.theory_trees.specs.Below.{rigid_node}
use Rattle.theory_trees.specs.Laws.{equal_label, equal_symmetric}

-- A witness against the key, but for the difference of a and b
pub record Agreeing (κ : ℕ → Class) (t : Table) (key : Key) (q a b : ℕ) : Type 0 where
  pub context : Reached t 0 key.context q
  pub first : Reached t q key.target a
  pub second : Reached t q key.target b
  pub pairs : Each (EqualPair κ t a b) key.paths

pub swap_pairs : {κ : ℕ → Class} {t : Table} {a b : ℕ} {paths : List (List ℕ)} → Each (EqualPair κ t a b) paths → Each (EqualPair κ t b a) paths
swap_pairs end = end
swap_pairs (also p w) =
    also (record { x = p.y; y = p.x; from_first = p.from_second; from_second = p.from_first; equal = equal_symmetric p.equal }) (swap_pairs w)

pub swap_agreeing : {κ : ℕ → Class} {t : Table} {key : Key} {q a b : ℕ} → Agreeing κ t key q a b → Agreeing κ t key q b a
swap_agreeing g = record { context = g.context; first = g.second; second = g.first; pairs = swap_pairs g.pairs }

-- The root alone has its label, and no run of labels leads from two nodes to one: neither node of a pair below two different nodes is the root
module _ {κ : ℕ → Class} {t : Table} (tree : IsTree κ t) where
  alone : (x y : ℕ) → x ≡ 0 → 0 < y → y < t.size → Equal κ t x y → ⊥
  alone x y z p h e = (tree.rest y p h).not_root (sym (equal_label e) ∙ ap (λ (k : ℕ). t.label k) z ∙ tree.root)

  pub pair_below : (a b : ℕ) (path : List ℕ) → a ≢ b → (x y : ℕ) → Down t a path x → Down t b path y → Equal κ t x y → x < t.size → y < t.size
      → (0 < x) × (0 < y)
  pair_below a b path different x y dx dy e h g = go (ℕ_discrete x 0) (ℕ_discrete y 0)
    where
      go : Dec (x ≡ 0) → Dec (y ≡ 0) → (0 < x) × (0 < y)
      go (no n) (no m) = (omega arith, omega arith)
      go (yes z) (yes w) = absurd (different (rigid_node (subst (Down t a path) (z ∙ sym w) dx) dy refl))
      go (yes z) (no m) = absurd (alone x y z (omega arith) g e)
      go (no n) (yes w) = absurd (alone y x w (omega arith) h (equal_symmetric e))
