-- Each key path has a value-equal pair below two nodes.
use Rattle.std.specs.Prelude.{ℕ, zero, suc, ◌+◌, ◌<◌, ◌≤◌, ◌≡◌, refl, Bool, true, false, ◌&&◌, List, [], ◌∷◌, T, length, get_or}
use Rattle.std.proofs.Common.{sym, subst, true≢false, arith}
use Rattle.std.proofs.lemmas.Bool.{false≢true}
use Rattle.std.proofs.Math.Decide.{ℕ_discrete}
use Rattle.meaning.specs.Lists.{Each, end, also, every}
use Rattle.meaning.specs.Paths.{Class, simple}
use Rattle.meaning.specs.Trees.{Table}
use Rattle.meaning.specs.Keys.{EqualPair}
use Rattle.tree_table.specs.Tells.{Tells}

-- each of a list, by their numbers
module _ {Q : List ℕ → Type 0} where
  pub each_all : (l : List (List ℕ)) → ((i : ℕ) → i < length l → Q (get_or l i [])) → Each Q l
  each_all [] h = end
  each_all (x ∷ l) h = also (h 0 (omega arith)) (each_all l (λ i g. h (suc i) (omega arith)))

  pub each_one : {l : List (List ℕ)} → Each Q l → (i : ℕ) → i < length l → Q (get_or l i [])
  each_one end i h = absurd (omega arith)
  each_one (also q w) zero h = q
  each_one (also q w) (suc i) h = each_one w i (omega arith)

pub simple_at : (l : List (List ℕ)) → T (every simple l) → (i : ℕ) → i < length l → T (simple (get_or l i []))
unfolding every
simple_at [] s i h = absurd (omega arith)
simple_at (x ∷ l) s i h = go (simple x) refl s i h (simple_at l)
  where
    go : (b : Bool) → simple x ≡ b → T (b && every simple l) → (i : ℕ) → i < suc (length l)
        → (T (every simple l) → (i : ℕ) → i < length l → T (simple (get_or l i []))) → T (simple (get_or (x ∷ l) i []))
    go true e s zero h f = subst T (sym e) tt
    go true e s (suc i) h f = f s i (omega arith)
    go false e s i h f = absurd s

-- Up to number i each key path has a pair
pub record Agree (κ : ℕ → Class) (t : Table) (a b : ℕ) (paths : List (List ℕ)) (i : ℕ) : Type 0 where
  pub each : (k : ℕ) → k < i → EqualPair κ t a b (get_or paths k [])

module _ (κ : ℕ → Class) (t : Table) (a b : ℕ) (paths : List (List ℕ)) where
  pub agree_none : Agree κ t a b paths 0
  agree_none = record { each = λ k h. absurd (omega arith) }

  pub agree_more : (i : ℕ) (r : Bool) → Agree κ t a b paths i → Tells (EqualPair κ t a b (get_or paths i [])) r → r ≡ true
      → Agree κ t a b paths (i + 1)
  agree_more i r g d e = record { each = λ k h. go k h (ℕ_discrete k i) }
    where
      go : (k : ℕ) → k < i + 1 → Dec (k ≡ i) → EqualPair κ t a b (get_or paths k [])
      go k h (yes z) = subst (λ (n : ℕ). EqualPair κ t a b (get_or paths n [])) (sym z) (d.yes e)
      go k h (no n) = g.each k (omega arith)

  pub agree_all : (i : ℕ) → length paths ≤ i → Agree κ t a b paths i → Tells (Each (EqualPair κ t a b) paths) true
  agree_all i h g = record { yes = λ e. each_all paths (λ k l. g.each k (omega arith)); no = λ e. absurd (true≢false e) }

  pub agree_fails : (i : ℕ) (r : Bool) → i < length paths → Tells (EqualPair κ t a b (get_or paths i [])) r → r ≡ false
      → Tells (Each (EqualPair κ t a b) paths) false
  agree_fails i r h d e = record { yes = λ f. absurd (false≢true f); no = λ f w. d.no e (each_one w i h) }
