-- The family of each node: a number that value-equal nodes share and no others.
use Rattle.std.specs.Prelude.{ℕ, ◌<◌, ◌≤◌, ◌≡◌, eqb, List, length, get_or}
use Rattle.std.proofs.Common.{sym, ◌∙◌, subst, eqb-true}
use Rattle.std.proofs.lemmas.Bool.{eqb-false}
use Rattle.meaning.specs.Paths.{Class}
use Rattle.meaning.specs.Trees.{Table, Equal}
use Rattle.theory_trees.specs.Laws.{equal_symmetric, equal_transitive}
use Rattle.tree_table.specs.Tells.{Tells}

pub record Families (κ : ℕ → Class) (t : Table) (family : List ℕ) : Type 0 where
  pub inside : (x : ℕ) → x < t.size → get_or family x 0 < t.size
  pub same : (x y : ℕ) → x < t.size → y < t.size → get_or family x 0 ≡ get_or family y 0 → Equal κ t x y
  pub equal : (x y : ℕ) → x < t.size → y < t.size → Equal κ t x y → get_or family x 0 ≡ get_or family y 0

-- The family of a node is the smallest node equal to it
pub record Smallest (κ : ℕ → Class) (t : Table) (family : List ℕ) : Type 0 where
  pub equal : (x : ℕ) → x < t.size → Equal κ t (get_or family x 0) x
  pub least : (x y : ℕ) → x < t.size → y < t.size → Equal κ t x y → get_or family x 0 ≤ y

-- The families of the nodes from number i on
pub record FamiliesFrom (κ : ℕ → Class) (t : Table) (family : List ℕ) (i : ℕ) : Type 0 where
  pub long : length family ≡ 4096
  pub root : get_or family 0 0 ≡ 0
  pub above : (u : ℕ) → i ≤ u → u < t.size → u ≤ get_or family u 0
  pub inside : (u : ℕ) → i ≤ u → u < t.size → get_or family u 0 < t.size
  pub self : (u : ℕ) → i ≤ u → u < t.size → get_or family (get_or family u 0) 0 ≡ get_or family u 0
  pub equal : (u : ℕ) → i ≤ u → u < t.size → Equal κ t (get_or family u 0) u
  pub one : (u v : ℕ) → i ≤ u → u < t.size → i ≤ v → v < t.size → Equal κ t u v → get_or family u 0 ≡ get_or family v 0

-- where both are known, the families decide
pub families_tell : (κ : ℕ → Class) (t : Table) (family : List ℕ) (i x y c d : ℕ) → FamiliesFrom κ t family i → i ≤ x → x < t.size → i ≤ y → y < t.size
    → c ≡ get_or family x 0 → d ≡ get_or family y 0 → Tells (Equal κ t x y) (eqb c d)
families_tell κ t family i x y c d k a h b g e f =
    record {
      yes = λ r.
          equal_transitive (equal_symmetric (k.equal x a h))
          (subst (λ (n : ℕ). Equal κ t n y) (sym (sym e ∙ eqb-true c d r ∙ f)) (k.equal y b g));
      no = λ r q. eqb-false c d r (e ∙ k.one x y a h b g q ∙ sym f);
    }
