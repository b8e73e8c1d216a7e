-- What the steps leave in the rows of a tree.
use Rattle.std.specs.Prelude.{ℕ, ◌+◌, ◌<◌, ◌≤◌, ◌≡◌, refl, List, length, get_or, set}
use Rattle.std.proofs.Common.{◌∙◌, subst, arith, length-set, get_or-set_same, get_or-set_other}
use Rattle.meaning.specs.Paths.{Class}
use Rattle.meaning.specs.Trees.{Table}
use Rattle.tree_table.specs.FileTable.{file_table, class_by, TreeBytes}
use Rattle.tree_table.specs.LinkedTree.{parents_smaller, bytes_tree}
use Rattle.tree_rows.specs.declared.rows.Rows.{Rows}
use Rattle.tree_rows.specs.Families.{Families, FamiliesFrom}
use Rattle.tree_groups.specs.Leaders.{families_all}
use Rattle.tree_groups.specs.Lowest.{NamedTo, named_step}

-- Every table but that of the families stands as before
pub record OnlyFamilies (old new : Rows) : Type 0 where
  pub parent : new.parent ≡ old.parent
  pub label : new.label ≡ old.label
  pub first : new.first ≡ old.first
  pub next : new.next ≡ old.next
  pub same : new.same ≡ old.same

-- before any family is known but that of the root
pub families_start : (κ : ℕ → Class) (t : Table) (n : ℕ) (family : List ℕ) → n ≡ t.size → length family ≡ 4096 → FamiliesFrom κ t (set family 0 0) n
families_start κ t n family e l =
    record {
      long = length-set family 0 0 ∙ l;
      root = get_or-set_same family 0 0 0 (omega arith);
      above = λ u h g. absurd (omega arith);
      inside = λ u h g. absurd (omega arith);
      self = λ u h g. absurd (omega arith);
      equal = λ u h g. absurd (omega arith);
      one = λ u v h g. absurd (omega arith);
    }

-- What `gather` gives
pub record Gathered (classes tree : List ℕ) (old new : Rows) : Type 0 where
  pub families : Families (class_by classes) (file_table tree) new.family
  pub root : get_or new.family 0 0 ≡ 0
  pub only : OnlyFamilies old new

pub gathered_so : (classes tree : List ℕ) (old new : Rows) (i : ℕ) → TreeBytes classes tree → i ≤ 1
    → FamiliesFrom (class_by classes) (file_table tree) new.family i → OnlyFamilies old new → Gathered classes tree old new
gathered_so classes tree old new i b h c o =
    record {
      families = families_all (class_by classes) (file_table tree) (bytes_tree b) new.family i h c (parents_smaller b);
      root = c.root;
      only = o;
    }

-- In place: the nodes from n on still have the number they had
pub record Naming (low old new : List ℕ) (n : ℕ) : Type 0 where
  pub named : NamedTo old low new n
  pub left : (v : ℕ) → n ≤ v → get_or new v 0 ≡ get_or old v 0

pub naming_none : (low old : List ℕ) → length old ≡ 4096 → get_or old 0 0 ≡ 0 → Naming low old old 1
naming_none low old l z = record { named = record { long = l; root = z; each = λ x p h. absurd (omega arith) }; left = λ v h. refl }

pub naming_step : (low old new : List ℕ) (n own : ℕ) → 0 < n → n < 4096 → own ≡ get_or new n 0 → Naming low old new n
    → Naming low old (set new n (get_or low own 0)) (n + 1)
naming_step low old new n own p h e s =
    record {
      named = named_step old low new n own p h (e ∙ s.left n (omega arith)) s.named;
      left = λ v g. get_or-set_other new n v (get_or low own 0) 0 (λ z. omega arith) ∙ s.left v (omega arith);
    }

pub named_so : (low old new : List ℕ) (count n : ℕ) → count ≤ n → n ≤ count → Naming low old new n → NamedTo old low new count
named_so low old new count n h g s = let e : n ≡ count = omega arith in subst (NamedTo old low new) e s.named
