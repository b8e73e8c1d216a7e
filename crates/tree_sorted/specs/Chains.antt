-- The nodes of one number chained; and all that the search takes.
use Rattle.std.specs.Prelude.{ℕ, ◌+◌, ◌<◌, ◌≤◌, ◌≡◌, T, length, get_or}
use Rattle.std.proofs.Common.{sym, ◌∙◌, subst, arith, get_or-set_same, get_or-set_other}
use Rattle.std.proofs.Math.Path.{ap}
use mathlib.Core.List.{List, []}
use Rattle.std.proofs.Math.Decide.{ℕ_discrete}
use Rattle.std.proofs.Math.ListN.{set}
use Rattle.meaning.specs.Paths.{Class, simple}
use Rattle.meaning.specs.Trees.{Table, IsTree}
use Rattle.meaning.specs.Keys.{Key}
use Rattle.theory_trees.specs.Below.{tree_smaller}
use Rattle.tree_table.specs.Links.{Linked}
use Rattle.tree_rows.specs.Families.{Families}
use Rattle.tree_rows.specs.Chain.{by_family}
use Rattle.tree_rows.specs.Hung.{HungIn, HungAll, none_hung}
use Rattle.tree_rows.specs.declared.hung.Hung as lists
use Rattle.tree_sorted.specs.declared.sorted.Sorted.{Sorted}
use Rattle.tree_sorted.specs.Numbers.{NumberedTo}
use Rattle.tree_sorted.specs.Sorted.{Stays}
use Rattle.tree_sorted.specs.Groups.{Grouped, Numbered, numbered_path, adopt_grouped}
use Rattle.tree_sorted.specs.Hung.{HungFrom}
use Rattle.tree_sorted.specs.Adopting.{NumbersStay, AdoptedTo, adopted_path, hung_lists}

-- Contexts stay
pub record TopsStay (old new : Sorted) : Type 0 where
  pub tops : new.top ≡ old.top

pub tops_both : (old mid new : Sorted) → TopsStay old mid → TopsStay mid new → TopsStay old new
tops_both old mid new s r = record { tops = r.tops ∙ s.tops }

pub tops_of_groups : (old new : Sorted) → Stays old new → TopsStay old new
tops_of_groups old new s = record { tops = s.tops }

pub tops_of_numbers : (old new : Sorted) → NumbersStay old new → TopsStay old new
tops_of_numbers old new s = record { tops = s.tops }

-- Contexts, groups and numbers stay
pub record ChainStays (old new : Sorted) : Type 0 where
  pub tops : new.top ≡ old.top
  pub groups : new.group ≡ old.group
  pub numbers : new.number ≡ old.number

-- no number has a node yet
pub record ClearTo (lead : List ℕ) (n : ℕ) : Type 0 where
  pub zeros : (v : ℕ) → v < n → get_or lead v 0 ≡ 0

pub clear_none : (lead : List ℕ) → ClearTo lead 0
clear_none lead = record { zeros = λ v h. absurd (omega arith) }

pub clear_step : (lead : List ℕ) (n : ℕ) → n < 4096 → length lead ≡ 4096 → ClearTo lead n → ClearTo (set lead n 0) (n + 1)
clear_step lead n h long s = record { zeros = λ v g. go v g (ℕ_discrete v n) }
  where
    go : (v : ℕ) → v < n + 1 → Dec (v ≡ n) → get_or (set lead n 0) v 0 ≡ 0
    go v g (yes e) = ap (λ (k : ℕ). get_or (set lead n 0) k 0) e ∙ get_or-set_same lead n 0 0 (omega arith)
    go v g (no m) = get_or-set_other lead n v 0 0 m ∙ s.zeros v (omega arith)

-- chained by the numbers as they stood before
pub chain_all : (count : ℕ) (lead chain : List ℕ) (old mid : Sorted) → ChainStays old mid → Linked (by_family count mid.number) lead chain
    → Linked (by_family count old.number) lead chain
chain_all count lead chain old mid s h = subst (λ (l : List ℕ). Linked (by_family count l) lead chain) s.numbers h

-- The targets of a key sorted for the search: what the pivot's nodes are numbered by, and the chain of each number
pub record SortedBy (κ : ℕ → Class) (t : Table) (key : Key) (family : List ℕ) (sorted : Sorted) (pivot : ℕ) : Type 0 where
  pub within : pivot < length key.paths
  pub grouped : Grouped κ t key sorted.group
  pub numbered : Numbered t family sorted.group (get_or key.paths pivot []) sorted.number
  pub chained : Linked (by_family t.size sorted.number) sorted.lead sorted.chain

module _ (κ : ℕ → Class) (t : Table) (key : Key) (family : List ℕ) (hung : List lists.Hung) (tree : IsTree κ t) (few : t.size ≤ 4096)
    (families : Families κ t family) (all : HungAll t key.paths hung) (i : ℕ) (within : i < length key.paths) where
  abbrev list : lists.Hung
  list = get_or hung i none_hung

  hangs : HungIn t (get_or key.paths i []) list
  hangs = all.each i within

  pub numbered_at : (old new : Sorted) → Stays old new
      → NumberedTo t.size family (get_or hung i none_hung).from old.group new.number new.stamp t.size
      → Numbered t family new.group (get_or key.paths i []) new.number
  numbered_at old new s n =
      numbered_path t family new.group (get_or key.paths i []) list.from list.first list.next new.number new.stamp (tree_smaller tree) few
      families.inside hangs (subst (λ (g : List ℕ). NumberedTo t.size family list.from g new.number new.stamp t.size) (sym s.groups) n)

  -- a single-valued path refines the groups
  pub refined : T (simple (get_or key.paths i [])) → (old mid new : Sorted) (count n : ℕ) → count ≡ t.size → count ≤ n → Stays old mid
      → NumberedTo t.size family (get_or hung i none_hung).from old.group mid.number mid.stamp t.size
      → AdoptedTo count (get_or hung i none_hung).from mid.group mid.number new.group n → Grouped κ t key old.group → Grouped κ t key new.group
  refined simple old mid new count n e all s num ad g =
      adopt_grouped κ t key tree i within simple family mid.group mid.number new.group families
      (subst (Grouped κ t key) (sym s.groups) g) (numbered_at old mid s num)
      (adopted_path t (get_or key.paths i []) list.from list.first list.next mid.group mid.number new.group n (tree_smaller tree) (omega arith) hangs
      (subst (λ (m : ℕ). AdoptedTo m list.from mid.group mid.number new.group n) e ad))

  -- all together
  pub sorted_so : (old mid new : Sorted) (count : ℕ) → count ≡ t.size → Stays old mid
      → NumberedTo t.size family (get_or hung i none_hung).from old.group mid.number mid.stamp t.size → Grouped κ t key old.group
      → ChainStays mid new → Linked (by_family count mid.number) new.lead new.chain → SortedBy κ t key family new i
  sorted_so old mid new count e s num g c l =
      record {
        within = within;
        grouped = subst (Grouped κ t key) (sym (c.groups ∙ s.groups)) g;
        numbered = subst (λ (r : List ℕ). Numbered t family r (get_or key.paths i []) new.number) (sym c.groups)
            (subst (Numbered t family mid.group (get_or key.paths i [])) (sym c.numbers) (numbered_at old mid s num));
        chained = subst (λ (r : List ℕ). Linked (by_family t.size r) new.lead new.chain) (sym c.numbers)
            (subst (λ (m : ℕ). Linked (by_family m mid.number) new.lead new.chain) e l);
      }

-- the lists of key path i, for as many nodes as the code counts
pub lists_count : {t : Table} {paths : List (List ℕ)} {hung : List lists.Hung} {i count : ℕ} → HungAll t paths hung → i < length paths
    → count ≡ t.size → HungFrom count (get_or hung i none_hung).from (get_or hung i none_hung).first (get_or hung i none_hung).next 1
lists_count {t} {paths} {hung} {i} {count} h w e =
    let list = get_or hung i none_hung in
    subst (λ (n : ℕ). HungFrom n list.from list.first list.next 1) (sym e)
    (hung_lists t (get_or paths i []) list.from list.first list.next (h.each i w))

pub grouped_stays : {κ : ℕ → Class} {t : Table} {key : Key} {old new : Sorted} → Stays old new → Grouped κ t key old.group
    → Grouped κ t key new.group
grouped_stays {κ} {t} {key} s g = subst (Grouped κ t key) (sym s.groups) g

pub tops_of_chain : (old new : Sorted) → ChainStays old new → TopsStay old new
tops_of_chain old new s = record { tops = s.tops }
