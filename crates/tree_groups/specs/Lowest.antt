-- "the family of a node is the smallest node equal to it": each family, found under one of its nodes, is named by its smallest.
use Rattle.std.specs.Prelude.{ℕ, ◌+◌, ◌-◌, ◌<◌, ◌≤◌, ◌≡◌, List, length, get_or, set}
use Rattle.std.proofs.Common.{sym, ◌∙◌, ap, subst, arith, length-set, get_or-set_same, get_or-set_other}
use Rattle.std.proofs.Math.Decide.{ℕ_discrete}
use Rattle.meaning.specs.Paths.{Class}
use Rattle.meaning.specs.Trees.{Table, IsTree, Equal}
use Rattle.theory_trees.specs.Below.{ParentsSmaller}
use Rattle.theory_trees.specs.Laws.{equal_symmetric, equal_reflexive}
use Rattle.tree_table.specs.FileTable.{file_table, class_by, TreeBytes}
use Rattle.tree_table.specs.LinkedTree.{parents_smaller, bytes_tree}
use Rattle.tree_rows.specs.Families.{Families, Smallest}
use Rattle.tree_groups.specs.Leaders.{apart}

-- l is the smallest of the nodes from i on that are of the family of u
pub record IsLow (family : List ℕ) (i u l : ℕ) : Type 0 where
  pub from : i ≤ l
  pub most : l ≤ u
  pub same : get_or family l 0 ≡ get_or family u 0

-- of each family its smallest node among those from i on
pub record LowFrom (family low : List ℕ) (count i : ℕ) : Type 0 where
  pub long : length low ≡ 4096
  pub each : (u : ℕ) → i ≤ u → u < count → IsLow family i u (get_or low (get_or family u 0) 0)

pub low_none : (family low : List ℕ) (count : ℕ) → length low ≡ 4096 → LowFrom family low count count
low_none family low count l = record { long = l; each = λ u h g. absurd (omega arith) }

pub low_step : (family low : List ℕ) (count j own : ℕ) → 1 < j → j ≤ count → own ≡ get_or family (j - 1) 0 → own < 4096 → LowFrom family low count j
    → LowFrom family (set low own (j - 1)) count (j - 1)
low_step family low count j own h g e b f =
    record { long = length-set low own (j - 1) ∙ f.long; each = λ u k l. go u k l (ℕ_discrete (get_or family u 0) own) }
  where
    go : (u : ℕ) → j - 1 ≤ u → u < count → Dec (get_or family u 0 ≡ own) → IsLow family (j - 1) u (get_or (set low own (j - 1)) (get_or family u 0) 0)
    go u k l (yes c) =
        let n : get_or (set low own (j - 1)) (get_or family u 0) 0 ≡ j - 1 =
        ap (λ (m : ℕ). get_or (set low own (j - 1)) m 0) c ∙ get_or-set_same low own (j - 1) 0 (let s = f.long in omega arith) in
        subst (IsLow family (j - 1) u) (sym n) (record { from = omega arith; most = k; same = sym e ∙ sym c })
    go u k l (no c) =
        let m : u ≡ j - 1 → ⊥ = λ q. c (ap (λ (n : ℕ). get_or family n 0) q ∙ sym e) in
        let old = f.each u (later m) l in
        subst (IsLow family (j - 1) u) (sym (get_or-set_other low own (get_or family u 0) (j - 1) 0 c))
        (record { from = let o = old.from in omega arith; most = old.most; same = old.same })
      where
        later : (u ≡ j - 1 → ⊥) → j ≤ u
        later m = omega arith

pub low_all : (family low : List ℕ) (count i : ℕ) → i ≤ 1 → 0 < i → LowFrom family low count i → LowFrom family low count 1
low_all family low count i h p f = let e : i ≡ 1 = omega arith in subst (LowFrom family low count) e f

-- the nodes up to number n have their family by its smallest node
pub record NamedTo (family low named : List ℕ) (n : ℕ) : Type 0 where
  pub long : length named ≡ 4096
  pub root : get_or named 0 0 ≡ 0
  pub each : (x : ℕ) → 0 < x → x < n → get_or named x 0 ≡ get_or low (get_or family x 0) 0

pub named_step : (family low named : List ℕ) (n own : ℕ) → 0 < n → n < 4096 → own ≡ get_or family n 0 → NamedTo family low named n
    → NamedTo family low (set named n (get_or low own 0)) (n + 1)
named_step family low named n own p h e f =
    let v = get_or low own 0 in
    record {
      long = length-set named n v ∙ f.long;
      root = get_or-set_other named n 0 v 0 (λ q. omega arith) ∙ f.root;
      each = λ x q g. go x q g (ℕ_discrete x n);
    }
  where
    go : (x : ℕ) → 0 < x → x < n + 1 → Dec (x ≡ n) → get_or (set named n (get_or low own 0)) x 0 ≡ get_or low (get_or family x 0) 0
    go x q g (yes c) =
        ap (λ (k : ℕ). get_or (set named n (get_or low own 0)) k 0) c ∙ get_or-set_same named n (get_or low own 0) 0 (let l = f.long in omega arith)
        ∙ ap (λ (k : ℕ). get_or low k 0) (e ∙ sym (ap (λ (k : ℕ). get_or family k 0) c))
    go x q g (no c) = get_or-set_other named n x (get_or low own 0) 0 c ∙ f.each x q (omega arith)

module _ (κ : ℕ → Class) (t : Table) (tree : IsTree κ t) (small : ParentsSmaller t) (family low named : List ℕ) (c : Families κ t family)
    (f : LowFrom family low t.size 1) (s : NamedTo family low named t.size) where
  low_of : (x : ℕ) → 0 < x → x < t.size → IsLow family 1 x (get_or named x 0)
  low_of x p h = subst (IsLow family 1 x) (sym (s.each x p h)) (f.each x (omega arith) h)

  zero_named : (x : ℕ) → x ≡ 0 → get_or named x 0 ≡ 0
  zero_named x z = ap (λ (k : ℕ). get_or named k 0) z ∙ s.root

  same_named : (x y : ℕ) → 0 < x → x < t.size → 0 < y → y < t.size → get_or family x 0 ≡ get_or family y 0 → get_or named x 0 ≡ get_or named y 0
  same_named x y p h q g e = s.each x p h ∙ ap (λ (k : ℕ). get_or low k 0) e ∙ sym (s.each y q g)

  pub smallest : Smallest κ t named
  smallest = record { equal = λ x h. stands x h (ℕ_discrete x 0); least = λ x y h g q. lowest x y h g q (ℕ_discrete x 0) (ℕ_discrete y 0) }
    where
      stands : (x : ℕ) → x < t.size → Dec (x ≡ 0) → Equal κ t (get_or named x 0) x
      stands x h (yes z) = subst (λ (k : ℕ). Equal κ t k x) (z ∙ sym (zero_named x z)) (equal_reflexive small x)
      stands x h (no m) =
          let l = low_of x (omega arith) h in
          c.same (get_or named x 0) x (let a = l.most in omega arith) h l.same

      lowest : (x y : ℕ) → x < t.size → y < t.size → Equal κ t x y → Dec (x ≡ 0) → Dec (y ≡ 0) → get_or named x 0 ≤ y
      lowest x y h g q (yes z) d = let e = zero_named x z in omega arith
      lowest x y h g q (no m) (yes w) = absurd (apart κ t tree x (omega arith) h y w (equal_symmetric q))
      lowest x y h g q (no m) (no k) =
          let e = same_named x y (omega arith) h (omega arith) g (c.equal x y h g q) in
          let l = (low_of y (omega arith) g).most in
          omega arith

  pub named_families : Families κ t named
  named_families =
      record {
        inside = λ x h. let l = smallest.least x x h h (equal_reflexive small x) in omega arith;
        same = λ x y h g e. alike x y h g e (ℕ_discrete x 0) (ℕ_discrete y 0);
        equal = λ x y h g q. one x y h g q (ℕ_discrete x 0) (ℕ_discrete y 0);
      }
    where
      alike : (x y : ℕ) → x < t.size → y < t.size → get_or named x 0 ≡ get_or named y 0 → Dec (x ≡ 0) → Dec (y ≡ 0) → Equal κ t x y
      alike x y h g e (yes z) (yes w) = subst (Equal κ t x) (z ∙ sym w) (equal_reflexive small x)
      alike x y h g e (yes z) (no m) = absurd (let a = zero_named x z in let b = (low_of y (omega arith) g).from in omega arith)
      alike x y h g e (no m) (yes w) = absurd (let a = zero_named y w in let b = (low_of x (omega arith) h).from in omega arith)
      alike x y h g e (no m) (no k) =
          c.same x y h g
          (sym (low_of x (omega arith) h).same ∙ ap (λ (j : ℕ). get_or family j 0) e ∙ (low_of y (omega arith) g).same)

      one : (x y : ℕ) → x < t.size → y < t.size → Equal κ t x y → Dec (x ≡ 0) → Dec (y ≡ 0) → get_or named x 0 ≡ get_or named y 0
      one x y h g q (yes z) (yes w) = ap (λ (k : ℕ). get_or named k 0) (z ∙ sym w)
      one x y h g q (yes z) (no m) = absurd (apart κ t tree y (omega arith) g x z q)
      one x y h g q (no m) (yes w) = absurd (apart κ t tree x (omega arith) h y w (equal_symmetric q))
      one x y h g q (no m) (no k) = same_named x y (omega arith) h (omega arith) g (c.equal x y h g q)

-- what the two loops ask
pub count_fits : {classes tree family : List ℕ} {count : ℕ} → TreeBytes classes tree → Families (class_by classes) (file_table tree) family
    → count ≡ (file_table tree).size → (0 < count) × (count ≤ 4096) × ((x : ℕ) → x < count → get_or family x 0 < count)
count_fits b c e = (let s = b.some in omega arith, let f = b.few in omega arith, λ x h. let g = c.inside x (omega arith) in omega arith)

-- and what they give
pub families_named : {classes tree family low named : List ℕ} {count : ℕ} → TreeBytes classes tree → Families (class_by classes) (file_table tree) family
    → count ≡ (file_table tree).size → LowFrom family low count 1 → NamedTo family low named count
    → Families (class_by classes) (file_table tree) named × Smallest (class_by classes) (file_table tree) named
families_named {family = family} {low} {named} b c e f s =
    let g = subst (λ (n : ℕ). LowFrom family low n 1) e f in
    let h = subst (NamedTo family low named) e s in
    (named_families _ _ (bytes_tree b) (parents_smaller b) family low named c g h, smallest _ _ (bytes_tree b) (parents_smaller b) family low named c g h)
