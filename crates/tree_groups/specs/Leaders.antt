-- The families, found from the back: a node is of the family of a later node that is equal to it, or leads a family of its own. One law for
-- each return.
use Rattle.std.specs.Prelude.{ℕ, ◌+◌, ◌-◌, ◌/◌, ◌%◌, ◌<◌, ◌≤◌, ◌≡◌, Bool, true, false, List, length, get_or, set}
use Rattle.std.proofs.Common.{sym, ◌∙◌, ap, subst, arith, mod-lt, length-set, get_or-set_same, get_or-set_other}
use Rattle.std.proofs.lemmas.Bool.{false≢true}
use Rattle.std.proofs.Math.Decide.{ℕ_discrete}
use Rattle.meaning.specs.Paths.{Class}
use Rattle.meaning.specs.Trees.{Table, IsTree, Equal}
use Rattle.theory_trees.specs.Below.{ParentsSmaller}
use Rattle.theory_trees.specs.Laws.{equal_symmetric, equal_transitive, equal_reflexive, equal_label}
use Rattle.tree_table.specs.Tells.{Tells}
use Rattle.tree_table.specs.Links.{Nexts}
use Rattle.tree_weights.specs.Weights.{Weighed}
use Rattle.tree_rows.specs.Families.{Families, FamiliesFrom}
use Rattle.tree_rows.specs.Chain.{by_family, next_in}

-- The weights of the first nodes, sorted into as many buckets as there are nodes
pub record Sorted (weight bucket : List ℕ) (count n : ℕ) : Type 0 where
  pub long : length bucket ≡ 4096
  pub each : (x : ℕ) → x < n → get_or bucket x 0 ≡ get_or weight x 0 / 4096 % count

pub sorted_more : (weight bucket : List ℕ) (count n b : ℕ) → n < 4096 → Sorted weight bucket count n → b ≡ get_or weight n 0 / 4096 % count
    → Sorted weight (set bucket n b) count (n + 1)
sorted_more weight bucket count n b h s e =
    record { long = length-set bucket n b ∙ s.long; each = λ x g. go x g (ℕ_discrete x n) }
  where
    go : (x : ℕ) → x < n + 1 → Dec (x ≡ n) → get_or (set bucket n b) x 0 ≡ get_or weight x 0 / 4096 % count
    go x g (yes z) =
        ap (λ (k : ℕ). get_or (set bucket n b) k 0) z ∙ get_or-set_same bucket n b 0 (let l = s.long in omega arith) ∙ e
        ∙ sym (ap (λ (k : ℕ). get_or weight k 0 / 4096 % count) z)
    go x g (no m) = get_or-set_other bucket n x b 0 m ∙ s.each x (omega arith)

module _ (κ : ℕ → Class) (t : Table) (x y : ℕ) where
  pub weighs_other : (weight : List ℕ) → Weighed κ t weight → x < t.size → y < t.size → (get_or weight x 0 ≡ get_or weight y 0 → ⊥)
      → Tells (Equal κ t x y) false
  weighs_other weight w ix iy n = record { yes = λ h. absurd (false≢true h); no = λ h q. n (w.equal x y ix iy q) }

-- The family of x, where the later nodes have theirs
pub record FamilyIs (κ : ℕ → Class) (t : Table) (family : List ℕ) (x r : ℕ) : Type 0 where
  pub within : x ≤ r
  pub inside : r < t.size
  pub equal : Equal κ t r x
  pub self : x < r → get_or family r 0 ≡ r
  pub one : (k : ℕ) → x < k → k < t.size → Equal κ t k x → get_or family k 0 ≡ r

-- At link y of the bucket of x: a later node equal to x is y or a later one
pub record Seeking (κ : ℕ → Class) (t : Table) (bucket : List ℕ) (x y : ℕ) : Type 0 where
  pub inside : y < t.size
  pub member : 0 < y → (x < y) × (get_or bucket y 0 ≡ get_or bucket x 0)
  pub later : (k : ℕ) → x < k → k < t.size → Equal κ t x k → (0 < y) × (y ≤ k)

module _ (κ : ℕ → Class) (t : Table) (weight bucket chained : List ℕ) (w : Weighed κ t weight) (sorted : Sorted weight bucket t.size t.size)
    (links : Nexts (by_family t.size bucket) chained) where
  same_bucket : (x k : ℕ) → x < t.size → k < t.size → Equal κ t x k → get_or bucket k 0 ≡ get_or bucket x 0
  same_bucket x k h g q =
      sorted.each k g ∙ ap (λ (n : ℕ). n / 4096 % t.size) (sym (w.equal x k h g q)) ∙ sym (sorted.each x h)

  pub seeking_start : (x y : ℕ) → 0 < x → x < t.size → y ≡ get_or chained x 0 → Seeking κ t bucket x y
  seeking_start x y p h e =
      let l = next_in t.size bucket chained links x y p h e in
      record {
        inside = l.inside;
        member = l.member;
        later = λ k g i q. l.least k g i (same_bucket x k h i q);
      }

  pub seeking_next : (x y n : ℕ) (r : Bool) → x < t.size → 0 < y → Seeking κ t bucket x y → Tells (Equal κ t x y) r → r ≡ false
      → n ≡ get_or chained y 0 → Seeking κ t bucket x n
  seeking_next x y n r h p s d z e =
      let m = s.member p in
      let l = next_in t.size bucket chained links y n p s.inside e in
      record {
        inside = l.inside;
        member = λ q. let k = l.member q in (let a = m.0 in let b = k.0 in omega arith, k.1 ∙ m.1);
        later = λ k g i q. l.least k (after k g i q (ℕ_discrete k y)) i (same_bucket x k h i q ∙ sym m.1);
      }
    where
      after : (k : ℕ) → x < k → k < t.size → Equal κ t x k → Dec (k ≡ y) → y < k
      after k g i q (yes c) = absurd (d.no z (subst (Equal κ t x) c q))
      after k g i q (no c) = let b = (s.later k g i q).1 in omega arith

module _ (κ : ℕ → Class) (t : Table) (small : ParentsSmaller t) (family bucket : List ℕ) (x : ℕ) (h : x < t.size) (c : FamiliesFrom κ t family (x + 1)) where
  pub family_met : (y k : ℕ) (r : Bool) → 0 < y → Seeking κ t bucket x y → Tells (Equal κ t x y) r → r ≡ true → k ≡ get_or family y 0
      → FamilyIs κ t family x k
  family_met y k r p s d z e =
      let q = d.yes z in
      let m = (s.member p).0 in
      let i = s.inside in
      let a = c.above y (omega arith) i in
      record {
        within = omega arith;
        inside = let b = c.inside y (omega arith) i in omega arith;
        equal = equal_transitive (subst (λ (n : ℕ). Equal κ t n y) (sym e) (c.equal y (omega arith) i)) (equal_symmetric q);
        self = λ g. ap (λ (n : ℕ). get_or family n 0) e ∙ c.self y (omega arith) i ∙ sym e;
        one = λ n g j w. c.one n y (omega arith) j (omega arith) i (equal_transitive w q) ∙ sym e;
      }

  pub family_own : (y : ℕ) → y ≡ 0 → Seeking κ t bucket x y → FamilyIs κ t family x x
  family_own y z s =
      record {
        within = omega arith;
        inside = h;
        equal = equal_reflexive small x;
        self = λ g. absurd (omega arith);
        one = λ k g i q. absurd (let b = (s.later k g i (equal_symmetric q)).0 in omega arith);
      }

module _ (κ : ℕ → Class) (t : Table) (family : List ℕ) (j r : ℕ) (low : 1 < j) (high : j ≤ t.size) (few : t.size ≤ 4096)
    (c : FamiliesFrom κ t family j) (is : FamilyIs κ t family (j - 1) r) where
  now_there : get_or (set family (j - 1) r) (j - 1) 0 ≡ r
  now_there = get_or-set_same family (j - 1) r 0 (let l = c.long in omega arith)

  still : (u : ℕ) → (u ≡ j - 1 → ⊥) → get_or (set family (j - 1) r) u 0 ≡ get_or family u 0
  still u h = get_or-set_other family (j - 1) u r 0 h

  there : (u : ℕ) → u ≡ j - 1 → get_or (set family (j - 1) r) u 0 ≡ r
  there u e = ap (λ (k : ℕ). get_or (set family (j - 1) r) k 0) e ∙ now_there

  own_family : get_or (set family (j - 1) r) r 0 ≡ r
  own_family = go (ℕ_discrete r (j - 1))
    where
      go : Dec (r ≡ j - 1) → get_or (set family (j - 1) r) r 0 ≡ r
      go (yes e) = there r e
      go (no n) = still r n ∙ is.self (let w = is.within in omega arith)

  pub families_step : FamiliesFrom κ t (set family (j - 1) r) (j - 1)
  families_step =
      record {
        long = length-set family (j - 1) r ∙ c.long;
        root = still 0 (λ e. omega arith) ∙ c.root;
        above = λ u h g. up u h g (ℕ_discrete u (j - 1));
        inside = λ u h g. within u h g (ℕ_discrete u (j - 1));
        self = λ u h g. led u h g (ℕ_discrete u (j - 1));
        equal = λ u h g. alike u h g (ℕ_discrete u (j - 1));
        one = λ u v h g k l q. single u v h g k l q (ℕ_discrete u (j - 1)) (ℕ_discrete v (j - 1));
      }
    where
      up : (u : ℕ) → j - 1 ≤ u → u < t.size → Dec (u ≡ j - 1) → u ≤ get_or (set family (j - 1) r) u 0
      up u h g (yes e) = let f = there u e in let w = is.within in omega arith
      up u h g (no n) = let s = still u n in let b = c.above u (omega arith) g in omega arith

      within : (u : ℕ) → j - 1 ≤ u → u < t.size → Dec (u ≡ j - 1) → get_or (set family (j - 1) r) u 0 < t.size
      within u h g (yes e) = let f = there u e in let w = is.inside in omega arith
      within u h g (no n) = let s = still u n in let b = c.inside u (omega arith) g in omega arith

      led : (u : ℕ) → j - 1 ≤ u → u < t.size → Dec (u ≡ j - 1)
          → get_or (set family (j - 1) r) (get_or (set family (j - 1) r) u 0) 0 ≡ get_or (set family (j - 1) r) u 0
      led u h g (yes e) = ap (λ (k : ℕ). get_or (set family (j - 1) r) k 0) (there u e) ∙ own_family ∙ sym (there u e)
      led u h g (no n) =
          let s = still u n in
          let b = c.above u (omega arith) g in
          ap (λ (k : ℕ). get_or (set family (j - 1) r) k 0) s ∙ still (get_or family u 0) (λ e. omega arith) ∙ c.self u (omega arith) g ∙ sym s

      alike : (u : ℕ) → j - 1 ≤ u → u < t.size → Dec (u ≡ j - 1) → Equal κ t (get_or (set family (j - 1) r) u 0) u
      alike u h g (yes e) =
          subst (λ (k : ℕ). Equal κ t (get_or (set family (j - 1) r) k 0) k) (sym e)
          (subst (λ (k : ℕ). Equal κ t k (j - 1)) (sym now_there) is.equal)
      alike u h g (no n) = subst (λ (k : ℕ). Equal κ t k u) (sym (still u n)) (c.equal u (omega arith) g)

      single : (u v : ℕ) → j - 1 ≤ u → u < t.size → j - 1 ≤ v → v < t.size → Equal κ t u v → Dec (u ≡ j - 1) → Dec (v ≡ j - 1)
          → get_or (set family (j - 1) r) u 0 ≡ get_or (set family (j - 1) r) v 0
      single u v h g k l q (yes e) (yes f) = there u e ∙ sym (there v f)
      single u v h g k l q (yes e) (no m) =
          there u e ∙ sym (still v m ∙ is.one v (omega arith) l (equal_symmetric (subst (λ (n : ℕ). Equal κ t n v) e q)))
      single u v h g k l q (no n) (yes f) =
          still u n ∙ is.one u (omega arith) g (subst (Equal κ t u) f q) ∙ sym (there v f)
      single u v h g k l q (no n) (no m) = still u n ∙ c.one u v (omega arith) g (omega arith) l q ∙ sym (still v m)

-- the root alone has its label
pub apart : (κ : ℕ → Class) (t : Table) → IsTree κ t → (y : ℕ) → 0 < y → y < t.size → (x : ℕ) → x ≡ 0 → Equal κ t x y → ⊥
apart κ t tree y p h x z q = (tree.rest y p h).not_root (sym (equal_label q) ∙ ap (λ (k : ℕ). t.label k) z ∙ tree.root)

module _ (κ : ℕ → Class) (t : Table) (tree : IsTree κ t) (family : List ℕ) (i : ℕ) (low : i ≤ 1) (c : FamiliesFrom κ t family i) where
  pub families_all : ParentsSmaller t → Families κ t family
  families_all small =
      record {
        inside = λ x h. in_it x h (ℕ_discrete x 0);
        same = λ x y h g e. same_it x y h g e (ℕ_discrete x 0) (ℕ_discrete y 0);
        equal = λ x y h g q. equal_it x y h g q (ℕ_discrete x 0) (ℕ_discrete y 0);
      }
    where
      zero_family : (x : ℕ) → x ≡ 0 → get_or family x 0 ≡ 0
      zero_family x z = ap (λ (k : ℕ). get_or family k 0) z ∙ c.root

      in_it : (x : ℕ) → x < t.size → Dec (x ≡ 0) → get_or family x 0 < t.size
      in_it x h (yes z) = let e = zero_family x z in omega arith
      in_it x h (no n) = c.inside x (omega arith) h

      same_it : (x y : ℕ) → x < t.size → y < t.size → get_or family x 0 ≡ get_or family y 0 → Dec (x ≡ 0) → Dec (y ≡ 0) → Equal κ t x y
      same_it x y h g e (yes z) (yes w) = subst (Equal κ t x) (z ∙ sym w) (equal_reflexive small x)
      same_it x y h g e (yes z) (no m) = absurd (let a = zero_family x z in let b = c.above y (omega arith) g in omega arith)
      same_it x y h g e (no n) (yes w) = absurd (let a = zero_family y w in let b = c.above x (omega arith) h in omega arith)
      same_it x y h g e (no n) (no m) =
          equal_transitive (equal_symmetric (c.equal x (omega arith) h))
          (subst (λ (k : ℕ). Equal κ t k y) (sym e) (c.equal y (omega arith) g))

      equal_it : (x y : ℕ) → x < t.size → y < t.size → Equal κ t x y → Dec (x ≡ 0) → Dec (y ≡ 0) → get_or family x 0 ≡ get_or family y 0
      equal_it x y h g q (yes z) (yes w) = ap (λ (k : ℕ). get_or family k 0) (z ∙ sym w)
      equal_it x y h g q (yes z) (no m) = absurd (apart κ t tree y (omega arith) g x z q)
      equal_it x y h g q (no n) (yes w) = absurd (apart κ t tree x (omega arith) h y w (equal_symmetric q))
      equal_it x y h g q (no n) (no m) = c.one x y (omega arith) h (omega arith) g q

pub sorted_none : (weight bucket : List ℕ) (count : ℕ) → length bucket ≡ 4096 → Sorted weight bucket count 0
sorted_none weight bucket count l = record { long = l; each = λ x h. absurd (omega arith) }

pub sorted_all : (weight bucket : List ℕ) (count n : ℕ) → count ≤ n → n ≤ count → Sorted weight bucket count n → Sorted weight bucket count count
sorted_all weight bucket count n h g s = let e : n ≡ count = omega arith in subst (Sorted weight bucket count) e s

pub sorted_inside : (weight bucket : List ℕ) (count : ℕ) → 0 < count → Sorted weight bucket count count → (x : ℕ) → x < count → get_or bucket x 0 < count
sorted_inside weight bucket count p s x h = let e = s.each x h in let m = mod-lt (get_or weight x 0 / 4096) p in omega arith

pub bucket_small : (w count : ℕ) → 0 < count → w % count < count
bucket_small w count p = mod-lt w p
