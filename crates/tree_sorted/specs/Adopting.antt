-- A key path that reaches at most one node from each target: each target takes that node's number for its group.
use Rattle.std.specs.Prelude.{ℕ, ◌+◌, ◌<◌, ◌≤◌, ◌≡◌, refl, Bool, true, false, List, length, get_or, set}
use Rattle.std.proofs.Common.{sym, ◌∙◌, ap, subst, get_or-set_same, get_or-set_other}
use Rattle.std.proofs.lemmas.Bool.{false≢true}
use native.Mathlib.Omega.{arith}
use Rattle.std.proofs.Math.Decide.{ℕ_discrete}
use Rattle.meaning.specs.Trees.{Table, Child}
use Rattle.theory_trees.specs.Below.{ParentsSmaller, down_greater}
use Rattle.tree_rows.specs.Chain.{by_family}
use Rattle.tree_sorted.specs.declared.sorted.Sorted.{Sorted}
use Rattle.tree_rows.specs.Hung.{Hung}
use Rattle.tree_sorted.specs.Hung.{HungFrom}
use Rattle.tree_sorted.specs.Groups.{Adopted}

-- the lists of a key path, as the loops take them
pub hung_lists : (t : Table) (path from first next : List ℕ) → Hung t path from first next → HungFrom t.size from first next 1
hung_lists t path from first next h =
    record { firsts = h.firsts; nexts = λ x g p b f. h.nexts x p b (h.above x p b (λ e. absurd (omega arith))).0 }

-- Not several: no node but the first one hangs under a
pub record Several (count : ℕ) (from first : List ℕ) (a : ℕ) (r : Bool) : Type 0 where
  pub one : r ≡ false → (x : ℕ) → 0 < x → x < count → get_or from x 0 ≡ a → x ≡ get_or first a 0

module _ (count : ℕ) (from first next : List ℕ) (lists : HungFrom count from first next 1) (few : count ≤ 4096) (a : ℕ) (inside : a < count) (x : ℕ)
    (is : x ≡ get_or first a 0) where
  child : (y : ℕ) → 0 < y → y < count → get_or from y 0 ≡ a → Child (by_family count from) a y
  unfolding by_family
  child y p i e = record { not_root = p; inside = i; below = e }

  pub several_none : x ≡ 0 → Several count from first a false
  several_none z =
      record {
        one = λ f y p i e.
            absurd (let l = (lists.firsts a inside).skipped y (omega arith) (child y p i e) in let l0 = l.0 in omega arith);
      }

  pub first_inside : 0 < x → x < count
  unfolding by_family
  first_inside p = let c = ((lists.firsts a inside).child (omega arith)).0.inside in omega arith

  pub several_by_next : (m : ℕ) (r : Bool) → (x ≡ 0 → ⊥) → m ≡ get_or next x 0 → (r ≡ false → m ≡ 0) → Several count from first a r
  unfolding by_family
  several_by_next m r q e last =
      record { one = λ f y p i g. go (last f) y p i g ((lists.firsts a inside).skipped y (omega arith) (child y p i g)) (ℕ_discrete y x) }
    where
      c : Child (by_family count from) a (get_or first a 0)
      c = ((lists.firsts a inside).child (omega arith)).0

      above : get_or from x 0 ≡ a
      above = ap (λ (k : ℕ). get_or from k 0) is ∙ c.below

      go : m ≡ 0 → (y : ℕ) → 0 < y → y < count → get_or from y 0 ≡ a → (0 < get_or first a 0) × (get_or first a 0 ≤ y) → Dec (y ≡ x) → y ≡ get_or first a 0
      go z y p i f l (yes d) = d ∙ is
      go z y p i f l (no d) =
          let l1 = l.1 in
          let j = c.inside in
          let b = above in
          let r = (lists.nexts x (omega arith) (omega arith) (omega arith) (omega arith)).skipped y (omega arith)
          (subst (λ (k : ℕ). Child (by_family count from) k y) (sym above) (child y p i f)) in
          let r0 = r.0 in
          absurd (omega arith)

-- Below n, each target has at most one node
pub record SingleTo (count : ℕ) (from group first : List ℕ) (n : ℕ) : Type 0 where
  pub one : (a : ℕ) → a < n → get_or group a 0 < count → (x : ℕ) → 0 < x → x < count → get_or from x 0 ≡ a → x ≡ get_or first a 0

module _ (count : ℕ) (from group first : List ℕ) where
  pub single_none : SingleTo count from group first 0
  single_none = record { one = λ a h. absurd (omega arith) }

  single_so : (n : ℕ) → SingleTo count from group first n
      → (get_or group n 0 < count → (x : ℕ) → 0 < x → x < count → get_or from x 0 ≡ n → x ≡ get_or first n 0) → SingleTo count from group first (n + 1)
  single_so n s h = record { one = λ a b g x p i e. go a b g x p i e (ℕ_discrete a n) }
    where
      go : (a : ℕ) → a < n + 1 → get_or group a 0 < count → (x : ℕ) → 0 < x → x < count → get_or from x 0 ≡ a → Dec (a ≡ n) → x ≡ get_or first a 0
      go a b g x p i e (no m) = s.one a (omega arith) g x p i e
      go a b g x p i e (yes z) =
          h (subst (λ (k : ℕ). get_or group k 0 < count) z g) x p i (e ∙ z) ∙ ap (λ (k : ℕ). get_or first k 0) (sym z)

  pub single_other : (n g : ℕ) → g ≡ get_or group n 0 → count ≤ g → SingleTo count from group first n → SingleTo count from group first (n + 1)
  single_other n g e h s = single_so n s (λ k. absurd (omega arith))

  pub single_more : (n : ℕ) (r : Bool) → Several count from first n r → r ≡ false → SingleTo count from group first n
      → SingleTo count from group first (n + 1)
  single_more n r v e s = single_so n s (λ k. v.one e)

-- what `is_single` says: yes is sure
pub record Surely (P : Type 0) (r : Bool) : Type 0 where
  pub yes : r ≡ true → P

pub surely_not : (P : Type 0) → Surely P false
surely_not P = record { yes = λ e. absurd (false≢true e) }

pub surely : (P : Type 0) → P → Surely P true
surely P p = record { yes = λ e. p }

pub single_all : (count : ℕ) (from group first : List ℕ) (n : ℕ) → count ≤ n → SingleTo count from group first n
    → SingleTo count from group first count
single_all count from group first n h s = record { one = λ a b. s.one a (omega arith) }

-- Contexts and numbers stay
pub record NumbersStay (old new : Sorted) : Type 0 where
  pub tops : new.top ≡ old.top
  pub numbers : new.number ≡ old.number

-- The targets below n have their node's number
pub record AdoptedTo (count : ℕ) (from old number new : List ℕ) (n : ℕ) : Type 0 where
  pub done : (a : ℕ) → a < n → get_or old a 0 < count → (x : ℕ) → 0 < x → x < count → get_or from x 0 ≡ a → get_or new a 0 ≡ get_or number x 0
  pub left : (a : ℕ) → n ≤ a → get_or new a 0 ≡ get_or old a 0

module _ (count : ℕ) (from old number : List ℕ) where
  pub adopted_none : AdoptedTo count from old number old 0
  adopted_none = record { done = λ a h. absurd (omega arith); left = λ a h. refl }

  pub adopted_pass : (new : List ℕ) (n g : ℕ) → g ≡ get_or new n 0 → count ≤ g → AdoptedTo count from old number new n
      → AdoptedTo count from old number new (n + 1)
  adopted_pass new n g e h s =
      record {
        done = λ a b k x p i f. s.done a (before a b k (ℕ_discrete a n)) k x p i f;
        left = λ a b. s.left a (omega arith);
      }
    where
      before : (a : ℕ) → a < n + 1 → get_or old a 0 < count → Dec (a ≡ n) → a < n
      before a b k (no m) = omega arith
      before a b k (yes z) =
          let l = s.left n (omega arith) in
          let o = ap (λ (j : ℕ). get_or old j 0) z in
          absurd (omega arith)

  pub adopted_put : (new : List ℕ) (n r : ℕ) → n < length new
      → ((x : ℕ) → get_or old n 0 < count → 0 < x → x < count → get_or from x 0 ≡ n → r ≡ get_or number x 0) → AdoptedTo count from old number new n
      → AdoptedTo count from old number (set new n r) (n + 1)
  adopted_put new n r l h s =
      record {
        done = λ a b k x p i f. go a b k x p i f (ℕ_discrete a n);
        left = λ a b. get_or-set_other new n a r 0 (λ z. omega arith) ∙ s.left a (omega arith);
      }
    where
      go : (a : ℕ) → a < n + 1 → get_or old a 0 < count → (x : ℕ) → 0 < x → x < count → get_or from x 0 ≡ a → Dec (a ≡ n)
          → get_or (set new n r) a 0 ≡ get_or number x 0
      go a b k x p i f (no m) = get_or-set_other new n a r 0 m ∙ s.done a (omega arith) k x p i f
      go a b k x p i f (yes z) =
          ap (λ (j : ℕ). get_or (set new n r) j 0) z ∙ get_or-set_same new n r 0 l
          ∙ h x (subst (λ (j : ℕ). get_or old j 0 < count) z k) p i (f ∙ z)

-- the stores as the code makes them
module _ (count : ℕ) (from first next old number new now : List ℕ) (stay : now ≡ number) (long : length new ≡ 4096) (few : count ≤ 4096)
    (lists : HungFrom count from first next 1) (single : SingleTo count from old first count) (n x : ℕ) (inside : n < count)
    (is : x ≡ get_or first n 0) (s : AdoptedTo count from old number new n) where
  pub adopt_none : x ≡ 0 → AdoptedTo count from old number (set new n 4096) (n + 1)
  unfolding by_family
  adopt_none z =
      adopted_put count from old number new n 4096 (omega arith)
      (λ y k p i e. absurd
      (let l = ((lists.firsts n inside).skipped y (omega arith) (record { not_root = p; inside = i; below = e })).0 in omega arith))
      s

  pub adopt_one : (r : ℕ) → r ≡ get_or now x 0 → AdoptedTo count from old number (set new n r) (n + 1)
  adopt_one r e =
      adopted_put count from old number new n r (omega arith)
      (λ y k p i f. e ∙ ap (λ (l : List ℕ). get_or l x 0) stay
      ∙ ap (λ (j : ℕ). get_or number j 0) (is ∙ sym (single.one n inside k y p i f)))
      s

-- all targets, by the path
pub adopted_path : (t : Table) (path from first next old number new : List ℕ) (n : ℕ) → ParentsSmaller t → t.size ≤ n
    → Hung t path from first next → AdoptedTo t.size from old number new n → Adopted t old path number new
adopted_path t path from first next old number new n small all h s =
    record {
      each = λ x a p i d k.
          let g = down_greater small d in
          s.done a (omega arith) k x p i (h.every x a p i d);
    }
