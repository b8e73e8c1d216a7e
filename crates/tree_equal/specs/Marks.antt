-- The attributes of two elements paired by marks at their families: a law for each turn and each return.
use Prim.Native.Nat.{ℕ, zero, suc, ◌+◌, ◌-◌, ◌<◌, ◌≤◌}
use Rattle.std.specs.Prelude.{◌≡◌, refl, Bool, false, List, [], ◌∷◌, eqb, length, get_or, set}
use Rattle.std.proofs.Math.Path.{sym, ap}
use Rattle.std.proofs.Common.{◌∙◌, subst, length-set, get_or-set_same, get_or-set_other, eq-eqb, ne_eqb, eqb-true}
use Rattle.std.proofs.Math.Bool.{true}
use Rattle.std.proofs.lemmas.Bool.{false≢true, eqb-false}
use native.Mathlib.Omega.{arith}
use Rattle.std.proofs.Math.Decide.{ℕ_discrete}
use Rattle.std.proofs.Math.Dec.{eqb→eq}
use Rattle.meaning.specs.Paths.{Class}
use Rattle.meaning.specs.Trees.{Table, EqualSets}
use Rattle.theory_lists.specs.Bools.{and_left}
use Rattle.theory_trees.specs.Below.{ParentsSmaller, child_greater}
use Rattle.theory_trees.specs.Children.{attribute_child}
use Rattle.theory_trees.specs.Matching.{one_if, count_of}
use Rattle.theory_trees.specs.Counting.{same_counts, sets_counts}
use Rattle.tree_table.specs.Links.{Firsts, Nexts}
use Rattle.tree_table.specs.Rest.{rest, list_of}
use Rattle.tree_table.specs.Seek.{Sought, left}
use Rattle.tree_table.specs.Tells.{Tells}
use Rattle.tree_rows.specs.Families.{FamiliesFrom}
use Rattle.tree_equal.specs.Lists.{AtKind, first_list, next_list, rest_head, rest_none, compared_falls, kind_greater}
use Rattle.tree_equal.specs.Pairing.{is_of, Known, families_match, sets_count}

-- No mark anywhere
pub record Clean (marks : List ℕ) : Type 0 where
  pub long : length marks ≡ 4096
  pub none : (d : ℕ) → get_or marks d 0 ≡ 0

-- As many marks at each family as the list has nodes of it
pub record Marked (family ys marks : List ℕ) : Type 0 where
  pub long : length marks ≡ 4096
  pub each : (d : ℕ) → get_or marks d 0 ≡ count_of (is_of family d) ys

-- Marks at families of the list alone
pub record Left (family ys marks : List ℕ) : Type 0 where
  pub long : length marks ≡ 4096
  pub each : (d : ℕ) → count_of (is_of family d) ys ≡ 0 → get_or marks d 0 ≡ 0

-- What `pair_off` gives
pub record PairedOff (κ : ℕ → Class) (t : Table) (family : List ℕ) (x y : ℕ) (marks : List ℕ) (r : Bool) : Type 0 where
  pub answer : Tells (EqualSets κ t (list_of κ t true x) (list_of κ t true y)) r
  pub clean : r ≡ true → Clean marks
  pub left : Left family (list_of κ t true y) marks

-- the family of a child is known, and stands in the table
pub family_fits : (κ : ℕ → Class) (t : Table) (family : List ℕ) (from v k own : ℕ) → ((n : ℕ) → 0 < n → n < t.size → t.parent n < n)
    → FamiliesFrom κ t family from → from ≤ v + 1 → AtKind κ t true v k → 0 < k → own ≡ get_or family k 0 → own < t.size
family_fits κ t family from v k own small c h a p e =
    let g = kind_greater κ t true v k small a p in
    let i = c.inside k (omega arith) a.inside in
    omega arith

-- the attributes of v have their families
attributes_known : (κ : ℕ → Class) (t : Table) (from v : ℕ) → ParentsSmaller t → from ≤ v + 1 → Known from t.size (list_of κ t true v)
unfolding list_of
attributes_known κ t from v small h z m =
    let child = (attribute_child κ t m).0 in
    let g = child_greater small child in
    (omega arith, child.inside)

-- Up to link k, n attributes of v were passed
pub record Walked (κ : ℕ → Class) (t : Table) (v k n : ℕ) : Type 0 where
  pub at : AtKind κ t true v k
  pub sum : n + length (rest κ t true v k) ≡ length (list_of κ t true v)
  pub most : n + left t.size k ≤ t.size

module _ (κ : ℕ → Class) (t : Table) (v : ℕ) where
  left_most : (size k : ℕ) → left size k ≤ size
  unfolding left
  left_most size zero = omega arith
  left_most size (suc k) = omega arith

  walked_start : (first : List ℕ) (e k : ℕ) → Firsts t first → v < t.size → e ≡ get_or first v 0 → Sought κ t true e k → Walked κ t v k 0
  walked_start first e k links b h s =
      let p = first_list κ t true first v e k links b h s in
      record { at = p.0; sum = let l = ap length p.1 in omega arith; most = let l = left_most t.size k in omega arith }

  walked_next : (next : List ℕ) (k e r n : ℕ) → Nexts t next → Walked κ t v k n → 0 < k → e ≡ get_or next k 0 → Sought κ t true e r → Walked κ t v r (n + 1)
  walked_next next k e r n links w p h s =
      let q = next_list κ t true next v k e r links w.at p h s in
      let l = ap length q.1 in
      let f = compared_falls κ t true next v k e r links w.at p h s in
      record { at = q.0; sum = let m = w.sum in omega arith; most = let m = w.most in omega arith }

  none_left : (k : ℕ) → k ≡ 0 → rest κ t true v k ≡ []
  none_left k e = ap (rest κ t true v) e ∙ rest_none κ t true v

  walked_end : (k n : ℕ) → k ≡ 0 → Walked κ t v k n → n ≡ length (list_of κ t true v)
  walked_end k n e w = let l = ap length (none_left k e) in let m = w.sum in omega arith

  -- of each family: none at the end
  counted_end : (family : List ℕ) (d k : ℕ) → k ≡ 0 → count_of (is_of family d) (rest κ t true v k) ≡ 0
  unfolding count_of
  counted_end family d k e = ap (count_of (is_of family d)) (none_left k e)

-- node k is in front: it counts for its own family, and for no other
module _ (family : List ℕ) {xs ks : List ℕ} (k own : ℕ) (q : xs ≡ k ∷ ks) (is : own ≡ get_or family k 0) where
  turn : (d : ℕ) → count_of (is_of family d) xs ≡ one_if (is_of family d k) + count_of (is_of family d) ks
  unfolding count_of
  turn d = ap (count_of (is_of family d)) q

  counted_here : (d : ℕ) → d ≡ own → count_of (is_of family d) xs ≡ 1 + count_of (is_of family d) ks
  unfolding is_of one_if
  counted_here d z = let o = ap one_if (eq-eqb (get_or family k 0) d (sym is ∙ sym z)) in let f = turn d in omega arith

  counted_other : (d : ℕ) → (d ≡ own → ⊥) → count_of (is_of family d) xs ≡ count_of (is_of family d) ks
  unfolding is_of one_if
  counted_other d n = let o = ap one_if (ne_eqb (get_or family k 0) d (λ g. n (sym g ∙ sym is))) in let f = turn d in omega arith

-- a mark put at a family
set_here : (marks : List ℕ) (own m d : ℕ) → own < 4096 → length marks ≡ 4096 → d ≡ own → get_or (set marks own m) d 0 ≡ m
set_here marks own m d b l z = ap (λ (n : ℕ). get_or (set marks own m) n 0) z ∙ get_or-set_same marks own m 0 (omega arith)

-- Up to link k, each attribute of v has put its mark
pub record Marking (κ : ℕ → Class) (t : Table) (family : List ℕ) (v k n : ℕ) (marks : List ℕ) : Type 0 where
  pub walked : Walked κ t v k n
  pub long : length marks ≡ 4096
  pub each : (d : ℕ) → get_or marks d 0 + count_of (is_of family d) (rest κ t true v k) ≡ count_of (is_of family d) (list_of κ t true v)
  pub few : (d : ℕ) → get_or marks d 0 ≤ n

module _ (κ : ℕ → Class) (t : Table) (family : List ℕ) (v : ℕ) where
  pub marking_start : (first : List ℕ) (e k : ℕ) (marks : List ℕ) → Firsts t first → v < t.size → e ≡ get_or first v 0 → Sought κ t true e k → Clean marks
      → Marking κ t family v k 0 marks
  marking_start first e k marks links b h s c =
      let p = first_list κ t true first v e k links b h s in
      record {
        walked = walked_start κ t v first e k links b h s;
        long = c.long;
        each = λ d. let z = c.none d in let q = ap (count_of (is_of family d)) p.1 in omega arith;
        few = λ d. let z = c.none d in omega arith;
      }

  pub marking_more : (next : List ℕ) (k e r n own : ℕ) (marks : List ℕ) → Nexts t next → Marking κ t family v k n marks → 0 < k → e ≡ get_or next k 0
      → Sought κ t true e r → own ≡ get_or family k 0 → own < 4096 → Marking κ t family v r (n + 1) (set marks own (get_or marks own 0 + 1))
  marking_more next k e r n own marks links m p h s is b =
      record {
        walked = walked_next κ t v next k e r n links m.walked p h s;
        long = length-set marks own (get_or marks own 0 + 1) ∙ m.long;
        each = λ d. one d (ℕ_discrete d own);
        few = λ d. most d (ℕ_discrete d own);
      }
    where
      one : (d : ℕ) → Dec (d ≡ own)
          → get_or (set marks own (get_or marks own 0 + 1)) d 0 + count_of (is_of family d) (rest κ t true v r) ≡ count_of (is_of family d) (list_of κ t true v)
      one d (yes z) =
          let f = set_here marks own (get_or marks own 0 + 1) d b m.long z in
          let g = ap (λ (i : ℕ). get_or marks i 0) z in
          let q = counted_here family k own (next_list κ t true next v k e r links m.walked.at p h s).1 is d z in
          let w = m.each d in
          omega arith
      one d (no o) =
          let f = get_or-set_other marks own d (get_or marks own 0 + 1) 0 o in
          let q = counted_other family k own (next_list κ t true next v k e r links m.walked.at p h s).1 is d o in
          let w = m.each d in
          omega arith

      most : (d : ℕ) → Dec (d ≡ own) → get_or (set marks own (get_or marks own 0 + 1)) d 0 ≤ n + 1
      most d (yes z) = let f = set_here marks own (get_or marks own 0 + 1) d b m.long z in let g = m.few own in omega arith
      most d (no o) = let f = get_or-set_other marks own d (get_or marks own 0 + 1) 0 o in let g = m.few d in omega arith

  pub marking_end : (k n : ℕ) (marks : List ℕ) → k ≡ 0 → Marking κ t family v k n marks
      → Marked family (list_of κ t true v) marks × (n ≡ length (list_of κ t true v))
  marking_end k n marks z m = (
    record { long = m.long; each = λ d. let e = counted_end κ t v family d k z in let w = m.each d in omega arith },
    walked_end κ t v k n z m.walked,
  )

-- Up to link i, each attribute of x has taken off a mark of y's
pub record Pairing (κ : ℕ → Class) (t : Table) (family : List ℕ) (x y i n : ℕ) (marks : List ℕ) : Type 0 where
  pub walked : Walked κ t x i n
  pub long : length marks ≡ 4096
  pub each : (d : ℕ)
      → get_or marks d 0 + count_of (is_of family d) (list_of κ t true x) ≡ count_of (is_of family d) (list_of κ t true y) + count_of (is_of family d) (rest κ t true x i)
  pub most : (d : ℕ) → get_or marks d 0 ≤ count_of (is_of family d) (list_of κ t true y)

module _ (κ : ℕ → Class) (t : Table) (family : List ℕ) (x y : ℕ) where
  pub pairing_start : (first : List ℕ) (e i : ℕ) (marks : List ℕ) → Firsts t first → x < t.size → e ≡ get_or first x 0 → Sought κ t true e i
      → Marked family (list_of κ t true y) marks → Pairing κ t family x y i 0 marks
  pairing_start first e i marks links b h s m =
      let p = first_list κ t true first x e i links b h s in
      record {
        walked = walked_start κ t x first e i links b h s;
        long = m.long;
        each = λ d. let z = m.each d in let q = ap (count_of (is_of family d)) p.1 in omega arith;
        most = λ d. let z = m.each d in omega arith;
      }

  pub pairing_more : (next : List ℕ) (i e r n own : ℕ) (marks : List ℕ) → Nexts t next → Pairing κ t family x y i n marks → 0 < i → e ≡ get_or next i 0
      → Sought κ t true e r → own ≡ get_or family i 0 → own < 4096 → 0 < get_or marks own 0
      → Pairing κ t family x y r (n + 1) (set marks own (get_or marks own 0 - 1))
  pairing_more next i e r n own marks links m p h s is b some =
      record {
        walked = walked_next κ t x next i e r n links m.walked p h s;
        long = length-set marks own (get_or marks own 0 - 1) ∙ m.long;
        each = λ d. one d (ℕ_discrete d own);
        most = λ d. less d (ℕ_discrete d own);
      }
    where
      one : (d : ℕ) → Dec (d ≡ own)
          → get_or (set marks own (get_or marks own 0 - 1)) d 0 + count_of (is_of family d) (list_of κ t true x)
          ≡ count_of (is_of family d) (list_of κ t true y) + count_of (is_of family d) (rest κ t true x r)
      one d (yes z) =
          let f = set_here marks own (get_or marks own 0 - 1) d b m.long z in
          let g = ap (λ (i : ℕ). get_or marks i 0) z in
          let q = counted_here family i own (next_list κ t true next x i e r links m.walked.at p h s).1 is d z in
          let w = m.each d in
          omega arith
      one d (no o) =
          let f = get_or-set_other marks own d (get_or marks own 0 - 1) 0 o in
          let q = counted_other family i own (next_list κ t true next x i e r links m.walked.at p h s).1 is d o in
          let w = m.each d in
          omega arith

      less : (d : ℕ) → Dec (d ≡ own) → get_or (set marks own (get_or marks own 0 - 1)) d 0 ≤ count_of (is_of family d) (list_of κ t true y)
      less d (yes z) =
          let f = set_here marks own (get_or marks own 0 - 1) d b m.long z in
          let g = ap (λ (i : ℕ). get_or marks i 0) z in
          let w = m.most d in
          omega arith
      less d (no o) = let f = get_or-set_other marks own d (get_or marks own 0 - 1) 0 o in let w = m.most d in omega arith

  pairing_left : (i n : ℕ) (marks : List ℕ) → Pairing κ t family x y i n marks → Left family (list_of κ t true y) marks
  pairing_left i n marks m = record { long = m.long; each = λ d z. let w = m.most d in omega arith }

  module _ (from : ℕ) (small : ParentsSmaller t) (c : FamiliesFrom κ t family from) (a : from ≤ x + 1) (b : from ≤ y + 1) where
    same_counts_lem : (d : ℕ) → EqualSets κ t (list_of κ t true x) (list_of κ t true y)
        → count_of (is_of family d) (list_of κ t true x) ≡ count_of (is_of family d) (list_of κ t true y)
    same_counts_lem d w = sets_count κ t family from c d (attributes_known κ t from x small a) (attributes_known κ t from y small b) w

    -- an attribute that finds no mark
    pub pairing_missed : (i n own : ℕ) (marks : List ℕ) → Pairing κ t family x y i n marks → 0 < i → own ≡ get_or family i 0 → get_or marks own 0 ≡ 0
        → PairedOff κ t family x y marks false
    pairing_missed i n own marks m p is none =
        record {
          answer = record {
            yes = λ q. absurd (false≢true q);
            no = λ q w.
                let f = counted_here family i own (rest_head κ t true x i m.walked.at p) is own refl in
                let g = same_counts_lem own w in
                let k = m.each own in
                omega arith;
          };
          clean = λ q. absurd (false≢true q);
          left = pairing_left i n marks m;
        }

    -- "equally many"
    pub pairing_end : (i n marked : ℕ) (marks : List ℕ) → i ≡ 0 → Pairing κ t family x y i n marks → marked ≡ length (list_of κ t true y)
        → PairedOff κ t family x y marks (eqb n marked)
    pairing_end i n marked marks z m long =
        record {
          answer = record { yes = met; no = λ q w. eqb-false n marked q (own ∙ same_length w ∙ sym long) };
          clean = λ q.
              record {
                long = m.long;
                none = λ d. let f = same_counts_lem d (met q) in let g = counted_end κ t x family d i z in let k = m.each d in omega arith;
              };
          left = pairing_left i n marks m;
        }
      where
        own : n ≡ length (list_of κ t true x)
        own = walked_end κ t x i n z m.walked

        met : eqb n marked ≡ true → EqualSets κ t (list_of κ t true x) (list_of κ t true y)
        met q =
            families_match κ t family from c (list_of κ t true x) (list_of κ t true y) (attributes_known κ t from x small a) (attributes_known κ t from y small b)
            (sym own ∙ eqb-true n marked q ∙ long)
            (λ d. let g = counted_end κ t x family d i z in let k = m.each d in omega arith)

        same_length : EqualSets κ t (list_of κ t true x) (list_of κ t true y) → length (list_of κ t true x) ≡ length (list_of κ t true y)
        same_length w =
            unfold same_counts list_of in
            eqb→eq _ _ (and_left (eqb (length (list_of κ t true x)) (length (list_of κ t true y))) _ (sets_counts κ t (list_of κ t true x) (list_of κ t true y) (λ z m. (attribute_child κ t m).1) w))

-- Up to link k, no attribute of v has a mark left
pub record Unmarking (κ : ℕ → Class) (t : Table) (family : List ℕ) (v k : ℕ) (marks : List ℕ) : Type 0 where
  pub at : AtKind κ t true v k
  pub left : Left family (rest κ t true v k) marks

module _ (κ : ℕ → Class) (t : Table) (family : List ℕ) (v : ℕ) where
  pub unmarking_start : (first : List ℕ) (e k : ℕ) (marks : List ℕ) → Firsts t first → v < t.size → e ≡ get_or first v 0 → Sought κ t true e k
      → Left family (list_of κ t true v) marks → Unmarking κ t family v k marks
  unmarking_start first e k marks links b h s m =
      let p = first_list κ t true first v e k links b h s in
      record { at = p.0; left = subst (λ (l : List ℕ). Left family l marks) p.1 m }

  pub unmarking_more : (next : List ℕ) (k e r own : ℕ) (marks : List ℕ) → Nexts t next → Unmarking κ t family v k marks → 0 < k → e ≡ get_or next k 0
      → Sought κ t true e r → own ≡ get_or family k 0 → own < 4096 → Unmarking κ t family v r (set marks own 0)
  unmarking_more next k e r own marks links m p h s is b =
      record {
        at = (next_list κ t true next v k e r links m.at p h s).0;
        left = record { long = length-set marks own 0 ∙ m.left.long; each = λ d q. one d q (ℕ_discrete d own) };
      }
    where
      one : (d : ℕ) → count_of (is_of family d) (rest κ t true v r) ≡ 0 → Dec (d ≡ own) → get_or (set marks own 0) d 0 ≡ 0
      one d q (yes z) = set_here marks own 0 d b m.left.long z
      one d q (no o) =
          get_or-set_other marks own d 0 0 o ∙ m.left.each d (counted_other family k own (next_list κ t true next v k e r links m.at p h s).1 is d o ∙ q)

  pub unmarking_end : (k : ℕ) (marks : List ℕ) → k ≡ 0 → Unmarking κ t family v k marks → Clean marks
  unmarking_end k marks z m = record { long = m.left.long; none = λ d. m.left.each d (counted_end κ t v family d k z) }
