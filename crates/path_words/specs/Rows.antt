-- Two rows of marks of two paths: what a mark says, what a row says, and a law for each return. Row `old` holds a test of
-- each end of p; the other row comes to hold the same test with one symbol more in front.
use Prim.Native.Nat.{ℕ, zero, suc, zero-le, ◌≤◌, ◌<◌, ◌+◌, ◌-◌}
use Rattle.std.proofs.Common.{add-one, le_refl, ap, ap₂, ◌∙◌, length-set, drop_of_length-le, get_or-set_other}
use native.Mathlib.Omega.{arith}
use Rattle.std.proofs.Math.Decide.{ℕ_discrete}
use Rattle.std.specs.Prelude.{◌≡◌, refl, Bool, cond, ◌&&◌, ◌||◌, List, [], ◌∷◌, ltb, length, drop, get_or, set, replicate}
use Rattle.std.proofs.Math.Path.{sym}
use Rattle.std.proofs.Math.Bool.{true, false, or-false}
use Rattle.std.proofs.Math.Arith.{lt_of_le-ne}
use Rattle.std.proofs.Math.Dec.{eqb}
use Rattle.std.proofs.Math.ListN.{length-replicate, get_or-replicate}
use Rattle.std.proofs.Math.Seq.{drop-cons, drop-length, get_or-set_same}
use borrow.Author.Tests.{eq-eqb, ne_eqb, lt-ltb, le-ltb, ltb-true, ltb-false, eqb-true, eqb-false}
use Rattle.meaning.specs.Lists.{is_empty}
use Rattle.meaning.specs.Paths.{member, front, any_end}

-- mark i, from the old row and from what the new row has behind i: an any-path ends here or takes a symbol, a label takes the same label
unfoldable pub mark_of : List Bool → List Bool → List ℕ → ℕ → ℕ → Bool
mark_of old new p symbol i =
    cond (eqb symbol 0)
    (get_or old i false || cond (ltb i (length p)) (get_or new (i + 1) false) false)
    (cond (ltb i (length p)) (eqb (get_or p i 0) symbol && get_or old (i + 1) false) false)

module _ (old new : List Bool) (p : List ℕ) (s i : ℕ) where
  pub mark_ends : s ≡ 0 → get_or old i false ≡ true → get_or old i false ≡ mark_of old new p s i
  unfolding mark_of
  mark_ends z o = o ∙ sym (simp (eq-eqb s 0 z, o))

  pub mark_takes : s ≡ 0 → get_or old i false ≡ false → i < length p → get_or new (i + 1) false ≡ mark_of old new p s i
  unfolding mark_of
  mark_takes z o h = sym (simp (eq-eqb s 0 z, o, lt-ltb i (length p) h))

  pub mark_nowhere : s ≡ 0 → get_or old i false ≡ false → length p ≤ i → ltb i (length p) ≡ mark_of old new p s i
  unfolding mark_of
  mark_nowhere z o h = le-ltb i (length p) h ∙ sym (simp (eq-eqb s 0 z, o, le-ltb i (length p) h))

  pub mark_same : (s ≡ 0 → ⊥) → i < length p → get_or p i 0 ≡ s → get_or old (i + 1) false ≡ mark_of old new p s i
  unfolding mark_of
  mark_same z h e = sym (simp (ne_eqb s 0 z, lt-ltb i (length p) h, eq-eqb (get_or p i 0) s e))

  pub mark_other : (s ≡ 0 → ⊥) → i < length p → (get_or p i 0 ≡ s → ⊥) → false ≡ mark_of old new p s i
  unfolding mark_of
  mark_other z h e = sym (simp (ne_eqb s 0 z, lt-ltb i (length p) h, ne_eqb (get_or p i 0) s e))

  pub mark_past : (s ≡ 0 → ⊥) → length p ≤ i → false ≡ mark_of old new p s i
  unfolding mark_of
  mark_past z h = sym (simp (ne_eqb s 0 z, le-ltb i (length p) h))

-- from i on, a row holds a test of each end of p
abbrev pub RowFrom : (List ℕ → Bool) → List ℕ → List Bool → ℕ → Type 0
RowFrom f p row i = (k : ℕ) → i ≤ k → k ≤ length p → get_or row k false ≡ f (drop k p)

-- one symbol in front of an end of p
front_any : (f : List ℕ → Bool) (p : List ℕ) (i s : ℕ) → s ≡ 0 → i < length p
    → front s f (drop i p) ≡ (f (drop i p) || front s f (drop (i + 1) p))
unfolding front any_end
front_any f p i s z h =
    rw (z, drop-cons p i 0 h) (ap (λ (n : ℕ). f (get_or p i 0 ∷ drop (suc i) p) || any_end f (drop n p)) (sym (add-one i)))

front_any_end : (f : List ℕ → Bool) (p : List ℕ) (i s : ℕ) → s ≡ 0 → length p ≤ i → front s f (drop i p) ≡ f (drop i p)
unfolding front any_end
front_any_end f p i s z h = rw (z, drop_of_length-le p h)

front_label : (f : List ℕ → Bool) (p : List ℕ) (i s : ℕ) → (s ≡ 0 → ⊥) → i < length p
    → front s f (drop i p) ≡ (eqb (get_or p i 0) s && f (drop (i + 1) p))
front_label f p i zero z h = absurd (z refl)
front_label f p i (suc a) z h =
    unfold front in rw (drop-cons p i 0 h) (ap (λ (n : ℕ). eqb (get_or p i 0) (suc a) && f (drop n p)) (sym (add-one i)))

front_label_end : (f : List ℕ → Bool) (p : List ℕ) (i s : ℕ) → (s ≡ 0 → ⊥) → length p ≤ i → front s f (drop i p) ≡ false
front_label_end f p i zero z h = absurd (z refl)
front_label_end f p i (suc a) z h = unfold front in rw (drop_of_length-le p h)

-- a mark is the test with the symbol in front
mark_front : (f : List ℕ → Bool) (old new : List Bool) (p : List ℕ) (s i : ℕ) → i ≤ length p → RowFrom f p old 0
    → RowFrom (front s f) p new (i + 1)
    → mark_of old new p s i ≡ front s f (drop i p)
unfolding mark_of
mark_front f old new p s i le o n = go (eqb s 0) refl (ltb i (length p)) refl
  where
    here : get_or old i false ≡ f (drop i p)
    here = o i (omega arith) le

    go : (z : Bool) → eqb s 0 ≡ z → (b : Bool) → ltb i (length p) ≡ b
        → cond z (get_or old i false || cond b (get_or new (i + 1) false) false) (cond b (eqb (get_or p i 0) s && get_or old (i + 1) false) false)
        ≡ front s f (drop i p)
    go true z true b =
        let h = ltb-true i (length p) b in
        ap₂ ◌||◌ here (n (i + 1) (omega arith) (omega arith)) ∙ sym (front_any f p i s (eqb-true s 0 z) h)
    go true z false b =
        let h = ltb-false i (length p) b in
        or-false (get_or old i false) ∙ here ∙ sym (front_any_end f p i s (eqb-true s 0 z) h)
    go false z true b =
        let h = ltb-true i (length p) b in
        ap (λ (x : Bool). eqb (get_or p i 0) s && x) (o (i + 1) (omega arith) (omega arith)) ∙ sym (front_label f p i s (eqb-false s 0 z) h)
    go false z false b =
        let h = ltb-false i (length p) b in
        sym (front_label_end f p i s (eqb-false s 0 z) h)

-- one mark more
row_more : (g : List ℕ → Bool) (p : List ℕ) (row : List Bool) (i : ℕ) (v : Bool) → i < length row → v ≡ g (drop i p)
    → RowFrom g p row (i + 1) → RowFrom g p (set row i v) i
row_more g p row i v inside e h k le lt = go (ℕ_discrete k i)
  where
    go : Dec (k ≡ i) → get_or (set row i v) k false ≡ g (drop k p)
    go (yes q) = rw q (get_or-set_same row i v false inside ∙ e)
    go (no q) = get_or-set_other row i k v false q ∙ h k (omega arith) lt

-- "no more than two rows of marks": two rows of 33
pub record TwoRows (rows : List (List Bool)) : Type 0 where
  pub two : length rows ≡ 2
  pub wide : (k : ℕ) → k < 2 → length (get_or rows k []) ≡ 33

rows_set : (rows : List (List Bool)) (k : ℕ) (row : List Bool) → TwoRows rows → k < 2 → length row ≡ 33
    → TwoRows (set rows k row)
rows_set rows k row s h e = record { two = length-set rows k row ∙ s.two; wide = λ j l. go j l (ℕ_discrete j k) }
  where
    go : (j : ℕ) → j < 2 → Dec (j ≡ k) → length (get_or (set rows k row) j []) ≡ 33
    go j l (yes q) = rw q (ap length (get_or-set_same rows k row [] (omega (arith, s.two))) ∙ e)
    go j l (no q) = ap length (get_or-set_other rows k j row [] q) ∙ s.wide j l

-- the new row while it is filled: its marks from i on are there, and the old row stays
pub record Filling (rows₀ rows : List (List Bool)) (old : ℕ) (p : List ℕ) (s i : ℕ) : Type 0 where
  pub below : i ≤ length p + 1
  pub kept : get_or rows old [] ≡ get_or rows₀ old []
  pub sized : TwoRows rows
  pub right : (f : List ℕ → Bool) → RowFrom f p (get_or rows₀ old []) 0 → RowFrom (front s f) p (get_or rows (1 - old) []) i

pub filling_start : (rows : List (List Bool)) (old : ℕ) (p : List ℕ) (s i : ℕ) → i ≡ length p + 1 → TwoRows rows
    → Filling rows rows old p s i
filling_start rows old p s i e z = record { below = omega arith; kept = refl; sized = z; right = λ f o k le lt. absurd (omega arith) }

pub filling_more : (rows₀ rows : List (List Bool)) (old : ℕ) (p : List ℕ) (s i : ℕ) (v : Bool) → old < 2 → length p ≤ 32 → 0 < i
    → Filling rows₀ rows old p s i → v ≡ mark_of (get_or rows old []) (get_or rows (1 - old) []) p s (i - 1)
    → Filling rows₀ (set rows (1 - old) (set (get_or rows (1 - old) []) (i - 1) v)) old p s (i - 1)
filling_more rows₀ rows old p s i v c2 n32 pos F e =
    record {
      below = omega (arith, F.below);
      kept = get_or-set_other rows (1 - old) old row [] (λ q. omega arith) ∙ F.kept;
      sized =
          rows_set rows (1 - old) row F.sized (omega arith)
          (length-set (get_or rows (1 - old) []) (i - 1) v ∙ F.sized.wide (1 - old) (omega arith));
      right =
          λ f o.
          rw (get_or-set_same rows (1 - old) row [] (omega (arith, F.sized.two)))
          (row_more (front s f) p (get_or rows (1 - old) []) (i - 1) v (omega (arith, F.below, F.sized.wide (1 - old) (omega arith)))
          (e ∙ mark_front f (get_or rows old []) (get_or rows (1 - old) []) p s (i - 1) (omega (arith, F.below)) (rw F.kept o) (next f o))
          (next f o));
    }
  where
    row : List Bool
    row = set (get_or rows (1 - old) []) (i - 1) v

    next : (f : List ℕ → Bool) → RowFrom f p (get_or rows₀ old []) 0 → RowFrom (front s f) p (get_or rows (1 - old) []) ((i - 1) + 1)
    next f o k le lt = F.right f o k (omega arith) lt

-- after it: where the old row held a test, the other one now holds it with the symbol in front
pub record Stepped (before after : List (List Bool)) (old : ℕ) (p : List ℕ) (s : ℕ) : Type 0 where
  pub sized : TwoRows after
  pub right : (f : List ℕ → Bool) → RowFrom f p (get_or before old []) 0 → RowFrom (front s f) p (get_or after (1 - old) []) 0

pub filling_end : (rows₀ rows : List (List Bool)) (old : ℕ) (p : List ℕ) (s i : ℕ) → i ≤ 0 → Filling rows₀ rows old p s i
    → Stepped rows₀ rows old p s
filling_end rows₀ rows old p s i z F = record { sized = F.sized; right = λ f o k le lt. F.right f o k (omega arith) lt }

-- row `old` speaks of the path from `left` on
pub record Rowed (p q : List ℕ) (rows : List (List Bool)) (old left : ℕ) : Type 0 where
  pub one : old < 2
  pub below : left ≤ length q
  pub sized : TwoRows rows
  pub right : RowFrom (member (drop left q)) p (get_or rows old []) 0

abbrev blank : List Bool
blank = replicate 33 false

first_row : (p : List ℕ) → length p ≤ 32 → RowFrom is_empty p (set blank (length p) true) 0
first_row p n32 k le lt = go (ℕ_discrete k (length p))
  where
    go : Dec (k ≡ length p) → get_or (set blank (length p) true) k false ≡ is_empty (drop k p)
    go (yes q) =
        rw (q, drop_of_length-le p (le_refl (length p)))
        (unfold is_empty in get_or-set_same blank (length p) true false (rw length-replicate (omega arith)))
    go (no q) =
        rw (get_or-set_other blank (length p) k true false q, drop-cons p k 0 (lt_of_le-ne lt q))
        (unfold is_empty in get_or-replicate 33 k false false (omega arith))

pub rowed_start : (p q : List ℕ) → length p ≤ 32
    → Rowed p q (set (replicate 2 blank) 0 (set blank (length p) true)) 0 (length q)
rowed_start p q n32 =
    record {
      one = omega arith;
      below = le_refl (length q);
      sized =
          rows_set (replicate 2 blank) 0 (set blank (length p) true)
          (record {
            two = length-replicate 2 blank;
            wide = λ k h. ap length (get_or-replicate 2 k blank [] h) ∙ length-replicate 33 false;
          })
          (omega arith)
          (length-set blank (length p) true ∙ length-replicate 33 false);
      right = rw (drop-length q) (unfold member in first_row p n32);
    }

pub rowed_more : (p q : List ℕ) (rows rows' : List (List Bool)) (old left : ℕ) → 0 < left → Rowed p q rows old left
    → Stepped rows rows' old p (get_or q (left - 1) 0) → Rowed p q rows' (1 - old) (left - 1)
rowed_more p q rows rows' old left pos R S =
    record {
      one = omega (arith, R.one);
      below = omega (arith, R.below);
      sized = S.sized;
      right =
          rw (drop-cons q (left - 1) 0 (omega (arith, R.below)))
          (unfold member in S.right (member (drop (suc (left - 1)) q)) (rw (suc_pred left pos) R.right));
    }
  where
    suc_pred : (n : ℕ) → 0 < n → suc (n - 1) ≡ n
    suc_pred n h = omega arith

pub rowed_end : (p q : List ℕ) (rows : List (List Bool)) (old left : ℕ) → left ≤ 0 → Rowed p q rows old left
    → get_or (get_or rows old []) 0 false ≡ member q p
rowed_end p q rows old left z R = R.right 0 zero-le zero-le ∙ ap (λ (k : ℕ). member (drop k q) p) (zero_of left z)
  where
    zero_of : (n : ℕ) → n ≤ 0 → n ≡ 0
    zero_of n h = omega arith
