-- Landings as the code tests them: a law for each return and each turn.
use Prim.Native.Nat.{ℕ, suc, ◌+◌, ◌-◌, ◌≤◌, ◌<◌}
use Rattle.std.specs.Prelude.{◌≡◌, Bool, ◌&&◌, ◌||◌, List, eqb, leb, take, drop}
use Rattle.std.proofs.Math.Path.{sym, ap}
use Rattle.std.proofs.Common.{◌∙◌, add-one, arith, take_at}
use Rattle.std.proofs.Math.Bool.{true, false, and-true, and-false}
use Rattle.std.proofs.lemmas.Slice.{between_is}
use borrow.Author.Rules.{part_to_end}
use Rattle.std.proofs.Math.ListN.{length}
use Rattle.std.proofs.Math.Seq.{length-slice}
use borrow.Author.Tests.{le-leb, lt-leb, eq-eqb, ne_eqb}
use Rattle.meaning.specs.Lists.{any, is_empty, same, numbers}
use Rattle.meaning.specs.Keys.{Key}
use Rattle.meaning.specs.Records.{read_key, key_in, is_some}
use Rattle.meaning.specs.Pattern.{t_of}
use Rattle.theory_lists.specs.Bools.{bool_eq, same_eq, eq_same}
use Rattle.theory_pattern.specs.Spots.{row_of, part, holds_empty, marked_at, lands_on, lands}
use Rattle.theory_pattern.specs.Rows.{row_length}
use Rattle.theory_pattern.specs.RowParts.{part_drop}
use Rattle.rule_joins.specs.Forms.{is_beginning}
use Rattle.step_rows.specs.Drawn.{Drawn, HasRow, row_in, drawn_has, drawn_is}

-- a row's marks and landings, the row given
unfoldable pub marked_in : Key → List ℕ → ℕ → Bool
marked_in asked row k = eqb k (length row) || (holds_empty asked && leb (t_of asked) k)

unfoldable pub lands_in : Key → List ℕ → ℕ → List ℕ → Bool
lands_in asked row k p = same (part k (k + length p) row) p && marked_in asked row (k + length p)

pub lands_row : (asked : Key) (j k : ℕ) (p row : List ℕ) → row ≡ row_of asked j → lands_in asked row k p ≡ lands_on asked k p j
unfolding lands_on lands_in marked_at marked_in
lands_row asked j k p row e = ap (λ (l : List ℕ). lands_in asked l k p) e

-- the code's part of a row
pub part_is : (i k : ℕ) (l : List ℕ) → i ≤ k → k ≤ length l → take (k - i) (drop i l) ≡ part i k l
unfolding part
part_is i k l h b = ap (take (k - i)) (sym (part_drop i k l h)) ∙ take_at (part i k l) (drop k l) (k - i) (length-slice i k l b)

-- What the functions are given
pub record OnRow (body row : List ℕ) (k : ℕ) : Type 0 where
  pub is_key : is_some (read_key body) ≡ true
  pub within : k ≤ length row

pub record OnChain (body rows : List ℕ) (k : ℕ) : Type 0 where
  pub is_key : is_some (read_key body) ≡ true
  pub drawn : Drawn (key_in body) rows
  pub chain : k ≤ t_of (key_in body)

pub record OnSpot (body rows : List ℕ) (j k : ℕ) : Type 0 where
  pub is_key : is_some (read_key body) ≡ true
  pub drawn : Drawn (key_in body) rows
  pub branch : j < length (key_in body).paths
  pub within : k ≤ length (row_of (key_in body) j)

-- marks
module _ (asked : Key) (row : List ℕ) (k : ℕ) where
  pub marked_end : k ≡ length row → eqb k (length row) ≡ marked_in asked row k
  unfolding marked_in
  marked_end e = eq-eqb k (length row) e ∙ sym (rw (eq-eqb k (length row) e))

  module _ (n : k ≡ length row → ⊥) {t : ℕ} (m : t ≡ t_of asked) where
    pub marked_above : k < t → leb t k ≡ marked_in asked row k
    unfolding marked_in
    marked_above h = lt-leb t k h ∙ rw (ne_eqb k (length row) n, lt-leb (t_of asked) k (omega arith)) (sym (and-false (holds_empty asked)))

    pub marked_below : t ≤ k → {r : Bool} → r ≡ any is_empty asked.paths → r ≡ marked_in asked row k
    unfolding marked_in holds_empty
    marked_below h {r} e = rw (ne_eqb k (length row) n, le-leb (t_of asked) k (omega arith), sym e) (sym (and-true r))

pub ruleset marks = (marked_end, marked_above, marked_below)

same_sym : (a b : List ℕ) → same a b ≡ same b a
same_sym a b = bool_eq _ _ (λ t. eq_same b a (sym (same_eq a b t))) (λ t. eq_same a b (sym (same_eq b a t)))

-- landings on one row, by `rule_joins::begins`
module _ {body row : List ℕ} {k : ℕ} (o : OnRow body row k) (p : List ℕ) {r : Bool} (e : r ≡ is_beginning p (take (length row - k) (drop k row))) where
  reads : same (part k (k + length p) row) p ≡ r
  unfolding part is_beginning
  reads =
      sym (e ∙ same_sym p _
      ∙ ap (λ (l : List ℕ). same (take (length p) l) p) (part_to_end row k)
      ∙ ap (λ (l : List ℕ). same l p) (let z : k + length p - k ≡ length p = omega arith in sym (ap (λ (n : ℕ). take n (drop k row)) z) ∙ between_is row k (k + length p)))

  pub lands_other : r ≡ false → r ≡ lands_in (key_in body) row k p
  unfolding lands_in
  lands_other t = t ∙ rw (reads ∙ t)

  pub lands_mark : r ≡ true → {m : Bool} → m ≡ marked_in (key_in body) row (k + length p) → m ≡ lands_in (key_in body) row k p
  unfolding lands_in
  lands_mark t q = rw (reads ∙ t, q)

pub ruleset row_landings = (lands_other, lands_mark)

-- some row of the asked key: those that are left pass exactly where all do
pub record Sweep (f : ℕ → Bool) (m n j : ℕ) : Type 0 where
  pub number : n ≡ m
  pub within : j ≤ n
  pub left : any f (numbers (m - j) j) ≡ any f (numbers m 0)

pub sweep_start : (f : ℕ → Bool) {m n : ℕ} → n ≡ m → Sweep f m n 0
sweep_start f {m} e = record { number = e; within = omega arith; left = let z : m - 0 ≡ m = omega arith in ap (λ (c : ℕ). any f (numbers c 0)) z }

module _ {f : ℕ → Bool} {m n j : ℕ} (s : Sweep f m n j) where
  module _ (h : j < n) where
    pub sweep_below : j < m
    sweep_below = let e = s.number in omega arith

    split : any f (numbers m 0) ≡ (f j || any f (numbers (m - (j + 1)) (j + 1)))
    unfolding any numbers
    split =
        let k : m - j ≡ suc (m - (j + 1)) = (let b = sweep_below in omega arith) in
        sym s.left ∙ ap (λ (c : ℕ). any f (numbers c j)) k ∙ ap (λ (i : ℕ). f j || any f (numbers (m - (j + 1)) i)) (sym (add-one j))

    pub sweep_hit : {r : Bool} → r ≡ f j → r ≡ true → true ≡ any f (numbers m 0)
    sweep_hit e t = sym (split ∙ ap (λ (b : Bool). b || any f (numbers (m - (j + 1)) (j + 1))) (sym e ∙ t))

    pub sweep_miss : {r : Bool} → r ≡ f j → r ≡ false → Sweep f m n (j + 1)
    sweep_miss e t =
        record {
          number = s.number;
          within = omega arith;
          left = sym (split ∙ ap (λ (b : Bool). b || any f (numbers (m - (j + 1)) (j + 1))) (sym e ∙ t));
        }

  pub sweep_done : n ≤ j → false ≡ any f (numbers m 0)
  unfolding any numbers
  sweep_done h = let z : m - j ≡ 0 = (let e = s.number in omega arith) in sym (ap (λ (c : ℕ). any f (numbers c j)) z) ∙ s.left

-- a chain node stands on each row
module _ {body rows : List ℕ} {k : ℕ} (o : OnChain body rows k) {j : ℕ} (h : j < length (key_in body).paths) where
  pub chain_has : HasRow rows j
  chain_has = drawn_has o.drawn h

  pub chain_on : {row : List ℕ} → row ≡ row_in rows j → OnRow body row k
  chain_on {row} e =
      record {
        is_key = o.is_key;
        within = let c = o.chain in omega (arith, ap length (drawn_is o.drawn h e), row_length (key_in body) j);
      }

  pub chain_lands : (p : List ℕ) {row : List ℕ} → row ≡ row_in rows j → {r : Bool} → r ≡ lands_in (key_in body) row k p
      → r ≡ lands_on (key_in body) k p j
  chain_lands p {row} e q = q ∙ lands_row (key_in body) j k p row (drawn_is o.drawn h e)

-- "for some j' (j' = j where k > n)"
module _ {body rows : List ℕ} {j k : ℕ} (o : OnSpot body rows j k) {t : ℕ} (q : t ≡ t_of (key_in body)) where
  pub spot_chain : k ≤ t → OnChain body rows k
  spot_chain h = record { is_key = o.is_key; drawn = o.drawn; chain = omega arith }

  pub lands_some : k ≤ t → (p : List ℕ) {r : Bool} → r ≡ any (lands_on (key_in body) k p) (numbers (length (key_in body).paths) 0) → r ≡ lands (key_in body) j k p
  unfolding lands
  lands_some h p e = rw (le-leb k (t_of (key_in body)) (omega arith)) e

  pub spot_on : {row : List ℕ} → row ≡ row_in rows j → OnRow body row k
  spot_on e = record { is_key = o.is_key; within = let w = o.within in omega (arith, ap length (drawn_is o.drawn o.branch e)) }

  pub lands_branch : t < k → (p : List ℕ) {row : List ℕ} → row ≡ row_in rows j → {r : Bool} → r ≡ lands_in (key_in body) row k p → r ≡ lands (key_in body) j k p
  unfolding lands
  lands_branch h p {row} e s =
      rw (lt-leb k (t_of (key_in body)) (omega arith)) (s ∙ lands_row (key_in body) j k p row (drawn_is o.drawn o.branch e))

pub spot_has : {body rows : List ℕ} {j k : ℕ} → OnSpot body rows j k → HasRow rows j
spot_has o = drawn_has o.drawn o.branch
