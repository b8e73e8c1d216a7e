-- Label records read from the front of a profile, and refusal 3 return by return.
use Rattle.std.specs.Prelude.{ℕ, zero, suc, ◌-◌, ◌≤◌, ◌<◌, ◌≡◌, refl, Bool, true, false, ◌&&◌, ◌||◌, not, List, [], ◌∷◌, ltb, eqb, length, take, drop}
use Rattle.std.proofs.Common.{sym, ap, ap₂, ◌∙◌, drop-drop}
use native.Mathlib.Omega.{arith}
use Rattle.std.proofs.Math.Nat.{sub-zero, zero-sub, suc-sub-suc}
use borrow.Author.Tests.{le-leb, lt-leb, lt-ltb, le-ltb, ne_eqb, not-true, not-false}
use borrow.Author.Rules.{part_to_end}
use Rattle.std.proofs.Math.ListN.{get_or}
use Rattle.std.proofs.Math.Seq.{take-nil}
use Rattle.meaning.specs.Lists.{every, any, same}
use Rattle.meaning.specs.Paths.{Label}
use Rattle.meaning.specs.Records.{record_length, record_body, read_label}
use Rattle.meaning.specs.Refusals.{is_name, good_label}
use Rattle.read_entry.specs.Repeats.{any_record}

-- the labels of the first records
unfoldable pub labels_at : ℕ → List ℕ → List Label
labels_at zero l = []
labels_at (suc n) l = read_label (record_body l) ∷ labels_at n (drop (record_length l) l)

unfoldable pub name_used : List Label → List ℕ → Bool
name_used labels name = any (λ (k : Label). same k.name name) labels

unfoldable pub is_class : ℕ → Bool
is_class class = eqb class 1 || eqb class 2

-- the highest number of the labels: a number of 2 or more stands above all of them where it stands above this one
pub record Highest (labels : List Label) (last : ℕ) : Type 0 where
  pub above : (n : ℕ) → 2 ≤ n → every (λ (k : Label). ltb k.number n) labels ≡ ltb last n

-- a part of a part
pub drop_take : (k n : ℕ) (l : List ℕ) → drop k (take n l) ≡ take (n - k) (drop k l)
drop_take zero n l = ap (λ (m : ℕ). take m l) (sym (sub-zero n))
drop_take (suc k) zero l = sym (ap (λ (m : ℕ). take m (drop (suc k) l)) (zero-sub (suc k)))
drop_take (suc k) (suc n) [] = sym (take-nil (suc n - suc k))
drop_take (suc k) (suc n) (x ∷ l) = drop_take k n l ∙ ap (λ (m : ℕ). take m (drop k l)) (sym (suc-sub-suc n k))

-- the name of a label record, as it stands in the record
pub name_part : (l : List ℕ) → (read_label (record_body l)).name ≡ take (record_length l - 6) (drop 6 l)
unfolding read_label record_body
name_part l =
    drop_take 2 (record_length l - 4) (drop 4 l)
    ∙ (ap (λ (m : ℕ). take m (drop 2 (drop 4 l))) (less (record_length l)) ∙ ap (take (record_length l - 6)) (drop-drop 2 4 l))
  where
    less : (n : ℕ) → n - 4 - 2 ≡ n - 6
    less n = omega arith

-- the names looked at by their records
pub names_are : (n : ℕ) (l name : List ℕ) → any_record 6 name n l ≡ name_used (labels_at n l) name
unfolding any_record name_used labels_at any
names_are zero l name = refl
names_are (suc n) l name = ap₂ ◌||◌ (ap (λ (p : List ℕ). same p name) (sym (name_part l))) (names_are n (drop (record_length l) l) name)

pub class_element : (class : ℕ) → class ≡ 1 → true ≡ is_class class
unfolding is_class
class_element class e = rw e

pub class_other : (class : ℕ) → (class ≡ 1 → ⊥) → eqb class 2 ≡ is_class class
unfolding is_class
class_other class h = rw (ne_eqb class 1 h)

-- Refusal 3, test by test
module _ (labels : List Label) (body : List ℕ) where
  pub label_low : get_or body 0 0 < 2 → false ≡ good_label labels (read_label body)
  unfolding good_label read_label
  label_low h = rw (lt-leb 2 (get_or body 0 0) h)

  pub label_high : 200 < get_or body 0 0 → false ≡ good_label labels (read_label body)
  unfolding good_label read_label
  label_high h =
      let low : 2 ≤ get_or body 0 0 = omega arith in
      rw (le-leb 2 (get_or body 0 0) low, lt-leb (get_or body 0 0) 200 h)

  pub label_order : {last : ℕ} → Highest labels last → 2 ≤ get_or body 0 0 → get_or body 0 0 ≤ 200 → get_or body 0 0 ≤ last
      → false ≡ good_label labels (read_label body)
  unfolding good_label read_label
  label_order {last} highest low high h =
      rw (le-leb 2 (get_or body 0 0) low, le-leb (get_or body 0 0) 200 high, highest.above (get_or body 0 0) low, le-ltb last (get_or body 0 0) h)

-- the number is good
pub record Ordered (labels : List Label) (body : List ℕ) (last : ℕ) : Type 0 where
  pub highest : Highest labels last
  pub low : 2 ≤ get_or body 0 0
  pub high : get_or body 0 0 ≤ 200
  pub order : last < get_or body 0 0

module _ (labels : List Label) (body : List ℕ) {last : ℕ} (o : Ordered labels body last) where
  label_more : is_class (get_or body 1 0) && is_name (drop 2 body) && not (name_used labels (drop 2 body)) ≡ good_label labels (read_label body)
  unfolding good_label read_label is_class name_used
  label_more =
      rw (
        le-leb 2 (get_or body 0 0) o.low,
        le-leb (get_or body 0 0) 200 o.high,
        o.highest.above (get_or body 0 0) o.low,
        lt-ltb last (get_or body 0 0) o.order,
      )

  pub label_class : {class : ℕ} → class ≡ get_or body 1 0 → {r : Bool} → r ≡ is_class class → not r ≡ true → false ≡ good_label labels (read_label body)
  label_class e t q = rw (sym (ap is_class e) ∙ (sym t ∙ not-true _ q)) at label_more

  module _ {class : ℕ} (is_at : class ≡ get_or body 1 0) {k : Bool} (is_its : k ≡ is_class class) (passed : not k ≡ false) where
    pub label_name : {r : Bool} → r ≡ is_name (take (length body - 2) (drop 2 body)) → not r ≡ true → false ≡ good_label labels (read_label body)
    label_name t q =
        let name : is_name (drop 2 body) ≡ false = sym (t ∙ ap is_name (part_to_end body 2)) ∙ not-true _ q in
        rw (sym (ap is_class is_at) ∙ (sym is_its ∙ not-false _ passed), name) at label_more

    pub label_used : {r : Bool} → r ≡ is_name (take (length body - 2) (drop 2 body)) → not r ≡ false
        → {u : Bool} → u ≡ name_used labels (take (length body - 2) (drop 2 body)) → not u ≡ good_label labels (read_label body)
    label_used t q v =
        let name : is_name (drop 2 body) ≡ true = sym (t ∙ ap is_name (part_to_end body 2)) ∙ not-false _ q in
        let used : name_used labels (drop 2 body) ≡ _ = sym (v ∙ ap (name_used labels) (part_to_end body 2)) in
        rw (sym (ap is_class is_at) ∙ (sym is_its ∙ not-false _ passed), name, used) at label_more
