-- One law for each return of the writers.
use Prim.Native.Nat.{ℕ, suc, ◌+◌, ◌-◌, ◌*◌, ◌/◌, ◌%◌, ◌<◌, ◌≤◌}
use Rattle.std.specs.Prelude.{◌≡◌, Option, Some, Bool, length, set, eqb}
use Rattle.std.specs.Bool.{then_some}
use Rattle.std.proofs.Common.{sym, ◌∙◌}
use Rattle.std.proofs.Math.Path.{ap, ap₂, subst}
use Rattle.std.proofs.Math.Bool.{true, not}
use mathlib.Core.List.{List, [], ◌∷◌, ◌++◌}
use native.Mathlib.Omega.{arith}
use Rattle.meaning.specs.Limits.{block_lines}
use Rattle.meaning.specs.Paths.{Class, is_element}
use Rattle.meaning.specs.Trees.{Table}
use Rattle.meaning.specs.Listing.{decimal}
use Rattle.write_bytes.specs.Wrote.{Wrote, wrote_more, wrote_none, wrote_byte, wrote_then_byte, wrote_is}
use Rattle.write_listing.specs.Decimal.{decimal_one, decimal_more, length_one, length_more}
use Rattle.write_listing.specs.Lines.{field, field_of, Shows, field_length, field_short, field_some, field_then, line_of, line_at, head_of, line_short, head_short, block_of}
use Rattle.write_listing.specs.Blocks.{shown, shown_none, shown_more, shown_all, block_past}

-- as much room as there was, less what was written
pub wrote_room : {out end v : List ℕ} {at next : ℕ} (k : ℕ) → Wrote out end at v next → at + length v + k ≤ length out → next + k ≤ length end
wrote_room k w h = let e = w.kept in let n = w.after in omega arith

pub wrote_digit : (out : List ℕ) (at n : ℕ) → n < 10 → at + length (decimal n) ≤ length out → Wrote out (set out at (48 + n)) at (decimal n) (at + 1)
wrote_digit out at n h r =
    let e = length_one n h in
    subst (λ (v : List ℕ). Wrote out (set out at (48 + n)) at v (at + 1)) (sym (decimal_one n h)) (wrote_byte out at (48 + n) (omega arith))

module _ {out mid : List ℕ} {at next : ℕ} (n : ℕ) (more : 10 ≤ n) (room : at + length (decimal n) ≤ length out)
    (w : Wrote out mid at (decimal (n / 10)) next) where
  pub digits_room : next < length mid
  digits_room = let e = length_more n more in let r = wrote_room 1 w (omega arith) in omega arith

  pub wrote_digits : Wrote out (set mid next (48 + n % 10)) at (decimal n) (next + 1)
  wrote_digits =
      let e = length_more n more in
      subst (λ (v : List ℕ). Wrote out (set mid next (48 + n % 10)) at v (next + 1)) (sym (decimal_more n more))
      (wrote_then_byte (48 + n % 10) w (omega arith))

-- A line written: it has at most 44 bytes
pub record WroteLine (out end : List ℕ) (at : ℕ) (v : List ℕ) (next : ℕ) : Type 0 where
  pub wrote : Wrote out end at v next
  pub short : length v ≤ 44

-- the room behind a field
pub field_after : {out mid : List ℕ} {at next : ℕ} (k : ℕ) (s : Option ℕ) (end : ℕ) → Shows s → at + 11 + k ≤ length out
    → Wrote out mid at (field_of s end) next → next + k ≤ length mid
field_after k s end small room w = let l = field_short s end small in wrote_room k w (omega arith)

module _ {o a b c d : List ℕ} {at p q r s : ℕ} (κ : ℕ → Class) (t : Table) (x above l v : ℕ) (child leaf : Bool) (room : at + 44 ≤ length o)
    (small : x < 4294967296) (above-small : above < 4294967296) (l-small : l < 256) (v-small : v < 4294967296)
    {above-shown value-shown : Option ℕ} (above-is : above-shown ≡ then_some child above) (value-is : value-shown ≡ then_some leaf v)
    (w : Wrote o a at (field_of (Some x) 32) p) (w₂ : Wrote a b p (field_of above-shown 32) q) (w₃ : Wrote b c q (field_of (Some l) 32) r)
    (w₄ : Wrote c d r (field_of value-shown 10) s) where
  line_joined : Wrote o d at (field true x 32 ++ (field child above 32 ++ (field true l 32 ++ field leaf v 10))) s
  line_joined =
      wrote_more (wrote_is (field_some x 32) w)
      (wrote_more (wrote_is (ap (λ (k : Option ℕ). field_of k 32) above-is ∙ field_then child above 32) w₂)
      (wrote_more (wrote_is (field_some l 32) w₃) (wrote_is (ap (λ (k : Option ℕ). field_of k 10) value-is ∙ field_then leaf v 10) w₄)))

  pub line_wrote : above ≡ t.parent x → child ≡ not (eqb x 0) → l ≡ t.label x → leaf ≡ not (is_element (κ l)) → v ≡ t.value x
      → WroteLine o d at (line_of κ t x) s
  unfolding line_of
  line_wrote e f g h i =
      let leaf-is : leaf ≡ not (is_element (κ (t.label x))) = h ∙ ap (λ (k : ℕ). not (is_element (κ k))) g in
      let same : field true x 32 ++ (field child above 32 ++ (field true l 32 ++ field leaf v 10)) ≡ line_of κ t x =
      ap₂ (λ (u y : List ℕ). field true x 32 ++ (u ++ y)) (ap₂ (λ (m : Bool) (n : ℕ). field m n 32) f e)
      (ap₂ (λ (u y : List ℕ). u ++ y) (ap (λ (n : ℕ). field true n 32) g) (ap₂ (λ (m : Bool) (n : ℕ). field m n 10) leaf-is i)) in
      record {
        wrote = subst (λ (y : List ℕ). Wrote o d at y s) same line_joined;
        short = line_short κ t x small (omega arith) (omega arith) (omega arith);
      }

pub head_wrote : {o a b word : List ℕ} {at p q : ℕ} (κ : ℕ → Class) (t : Table) (n : ℕ) → n ≡ t.size → n < 4294967296 → at + 44 ≤ length o
    → word ≡ 110 ∷ 111 ∷ 100 ∷ 101 ∷ 115 ∷ 32 ∷ [] → Wrote o a at word p → Wrote a b p (field_of (Some n) 10) q → WroteLine o b at (head_of t) q
unfolding head_of
head_wrote {o} {b = b} {at = at} {q = q} κ t n e small room f w w₂ =
    let l = field_length true n 10 small in
    let m = ap length f in
    record {
      wrote = subst (λ (y : List ℕ). Wrote o b at y q) (ap₂ (λ (y : List ℕ) (k : ℕ). y ++ field true k 10) f e)
          (wrote_more w (wrote_is (field_some n 10) w₂));
      short = let h = head_short κ t (omega arith) in omega arith;
    }

-- the lines of a block
module _ (κ : ℕ → Class) (t : Table) where
  pub line_first : {o a : List ℕ} {at p : ℕ} (i : ℕ) → i ≡ 0 → WroteLine o a at (head_of t) p → WroteLine o a at (line_at κ t i) p
  unfolding line_at
  line_first {o} {a} {at} {p} i e w = subst (λ (n : ℕ). WroteLine o a at (line_at κ t n) p) (sym e) w

  pub line_node : {o a : List ℕ} {at p : ℕ} (i : ℕ) → (i ≡ 0 → ⊥) → WroteLine o a at (line_of κ t (i - 1)) p → WroteLine o a at (line_at κ t i) p
  unfolding line_at
  line_node {o} {a} {at} {p} i n w = let e : i ≡ suc (i - 1) = omega arith in subst (λ (n : ℕ). WroteLine o a at (line_at κ t n) p) (sym e) w

  pub block_none : (o : List ℕ) (start : ℕ) → Wrote o o 0 (shown κ t start start) 0
  block_none o start = subst (λ (v : List ℕ). Wrote o o 0 v 0) (sym (shown_none κ t start)) (wrote_none o 0 (omega arith))

  pub block_more : {o a b : List ℕ} {at p : ℕ} (start i : ℕ) → start ≤ i → i < t.size + 1 → at + 44 ≤ length o
      → Wrote o a 0 (shown κ t start i) at → WroteLine a b at (line_at κ t i) p → Wrote o b 0 (shown κ t start (i + 1)) p
  block_more {o} {b = b} {p = p} start i low high room w l =
      subst (λ (v : List ℕ). Wrote o b 0 v p) (sym (shown_more κ t start i low high))
      (wrote_more w l.wrote)

  pub block_all : {o a : List ℕ} {at : ℕ} (k i : ℕ) → block_lines * k ≤ i → i ≤ block_lines * k + block_lines
      → ((i < t.size + 1) → i ≡ block_lines * k + block_lines) → Wrote o a 0 (shown κ t (block_lines * k) i) at → Wrote o a 0 (block_of κ t k) at
  block_all {o} {a} {at} k i low high end w = subst (λ (v : List ℕ). Wrote o a 0 v at) (shown_all κ t k i low high end) w

  pub block_empty : (o : List ℕ) (k : ℕ) → t.size + 1 ≤ block_lines * k → Wrote o o 0 (block_of κ t k) 0
  block_empty o k h = subst (λ (v : List ℕ). Wrote o o 0 v 0) (sym (block_past κ t k h)) (wrote_none o 0 (omega arith))
