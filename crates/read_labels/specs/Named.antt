-- A name looked for in the label records, return by return.
use Rattle.std.specs.Prelude.{ℕ, zero, suc, ◌-◌, ◌≤◌, ◌<◌, ◌≡◌, Bool, true, false, cond, List, length, take, drop, eqb}
use Rattle.std.proofs.Math.Path.{refl, sym}
use Rattle.std.proofs.Common.{ap, ◌∙◌, arith, sub-one}
use Rattle.std.specs.Prelude as library
use Rattle.std.specs.Bool.{then_some}
use Rattle.std.proofs.Math.Option.{Option, none, some}
use borrow.Author.Rules.{part_to_end}
use Rattle.std.proofs.Math.ListN.{get_or}
use Rattle.meaning.specs.Lists.{same}
use Rattle.meaning.specs.Records.{word, record_length, record_body, read_label}
use Rattle.meaning.specs.Text.{label_named}
use Rattle.theory_records.specs.TreeFiles.{body_at}
use Rattle.read_entry.specs.Labels.{labels_at, name_part}
use Rattle.read_entry.specs.Repeats
use Rattle.read_entry.specs.Repeats.{Standing}

-- a symbol, which is a byte, or none
abbrev pub Coded : Option ℕ → library.Option ℕ → Type 0
Coded o (library.Some r) = (r < 256) × (o ≡ some r)
Coded o library.None = o ≡ none

-- The search has so many records left; w is what is asked of the whole
pub record Naming (class : ℕ) (name : List ℕ) (left : ℕ) (rest : List ℕ) (w : Option ℕ) : Type 0 where
  pub records : Standing 6 left rest
  pub here : label_named (labels_at left rest) class name ≡ w

-- the record at its front
record Front (class : ℕ) (name : List ℕ) (left : ℕ) (rest : List ℕ) (w : Option ℕ) : Type 0 where
  room : 6 ≤ record_length rest
  within : record_length rest ≤ length rest
  others : Standing 6 (left - 1) (drop (record_length rest) rest)
  asked :
      cond (same (take (record_length rest - 6) (drop 6 rest)) name) (cond (eqb (get_or rest 5 0) class) (some (get_or rest 4 0)) none)
      (label_named (labels_at (left - 1) (drop (record_length rest) rest)) class name) ≡ w

front : {class : ℕ} {name : List ℕ} {left : ℕ} {rest : List ℕ} {w : Option ℕ} → Naming class name left rest w → 0 < left → Front class name left rest w
front {left = zero} s h = absurd (omega arith)
front {class = class} {name = name} {left = suc left} {rest = rest} {w = w} s h = go s.records
  where
    its : 6 ≤ record_length rest
        → cond (same (take (record_length rest - 6) (drop 6 rest)) name) (cond (eqb (get_or rest 5 0) class) (some (get_or rest 4 0)) none)
        (label_named (labels_at left (drop (record_length rest) rest)) class name)
        ≡ label_named (labels_at (suc left) rest) class name
    its six = unfold label_named labels_at in rw (name_part rest, number, class_is) refl
      where
        number : (read_label (record_body rest)).number ≡ get_or rest 4 0
        number = unfold read_label in body_at rest 0 (omega arith)

        class_is : (read_label (record_body rest)).class ≡ get_or rest 5 0
        class_is = unfold read_label in body_at rest 1 (omega arith)

    go : Standing 6 (suc left) rest → Front class name (suc left) rest w
    go (Repeats.more a b r) = record { room = a; within = b; others = rw sub-one r; asked = rw sub-one (its a ∙ s.here) }

pub naming_done : {class : ℕ} {name : List ℕ} {left : ℕ} {rest : List ℕ} {w : Option ℕ} → Naming class name left rest w → left ≤ 0 → w ≡ none
unfolding labels_at label_named
naming_done {left = zero} s h = sym s.here
naming_done {left = suc left} s h = absurd (omega arith)

module _ {class : ℕ} {name : List ℕ} {left : ℕ} {rest : List ℕ} {w : Option ℕ} (s : Naming class name left rest w) (h : 0 < left) where
  pub naming_head : 6 ≤ length rest
  naming_head = let f = front s h in let a = f.room in let b = f.within in omega arith

  pub naming_room : 6 ≤ word rest 0
  unfolding record_length
  naming_room = (front s h).room

  pub naming_within : word rest 0 ≤ length rest
  unfolding record_length
  naming_within = (front s h).within

  module _ {end : ℕ} (e : end ≡ word rest 0) {r : Bool} (t : r ≡ same (take (end - 6) (drop 6 rest)) name) where
    front_test : {b : Bool} → r ≡ b → same (take (record_length rest - 6) (drop 6 rest)) name ≡ b
    unfolding record_length
    front_test q = sym (ap (λ (n : ℕ). same (take (n - 6) (drop 6 rest)) name) e) ∙ (sym t ∙ q)

    -- the name stands here: "or there with the other class"
    pub naming_here : r ≡ true → {c : ℕ} → c ≡ get_or rest 5 0 → {n : ℕ} → n ≡ get_or rest 4 0 → n < 256 → {o : library.Option ℕ}
        → o ≡ then_some (eqb c class) n → Coded w o
    naming_here q {c} f {n} k small told =
        rw told (go (eqb c class) (sym (rw (front_test q, sym f, sym k) at (front s h).asked)))
      where
        go : (b : Bool) → w ≡ cond b (some n) none → Coded w (then_some b n)
        go true e = (small, e)
        go false e = e

    pub naming_next : r ≡ false → Naming class name (left - 1) (take (length rest - end) (drop end rest)) w
    naming_next q =
        rw (part_to_end rest end, e ∙ long) (record { records = (front s h).others; here = rw (front_test q) at (front s h).asked })
      where
        long : word rest 0 ≡ record_length rest
        long = unfold record_length in refl
