-- A label looked up among the records of a profile by its number.
use Rattle.std.specs.Prelude.{ℕ, zero, suc, ◌+◌, ◌-◌, ◌<◌, ◌≤◌, ◌≡◌, cond, eqb, length, take, drop}
use Rattle.std.proofs.Math.Path.{refl, ap}
use Rattle.std.proofs.Common.{sym, ◌∙◌, subst, arith, sub-one, ne_eqb, eq-eqb}
use mathlib.Core.List.{List, []}
use borrow.Author.Rules.{part_to_end}
use Rattle.std.proofs.Math.ListN.{get_or}
use Rattle.meaning.specs.Records.{word, record_length, record_body, read_label}
use Rattle.theory_records.specs.Heads.{body_length}
use Rattle.theory_records.specs.HeadTests.{body_part}
use Rattle.read_entry.specs.Labels.{labels_at}
use Rattle.read_entry.specs.Repeats.{Standing, more}
use Rattle.write_bytes.specs.Wrote.{Wrote, wrote_is, wrote_none}
use Rattle.write_text.specs.Texts.{label_text, declared_text, declared_none, declared_more}

-- so many records are left; w is what is written of the label
pub record Looking (n left : ℕ) (rest w : List ℕ) : Type 0 where
  pub records : Standing 6 left rest
  pub here : declared_text (labels_at left rest) n ≡ w

pub looking_start : (n count : ℕ) (labels : List ℕ) → Standing 6 count labels → Looking n count labels (declared_text (labels_at count labels) n)
looking_start n count labels s = record { records = s; here = refl }

pub looking_as : {n left more : ℕ} {rest w : List ℕ} → left ≡ more → Looking n left rest w → Looking n more rest w
looking_as {n} {rest = rest} {w} e = subst (λ (k : ℕ). Looking n k rest w) e

-- the buffer is as it was
pub record Stays (out₀ out : List ℕ) : Type 0 where
  pub same : out ≡ out₀
  pub kept : length out ≡ length out₀

pub stays_start : (out : List ℕ) → Stays out out
stays_start out = record { same = refl; kept = refl }

record Front (n left : ℕ) (rest w : List ℕ) : Type 0 where
  room : 6 ≤ record_length rest
  within : record_length rest ≤ length rest
  others : Standing 6 (left - 1) (drop (record_length rest) rest)
  asked : cond (eqb (read_label (record_body rest)).number n) (label_text (read_label (record_body rest)))
      (declared_text (labels_at (left - 1) (drop (record_length rest) rest)) n)
      ≡ w

looking_front : {n left : ℕ} {rest w : List ℕ} → Looking n left rest w → 0 < left → Front n left rest w
looking_front {left = zero} s h = absurd (omega arith)
looking_front {n} {left = suc left} {rest} {w} s h = go s.records
  where
    is : cond (eqb (read_label (record_body rest)).number n) (label_text (read_label (record_body rest)))
        (declared_text (labels_at left (drop (record_length rest) rest)) n)
        ≡ w
    is = sym (declared_more (read_label (record_body rest)) (labels_at left (drop (record_length rest) rest)) n) ∙ (unfold labels_at in s.here)

    go : Standing 6 (suc left) rest → Front n (suc left) rest w
    go (more a b r) = record { room = a; within = b; others = rw sub-one r; asked = rw sub-one is }

looking_end : {n left : ℕ} {rest w : List ℕ} → Looking n left rest w → left ≤ 0 → [] ≡ w
unfolding labels_at
looking_end {n} {left = zero} s h = sym (declared_none n) ∙ s.here
looking_end {left = suc left} s h = absurd (omega arith)

pub looking_done : {n left at : ℕ} {rest w out₀ out : List ℕ} → Looking n left rest w → left ≤ 0 → Stays out₀ out → at + length w ≤ length out₀
    → Wrote out₀ out at w at
looking_done {at = at} {w = w} {out₀} {out} s h stays room =
    subst (λ (o : List ℕ). Wrote out₀ o at w at) (sym stays.same) (wrote_is (looking_end s h) (wrote_none out₀ at (omega arith)))

module _ {n left : ℕ} {rest w : List ℕ} (s : Looking n left rest w) (h : 0 < left) where
  pub looking_head : 0 + 1 < length rest
  looking_head = let f = looking_front s h in let a = f.room in let b = f.within in omega arith

  pub looking_room : 6 ≤ word rest 0
  unfolding record_length
  looking_room = (looking_front s h).room

  pub looking_within : word rest 0 ≤ length rest
  unfolding record_length
  looking_within = (looking_front s h).within

  module _ {end : ℕ} (e : end ≡ word rest 0) where
    pub looking_body : 2 ≤ length (take (end - 4) (drop 4 rest))
    looking_body =
        let f = looking_front s h in
        let a = f.room in
        rw (body_part rest e) (omega (arith, body_length rest f.within))

    module _ {number : ℕ} (t : number ≡ get_or (take (end - 4) (drop 4 rest)) 0 0) where
      front_number : number ≡ (read_label (record_body rest)).number
      unfolding read_label
      front_number = t ∙ ap (λ (body : List ℕ). get_or body 0 0) (body_part rest e)

      found : number ≡ n → label_text (read_label (take (end - 4) (drop 4 rest))) ≡ w
      found q =
          ap (λ (body : List ℕ). label_text (read_label body)) (body_part rest e)
          ∙ (rw (eq-eqb (read_label (record_body rest)).number n (sym front_number ∙ q)) at (looking_front s h).asked)

      pub looking_fits : number ≡ n → {out₀ out : List ℕ} (at : ℕ) → Stays out₀ out → at + length w ≤ length out₀
          → at + length (label_text (read_label (take (end - 4) (drop 4 rest)))) ≤ length out
      looking_fits q at stays room = omega (arith, ap length (found q), stays.kept)

      pub looking_found : number ≡ n → {out₀ out final : List ℕ} {at next : ℕ} → Stays out₀ out
          → Wrote out final at (label_text (read_label (take (end - 4) (drop 4 rest)))) next → Wrote out₀ final at w next
      looking_found q {final = final} {at} {next} stays v = subst (λ (o : List ℕ). Wrote o final at w next) stays.same (wrote_is (found q) v)

      pub looking_next : (number ≡ n → ⊥) → Looking n (left - 1) (take (length rest - end) (drop end rest)) w
      looking_next q =
          rw (part_to_end rest end, e ∙ long)
          (record {
            records = (looking_front s h).others;
            here = rw (ne_eqb (read_label (record_body rest)).number n (λ k. q (front_number ∙ k))) at (looking_front s h).asked;
          })
        where
          long : word rest 0 ≡ record_length rest
          long = unfold record_length in refl
