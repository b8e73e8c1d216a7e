-- The head of a record: document 01, "length of the whole record (two bytes, little-endian), kind (two bytes), body".
use Rattle.std.specs.Prelude.{ℕ, suc, ◌+◌, ◌-◌, ◌≤◌, ◌<◌, ◌≡◌, Bool, true, false, not, List, [], ◌∷◌, ◌++◌}
use Rattle.std.proofs.Common.{sym, ◌∙◌, arith, leb-true, take-append-drop, length-take, length-drop}
use Rattle.std.proofs.Math.Path.{ap}
use Rattle.std.proofs.lemmas.Bool.{not-false}
use borrow.Author.Rules.{part_to_end}
use Rattle.std.proofs.Math.ListN.{length, take, drop}
use Rattle.std.proofs.Math.Seq.{take-append_seam, drop-append_seam}
use Rattle.meaning.specs.Records.{word, word_bytes, record_length, record_kind, record_body, record_bytes, body_ends}
use Rattle.meaning.specs.Refusals.{whole}
use Rattle.theory_records.specs.Tests.{both}
use Rattle.theory_records.specs.Bytes.{Bytes, word_word_bytes, word_bytes_word}

-- "a record is shorter than 4 or runs past the end, or its body does not end exactly where its kind says": it is not so
pub record Whole (l : List ℕ) : Type 0 where
  pub head : 4 ≤ length l
  pub long : 4 ≤ record_length l
  pub within : record_length l ≤ length l
  pub ends : body_ends (record_kind l) (record_body l) ≡ true

pub whole_says : (l : List ℕ) → whole l ≡ true → Whole l
unfolding whole
whole_says l e =
    let a = both _ _ e in
    let b = both _ _ a.0 in
    let c = both _ _ b.0 in
    record { head = leb-true _ _ c.0; long = leb-true _ _ c.1; within = leb-true _ _ b.1; ends = a.1 }

pub body_length : (l : List ℕ) → record_length l ≤ length l → length (record_body l) ≡ record_length l - 4
unfolding record_body
body_length l h = simp (length-take, length-drop) (omega arith)

four : (n : ℕ) → 4 ≤ n → n ≡ suc (suc (suc (suc (n - 4))))
four n h = omega arith

four_more : (n : ℕ) → 4 + n ≡ suc (suc (suc (suc n)))
four_more n = omega arith

-- a whole record's bytes are its encoding, and what stands behind them
pub record_written : (l : List ℕ) → Bytes l → 4 ≤ length l → 4 ≤ record_length l → record_length l ≤ length l
    → record_bytes (record_kind l) (record_body l) ++ drop (record_length l) l ≡ l
unfolding record_bytes record_length record_kind record_body word
record_written [] bs h long within = absurd (omega arith)
record_written (a ∷ []) bs h long within = absurd (omega arith)
record_written (a ∷ b ∷ []) bs h long within = absurd (omega arith)
record_written (a ∷ b ∷ c ∷ []) bs h long within = absurd (omega arith)
record_written (a ∷ b ∷ c ∷ d ∷ l) bs h long within =
    let all : List ℕ = a ∷ b ∷ c ∷ d ∷ l in
    let size : 4 + length (record_body all) ≡ record_length all = omega (arith, body_length all within) in
    let front : word_bytes (4 + length (record_body all)) ≡ a ∷ b ∷ [] = ap word_bytes size ∙ word_bytes_word all 0 bs in
    let kind : word_bytes (record_kind all) ≡ c ∷ d ∷ [] = word_bytes_word all 2 bs in
    let behind : drop (record_length all) all ≡ drop (record_length all - 4) l =
    ap (λ (k : ℕ). drop k all) (four (record_length all) long) in
    let split : record_body all ++ drop (record_length all) all ≡ l =
    ap (λ (r : List ℕ). record_body all ++ r) behind ∙ take-append-drop (record_length all - 4) l in
    rw (front, kind) (ap (λ (r : List ℕ). a ∷ b ∷ c ∷ d ∷ r) split)

-- an encoding is read back
module _ (kind : ℕ) (body rest : List ℕ) where
  pub written_length : 4 + length body < 65536 → record_length (record_bytes kind body ++ rest) ≡ 4 + length body
  unfolding record_bytes record_length word_bytes word
  written_length fits = word_word_bytes (4 + length body) (word_bytes kind ++ body ++ rest) fits

  pub written_kind : kind < 65536 → record_kind (record_bytes kind body ++ rest) ≡ kind
  unfolding record_bytes record_kind word_bytes word
  written_kind small = word_word_bytes kind (body ++ rest) small

  pub written_rest : drop (4 + length body) (record_bytes kind body ++ rest) ≡ rest
  unfolding record_bytes word_bytes
  written_rest =
      ap (λ (k : ℕ). drop k (record_bytes kind body ++ rest)) (four_more (length body)) ∙ drop-append_seam body rest

  pub written_body : 4 + length body < 65536 → record_body (record_bytes kind body ++ rest) ≡ body
  unfolding record_bytes record_body word_bytes
  written_body fits =
      let size : record_length (record_bytes kind body ++ rest) - 4 ≡ length body = omega (arith, written_length fits) in
      ap (λ (k : ℕ). take k (body ++ rest)) size ∙ take-append_seam body rest

pub bytes_length : (kind : ℕ) (body : List ℕ) → length (record_bytes kind body) ≡ 4 + length body
unfolding record_bytes word_bytes
bytes_length kind body = omega arith

-- what the code knows of a record that it found whole: its head can be read, and its length is a place in the rest
pub record Passed (l : List ℕ) : Type 0 where
  pub head : 4 ≤ length l
  pub long : 4 ≤ word l 0
  pub within : word l 0 ≤ length l

pub passed : (l : List ℕ) {b : Bool} → b ≡ whole l → not b ≡ false → Passed l
unfolding record_length
passed l e t = let w = whole_says l (sym e ∙ not-false _ t) in record { head = w.head; long = w.long; within = w.within }

-- the rest after a record, as the code has it, is shorter
pub shorter : (l : List ℕ) (k : ℕ) → 1 ≤ k → k ≤ length l → length (take (length l - k) (drop k l)) < length l
shorter l k h w = rw (part_to_end l k) (omega (arith, length-drop k l))
