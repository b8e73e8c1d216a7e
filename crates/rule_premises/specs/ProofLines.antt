-- The lines where the code finds them are the lines that the walk reads.
use Rattle.std.specs.Prelude.{ℕ, zero, suc, ◌<◌, ◌≡◌, List, [], ◌∷◌, ◌++◌, length, drop}
use Rattle.std.proofs.Math.Path.{refl}
use Rattle.std.proofs.Common.{sym, ap, ◌∙◌, arith}
use Rattle.meaning.specs.Paths.{Label}
use Rattle.meaning.specs.Rules.{Line}
use Rattle.meaning.specs.Records.{record_length, record_body, read_line}
use Rattle.meaning.specs.Refusals.{first_of, line_tests, proof_walked}
use Rattle.meaning.specs.Operations.{records_from}
use Rattle.theory_records.specs.Walks.{Stopped, walk_keeps}
use Rattle.theory_records.specs.Profiles.{length_more}
use Rattle.theory_records.specs.Questions.{lines_long}
use Rattle.theory_records.specs.Bodies.{records_next}
use Rattle.rule_premises.specs.Premises.{lines_from}

pub lines_more : (n : ℕ) (l : List ℕ) → lines_from (suc n) l ≡ lines_from n l ++ (read_line (record_body (records_from n l)) ∷ [])
unfolding lines_from records_from
lines_more zero l = refl
lines_more (suc n) l = ap (λ (ls : List Line). read_line (record_body l) ∷ ls) (lines_more n (drop (record_length l) l))

record ReadAt (bytes : List ℕ) (n : ℕ) (lines : List Line) (rest : List ℕ) : Type 0 where
  here : rest ≡ records_from n bytes
  counted : n ≡ length lines
  are : lines_from n bytes ≡ lines

read_kept : (labels : List Label) (bytes : List ℕ) (n : ℕ) (lines : List Line) (l : List ℕ) → ReadAt bytes n lines l → 0 < length l
    → first_of (line_tests labels lines l) ≡ 0 → ReadAt bytes (suc n) (lines ++ (read_line (record_body l) ∷ [])) (drop (record_length l) l)
read_kept labels bytes n lines l g h e =
    record {
      here = ap (λ (m : List ℕ). drop (record_length m) m) g.here ∙ sym (records_next n bytes);
      counted = omega (arith, g.counted, length_more lines (read_line (record_body l)));
      are =
          lines_more n bytes ∙ ap (λ (ls : List Line). ls ++ (read_line (record_body (records_from n bytes)) ∷ [])) g.are
          ∙ ap (λ (m : List ℕ). lines ++ (read_line (record_body m) ∷ [])) (sym g.here);
    }

read_stop : (labels : List Label) (bytes : List ℕ) → Stopped (line_tests labels) (ReadAt bytes) (proof_walked labels bytes)
unfolding proof_walked
read_stop labels bytes =
    walk_keeps (line_tests labels) (λ (lines : List Line) (l : List ℕ). lines ++ (read_line (record_body l) ∷ [])) (ReadAt bytes)
    (lines_long labels)
    (read_kept labels bytes)
    0
    []
    bytes
    (record { here = unfold records_from in refl; counted = refl; are = unfold lines_from in refl })

-- all the lines that the walk reads
pub lines_are : (labels : List Label) (bytes : List ℕ) → lines_from (length (proof_walked labels bytes).state) bytes ≡ (proof_walked labels bytes).state
lines_are labels bytes =
    let held = (read_stop labels bytes).held in
    ap (λ (n : ℕ). lines_from n bytes) (sym held.counted) ∙ held.are
