-- The proof's lines over the profile's bytes: key number s stands at record labels + s. They are theory_derive's lines.
use Rattle.std.specs.Prelude.{ℕ, ◌+◌, ◌-◌, ◌≤◌, ◌≡◌, refl, Bool, true, false, cond, List, [], ◌∷◌, ◌++◌, leb, length}
use Rattle.std.proofs.Common.{ap₂, leb-true}
use Rattle.meaning.specs.Rules.{Line}
use Rattle.meaning.specs.Keys.{Key}
use Rattle.meaning.specs.Records.{key_in, record_body}
use Rattle.meaning.specs.Operations.{records_from}
use Rattle.meaning.specs.Pattern.{t_of}
use Rattle.theory_pattern.specs.Spots.{Taken, row_of, holds_empty}
use Rattle.theory_derive.specs.Written.{one_line, chain_lines, end_lines, empty_lines, step_lines, first_line}
use Rattle.write_step.specs.StepLines.{opening_of, united_by, chain_lines_of, end_lines_of, empty_lines_of}
use Rattle.write_proof.specs.Derived.{KeyNormal, opening_is, chain_is, end_is, empty_is}

-- the key of record n
unfoldable pub cited_key : List ℕ → ℕ → Key
cited_key profile n = key_in (record_body (records_from n profile))

-- the lines of a step over the line that its spot lies on
unfoldable pub step_on : (row : List ℕ) (asked s : Key) (number i k lines : ℕ) → List Line
step_on row asked s number i k lines =
    opening_of row s number i k lines
    ++ cond (leb k (t_of asked)) (chain_lines_of row (t_of asked) asked (united_by asked s (t_of asked - k)) i k lines)
    (cond (holds_empty asked) (empty_lines_of row (t_of asked) asked s i k lines) (end_lines_of row (t_of asked) asked i lines))

pub step_on_is : (asked s : Key) (number i j k lines : ℕ) → KeyNormal s → i ≤ t_of asked → i ≤ k
    → step_on (row_of asked j) asked s number i k lines ≡ step_lines asked s number i j k lines
unfolding step_on step_lines
step_on_is asked s number i j k lines n h l = ap₂ (λ (a b : List Line). a ++ b) (opening_is asked j s number i k lines n h l) (go (leb k (t_of asked)) refl)
  where
    go : (b : Bool) → leb k (t_of asked) ≡ b
        → cond b (chain_lines_of (row_of asked j) (t_of asked) asked (united_by asked s (t_of asked - k)) i k lines)
        (cond (holds_empty asked) (empty_lines_of (row_of asked j) (t_of asked) asked s i k lines) (end_lines_of (row_of asked j) (t_of asked) asked i lines))
        ≡ cond b (chain_lines asked s i j k lines) (cond (holds_empty asked) (empty_lines asked s i j k lines) (end_lines asked i j lines))
    go true e = chain_is asked j s i k lines h l (leb-true k (t_of asked) e)
    go false e =
        ap₂ (λ (a b : List Line). cond (holds_empty asked) a b) (empty_is asked j s i k lines h l) (end_is asked j i lines h)

unfoldable pub taken_by : List ℕ → ℕ → Key → Taken → ℕ → List Line
taken_by profile labels asked t lines = step_lines asked (cited_key profile (labels + t.key)) t.key t.node t.branch t.spot lines

unfoldable pub lines_by : List ℕ → ℕ → Key → ℕ → List Taken → List Line
lines_by profile labels asked lines [] = one_line 7 (lines - 1) asked ∷ []
lines_by profile labels asked lines (t ∷ steps) =
    let here = taken_by profile labels asked t lines in
    here ++ lines_by profile labels asked (lines + length here) steps

unfoldable pub proof_by : List ℕ → ℕ → Key → ℕ → List Taken → List Line
proof_by profile labels asked u steps = first_line asked u ∷ lines_by profile labels asked 1 steps
