-- What the readers found, put into 01's order of refusals: the profile's, the question's, the proof's size, then the lines.
use Rattle.std.specs.Prelude.{ℕ, ◌≤◌, ◌<◌, ◌≡◌, refl, Bool, Result, Ok, Err, length}
use Rattle.std.proofs.Math.Path.{sym}
use Rattle.std.proofs.Common.{◌∙◌, ap, subst, arith, lt-ltb}
use mathlib.Core.List.{List, []}
use Rattle.meaning.specs.Refusals.{oversize, question_in, proof_walked}
use Rattle.meaning.specs.Refusals as Table
use Rattle.meaning.specs.Operations.{Answer, ChecksProof, ProofJudged, refused_by, plain, accepted, single_in, labels_in, keys_in}
use Rattle.read_judged.specs.declared.Fault.{Fault}
use Rattle.op_answers.specs.declared.Refusal.{Refusal}
use Rattle.op_answers.specs.declared.Input.TheVariants as I
use Rattle.op_answers.specs.Cases.{meant, outcome_of, checking_answer}
use Rattle.read_inputs.specs.Accepted.{Given}
use Rattle.op_accept.specs.Taken.{BothStop, both_stops, both_pass}
use Rattle.rule_lines.specs.Checking.{checked_answer}
use Rattle.theory_answers.specs.Refusing.{unless_sound, unless_refused, sound_more, sound_end, first_stops, fits_size}

-- 7: "an input or a count is over its limit": of a proof, input 3
pub over_size : (proof : List ℕ) → 65536 < length proof → oversize 3 65536 proof ≡ record { number = 7; input = 3; place = 0 }
unfolding oversize
over_size proof h = rw (lt-ltb 65536 (length proof) h) refl

-- what 01 asks of the lines
abbrev Judges : (profile question proof : List ℕ) → Answer → Type 0
Judges profile question proof = ProofJudged (single_in profile) (labels_in profile) (keys_in profile) (question_in question) (proof_walked (labels_in profile) proof)

-- the profile's refusal, or the question's
pub proof_stops : {profile question : List ℕ} {r : Refusal} → BothStop profile question r → (proof : List ℕ) → ChecksProof profile question proof (refused_by (meant r) [])
unfolding ChecksProof
proof_stops s proof = both_stops _ [] _ s

module _ {profile question classes : List ℕ} {newer : Bool} {before keys : ℕ} (g : Given profile newer before keys question classes) (proof : List ℕ) where
  pub proof_over : 65536 < length proof → ChecksProof profile question proof (refused_by (record { number = 7; input = 3; place = 0 }) [])
  unfolding ChecksProof
  proof_over h =
      let e = over_size proof h in
      both_pass g _ [] _ _
      (unless_refused _ [] _ _ (first_stops (oversize 3 65536 proof) [] (λ z. let n : 7 ≡ 0 = sym (ap (λ (r : Table.Refusal). r.number) e) ∙ z in omega arith) ∙ e)
      (omega arith))

  module _ (fits : length proof ≤ 65536) where
    passed : (answer : Answer) → Judges profile question proof answer → ChecksProof profile question proof answer
    unfolding ChecksProof
    passed answer q = both_pass g _ [] _ answer (unless_sound _ [] _ answer (sound_more _ _ (fits_size 3 65536 proof fits) sound_end) q)

    -- the answer of the lines, as input 3
    pub proof_judged : (proved : Result Unit Fault) → Judges profile question proof (checked_answer proved) → {r : Result Unit Refusal}
        → r ≡ outcome_of I.TreeOrProof proved → ChecksProof profile question proof (checking_answer r)
    unfolding checked_answer
    proof_judged (Ok u) q e = rw e (passed _ q)
    proof_judged (Err fault) q e = rw e (passed _ q)
