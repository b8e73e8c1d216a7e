-- Verdict "implied": the lines that the remembered steps give are a proof that the check accepts, and what it shows is true of every tree.
use Rattle.std.specs.Prelude.{ℕ, ◌≤◌, ◌≡◌, length}
use Rattle.std.proofs.Math.Path.{refl}
use Rattle.std.proofs.Common.{sym, subst, arith}
use mathlib.Core.List.{List, [], map, flatten}
use Rattle.meaning.specs.Limits.{in_profile, in_proof, proof_bytes}
use Rattle.meaning.specs.Lists.{Each, end, also}
use Rattle.meaning.specs.Paths.{Label}
use Rattle.meaning.specs.Rules.{Line, Accepted}
use Rattle.meaning.specs.Records.{line_bytes}
use Rattle.meaning.specs.Refusals
use Rattle.meaning.specs.Refusals.{Walked, profile_refusal, question_refusal, question_in, proof_walked}
use Rattle.meaning.specs.Operations
use Rattle.meaning.specs.Operations.{second_in, single_in, labels_in, keys_in, ChecksProof, ProofJudged, proved, plain, filled, accepted, implied, ProofWritten}
use Rattle.theory_paths.specs.Good.{GoodKey}
use Rattle.theory_records.specs.Profiles.{accepted_labels, accepted_keys, accepted_few}
use Rattle.theory_records.specs.Questions.{question_accepts}
use Rattle.theory_records.specs.WrittenInputs.{LineFits, proof_walked_written}
use Rattle.theory_answers.specs.Refusing.{unless_sound, sound_more, sound_end, fits_size}
use Rattle.theory_rules.specs.Accepted.{accepted_implied}
use Rattle.theory_pattern.specs.Spots.{Taken, Ends, Chain}
use Rattle.theory_pattern.specs.Singles.{single_clear}
use Rattle.theory_derive.specs.Written.{proof_lines}
use Rattle.theory_derive.specs.Runs.{FineLine}
use Rattle.theory_derive.specs.Accept.{proof_accepted, proof_fine, proof_few}
use Rattle.theory_derive.specs.Bytes.{FieldsFit, proof_bytes_lem, proof_fields}

both_fit : (labels : List Label) {lines : List Line} → Each (FineLine labels) lines → Each FieldsFit lines → Each (LineFits labels) lines
both_fit labels end end = end
both_fit labels (also g gs) (also f fs) = also (record { first = f.first; second = f.second; good = g.good }) (both_fit labels gs fs)

fine_keys : (labels : List Label) {lines : List Line} → Each (FineLine labels) lines → Each (λ (l : Line). GoodKey labels in_proof l.key) lines
fine_keys labels end = end
fine_keys labels (also g gs) = also g.good (fine_keys labels gs)

module _ (profile question : List ℕ) (sound_profile : (profile_refusal profile).number ≡ 0)
    (sound_question : (question_refusal (labels_in profile) question).number ≡ 0) {u : ℕ} {steps : List Taken}
    (chain : Chain (keys_in profile) (question_in question) u steps) (reached : Ends (single_in profile) (question_in question) u) where
  -- the bytes that are written
  unfoldable pub proof_bytes_of : List ℕ
  proof_bytes_of = flatten (map line_bytes (proof_lines (keys_in profile) (question_in question) u steps))

  good_keys : Each (GoodKey (labels_in profile) in_profile) (keys_in profile)
  good_keys = accepted_keys profile sound_profile

  good_asked : GoodKey (labels_in profile) in_profile (question_in question)
  good_asked = (question_accepts (labels_in profile) question sound_question).good

  fine : Each (FineLine (labels_in profile)) (proof_lines (keys_in profile) (question_in question) u steps)
  fine = proof_fine (labels_in profile) (keys_in profile) (question_in question) good_keys good_asked chain

  few : length (proof_lines (keys_in profile) (question_in question) u steps) ≤ 66
  few = proof_few (labels_in profile) (keys_in profile) (question_in question) good_keys good_asked chain

  holds_lines : Accepted (single_in profile) (labels_in profile) (keys_in profile) (question_in question) (proof_lines (keys_in profile) (question_in question) u steps)
  unfolding single_in
  holds_lines =
      proof_accepted (labels_in profile) (keys_in profile) (question_in question) good_keys good_asked (single_in profile)
      (single_clear (second_in profile) (labels_in profile) (accepted_labels profile sound_profile)) chain reached

  walked : proof_walked (labels_in profile) proof_bytes_of
      ≡ record { number = 0; at = length (proof_lines (keys_in profile) (question_in question) u steps); state = proof_lines (keys_in profile) (question_in question) u steps }
  unfolding proof_bytes_of
  walked =
      proof_walked_written (labels_in profile) _
      (both_fit (labels_in profile) fine
      (proof_fields (labels_in profile) (keys_in profile) (question_in question) good_keys good_asked
      (let f = accepted_few profile sound_profile in omega arith) chain))
      (let f = few in omega arith)

  pub proof_size : length proof_bytes_of ≤ 65536
  unfolding proof_bytes_of
  proof_size = proof_bytes_lem (labels_in profile) (keys_in profile) (question_in question) good_keys good_asked chain

  pub proof_checks : ChecksProof profile question proof_bytes_of (plain accepted)
  unfolding ChecksProof
  proof_checks =
      unless_sound _ [] _ (plain accepted)
      (sound_more _ _ sound_profile (sound_more _ _ sound_question (sound_more _ _ (fits_size 3 proof_bytes proof_bytes_of proof_size) sound_end)))
      (subst (λ (w : Walked (List Line)). ProofJudged (single_in profile) (labels_in profile) (keys_in profile) (question_in question) w (plain accepted)) (sym walked)
      (proved holds_lines.each refl holds_lines.last refl))

  pub implied_written : (buffer : List ℕ) → 65536 ≤ length buffer → ProofWritten profile question buffer (filled implied proof_bytes_of buffer)
  unfolding single_in
  implied_written buffer room =
      record {
        holds =
            accepted_implied (second_in profile) (labels_in profile) (keys_in profile) (question_in question) _ (accepted_labels profile sound_profile)
            (fine_keys (labels_in profile) fine) holds_lines;
        bytes = proof_bytes_of;
        checked = proof_checks;
        answered = refl;
        fits = let h = proof_size in omega arith;
      }
