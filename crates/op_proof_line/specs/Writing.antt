-- The writer of a proof line, return by return, over what the code has found there.
use Rattle.std.specs.Prelude.{ℕ, ◌+◌, ◌-◌, ◌≤◌, ◌<◌, ◌≡◌, Bool, true, cond, Result, Ok, length, drop}
use Rattle.std.proofs.Common.{sym, ap₂, subst, ◌∙◌, arith}
use Rattle.std.proofs.Math.Path.{ap}
use mathlib.Core.List.{List, []}
use Rattle.std.proofs.Math.Decide.{dec_lt}
use Rattle.std.proofs.Math.ListN.{get_elem?}
use Rattle.meaning.specs.Limits.{in_proof}
use Rattle.meaning.specs.Paths.{Label}
use Rattle.meaning.specs.Rules.{Line, line_keys}
use Rattle.meaning.specs.Records.{record_body, read_line, read_key, key_in, is_some}
use Rattle.meaning.specs.Operations.{refused_by, plain, accepted, records_from, labels_in, line_written, ChecksProof}
use Rattle.meaning.specs.Text.{print_key, typed_of}
use Rattle.meaning.specs.Trimming.{lines_in}
use Rattle.meaning.specs.ProofText.{text_of, line_text, WritesProofLine}
use Rattle.theory_paths.specs.Good.{GoodKey}
use Rattle.theory_records.specs.Bodies.{records_none, records_add}
use Rattle.theory_records.specs.Places.{line_place}
use Rattle.theory_records.specs.Profiles.{LabelsRead, profile_accepts}
use Rattle.theory_text.specs.Sizes.{proof_line_fits}
use Rattle.theory_trim.specs.TrimmedBytes.{ProofSound, proof_sound, proof_ended}
use Rattle.read_inputs.specs.Accepted.{GivenProfile}
use Rattle.read_inputs.specs.declared.profile.Profile.{Profile}
use Rattle.read_entry.specs.Labels.{labels_at}
use Rattle.read_entry.specs.Repeats.{Standing}
use Rattle.read_labels.specs.LabelPart.{LabelPart, part_first, label_part}
use Rattle.rule_premises.specs.Premises.{LineRecord, line_at, line_none}
use Rattle.rule_premises.specs.ProofLines.{lines_are}
use Rattle.rule_lines.specs.Checking.{line_record}
use Rattle.op_answers.specs.declared.Refusal.{Refusal}
use Rattle.op_answers.specs.Cases.{meant, used_of}
use Rattle.op_accept.specs.Taken.{ProfileTaken}
use Rattle.write_bytes.specs.Wrote.{Wrote, wrote_is, wrote_none}
use Rattle.op_proof.specs.Taking.{return_small, return_refused, return_filled}

-- a proof that the check accepts under this profile, for some question
pub record Proved (profile proof : List ℕ) : Type 0 where
  pub question : List ℕ
  pub sound : ProofSound profile question proof

module _ {profile proof : List ℕ} (p : Proved profile proof) (n : ℕ) where
  -- a line that the proof has
  module _ (h : n < length (lines_in profile proof)) where
    line_there : LineRecord (records_from n proof)
    unfolding lines_in
    line_there =
        let q = line_place (labels_in profile) proof n h in
        line_record (labels_in profile) [] (records_from n proof)
        (record { is_whole = q.is_whole; kind = q.kind; room = omega arith; good = q.good })

    line_good : GoodKey (labels_in profile) in_proof (key_in (drop 5 (record_body (records_from n proof))))
    unfolding lines_in read_line
    line_good = (line_place (labels_in profile) proof n h).good

    line_is : line_text profile proof n ≡ print_key (typed_of (labels_in profile) (key_in (drop 5 (record_body (records_from n proof)))))
    unfolding line_text lines_in text_of
    line_is =
        ap (λ (ls : List Line). text_of (labels_in profile) (get_elem? (line_keys ls) n)) (sym (lines_are (labels_in profile) proof))
        ∙ ap (text_of (labels_in profile)) (line_at _ n proof h)

  -- nothing stands where the proof has no such line
  no_line : (n < length (lines_in profile proof) → ⊥) → records_from n proof ≡ []
  no_line h =
      let k : ℕ = length (lines_in profile proof) in
      ap (λ (m : ℕ). records_from m proof) (let z : n ≡ k + (n - k) = omega arith in z)
      ∙ (records_add k (n - k) proof ∙ (ap (records_from (n - k)) (proof_ended p.sound) ∙ records_none (n - k)))

  line_missing : (n < length (lines_in profile proof) → ⊥) → line_text profile proof n ≡ []
  unfolding line_text lines_in text_of
  line_missing h =
      ap (λ (ls : List Line). text_of (labels_in profile) (get_elem? (line_keys ls) n)) (sym (lines_are (labels_in profile) proof))
      ∙ ap (text_of (labels_in profile)) (line_none _ n proof (omega arith))

  module _ {rest : List ℕ} (r : rest ≡ records_from n proof) where
    pub line_none_put : length rest ≡ 0 → (out : List ℕ) → Wrote out out 0 (line_text profile proof n) 0
    line_none_put e out = go (dec_lt n (length (lines_in profile proof)))
      where
        go : Dec (n < length (lines_in profile proof)) → Wrote out out 0 (line_text profile proof n) 0
        go (yes h) = let l = line_there h in let a = l.long in let b = l.within in absurd (omega (arith, ap length r))
        go (no h) = wrote_is (sym (line_missing h)) (wrote_none out 0 (omega arith))

    module _ (ne : length rest ≡ 0 → ⊥) where
      stands : n < length (lines_in profile proof)
      stands = go (dec_lt n (length (lines_in profile proof)))
        where
          go : Dec (n < length (lines_in profile proof)) → n < length (lines_in profile proof)
          go (yes h) = h
          go (no h) = absurd (ne (ap length (r ∙ no_line h)))

      pub key_record : LineRecord (records_from n proof)
      key_record = line_there stands

      pub key_shape : {key : List ℕ} → key ≡ drop 5 (record_body (records_from n proof)) → is_some (read_key key) ≡ true
      key_shape k = subst (λ (b : List ℕ). is_some (read_key b) ≡ true) (sym k) key_record.key.shape

-- the profile of an accepted proof is accepted again
pub given_again : {profile : List ℕ} (taken : Result Profile Refusal) → ProfileTaken profile taken → {read : Profile} → taken ≡ Ok read
    → GivenProfile profile read.second read.before read.keys read.classes
given_again {profile} taken told e = (subst (ProfileTaken profile) e told).0

module _ {profile proof : List ℕ} (p : Proved profile proof) {classes : List ℕ} {second : Bool} {before keys : ℕ}
    (given : GivenProfile profile second before keys classes) where
  module _ {first : ℕ} (f : first ≡ cond second 1 0) where
    pub given_first : first ≤ before
    given_first = part_first profile given.edition given.before_keys f

    module _ {labels : List ℕ} (l : labels ≡ records_from first profile) where
      names : LabelPart profile labels (before - first)
      names = label_part profile given.edition given.before_keys f l

      pub given_labels : Standing 6 (before - first) labels
      given_labels = names.stand

      module _ (n : ℕ) {rest : List ℕ} (r : rest ≡ records_from n proof) (ne : length rest ≡ 0 → ⊥) {key : List ℕ}
          (k : key ≡ drop 5 (record_body (records_from n proof))) where
        key_is : print_key (typed_of (labels_at (before - first) labels) (key_in key)) ≡ line_text profile proof n
        key_is = ap₂ (λ (ls : List Label) (b : List ℕ). print_key (typed_of ls (key_in b))) names.are k ∙ sym (line_is p n (stands p n r ne))

        pub key_room : (out : List ℕ) → 65536 ≤ length out → 0 + length (print_key (typed_of (labels_at (before - first) labels) (key_in key))) ≤ length out
        key_room out room =
            let h = stands p n r ne in
            omega (arith, ap length (key_is ∙ line_is p n h), proof_line_fits read _ (line_good p n h))
          where
            read : LabelsRead (labels_in profile)
            read = unfold labels_in in (profile_accepts profile p.sound.sound_profile).good.labels

        pub key_put : {out end : List ℕ} {next : ℕ} → Wrote out end 0 (print_key (typed_of (labels_at (before - first) labels) (key_in key))) next
            → Wrote out end 0 (line_text profile proof n) next
        key_put w = wrote_is key_is w

-- ---- the operation

-- 14, before all else
pub write_small : (profile question proof : List ℕ) (n : ℕ) (buffer : List ℕ) (r : Refusal) → length buffer < 65536
    → meant r ≡ record { number = 14; input = 4; place = 0 } → WritesProofLine profile question proof n buffer (refused_by (meant r) buffer)
unfolding WritesProofLine
write_small profile question proof n buffer = return_small line_written profile question proof (line_text profile proof n) buffer

-- the check's own refusal
pub write_refused : (profile question proof : List ℕ) (n : ℕ) (buffer : List ℕ) (r : Refusal) → ChecksProof profile question proof (refused_by (meant r) [])
    → 65536 ≤ length buffer → WritesProofLine profile question proof n buffer (refused_by (meant r) buffer)
unfolding WritesProofLine
write_refused profile question proof n buffer r checked room =
    return_refused line_written profile question proof (line_text profile proof n) buffer room r checked

module _ (profile question proof : List ℕ) (checked : ChecksProof profile question proof (plain accepted)) where
  pub write_proved : Proved profile proof
  write_proved = record { question = question; sound = proof_sound profile question proof checked }

  pub write_filled : (n : ℕ) {buffer after : List ℕ} {used : ℕ} → 65536 ≤ length buffer → Wrote buffer after 0 (line_text profile proof n) used
      → WritesProofLine profile question proof n buffer (used_of line_written used after)
  unfolding WritesProofLine
  write_filled n {buffer} room wrote = return_filled line_written profile question proof (line_text profile proof n) buffer room checked wrote
