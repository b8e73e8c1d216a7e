-- The writer, one law for each return, over what the code has found there.
use Rattle.std.specs.Prelude.{ℕ, ◌+◌, ◌-◌, ◌≤◌, ◌<◌, ◌≡◌, Bool, true, cond, length, take, drop}
use Rattle.std.proofs.Common.{sym, ap₂, subst, arith}
use Rattle.std.proofs.Math.Path.{ap}
use mathlib.Core.List.{List}
use Rattle.meaning.specs.Paths.{Label}
use Rattle.meaning.specs.Keys.{Key}
use Rattle.meaning.specs.Records.{record_body, read_key, key_in, is_some}
use Rattle.meaning.specs.Refusals.{first_entry, profile_refusal, question_refusal, question_in}
use Rattle.meaning.specs.Refusals as Table
use Rattle.meaning.specs.Operations.{refused_by, filled, records_from, labels_in, line_written}
use Rattle.meaning.specs.Text.{WritesLine, print_key, typed_of}
use Rattle.theory_records.specs.Encodings.{ends_key}
use Rattle.theory_records.specs.Profiles.{LabelsRead, profile_accepts}
use Rattle.theory_records.specs.Questions.{QuestionSound, question_accepts}
use Rattle.theory_answers.specs.Refusing.{unless_small, unless_room, unless_sound, sound_end}
use Rattle.theory_text.specs.Sizes.{line_fits}
use Rattle.read_entry.specs.Labels.{labels_at}
use Rattle.read_entry.specs.Repeats.{Standing}
use Rattle.read_labels.specs.LabelPart.{LabelPart, part_first, label_part}
use Rattle.op_answers.specs.declared.Refusal.{Refusal}
use Rattle.op_answers.specs.Cases.{meant, used_of}
use Rattle.op_accept.specs.Taken.{BothStop, both_stops, both_pass}
use Rattle.read_inputs.specs.Accepted.{Given}
use Rattle.write_bytes.specs.Wrote.{Wrote, wrote_is, wrote_front}

module _ {profile question classes : List ℕ} {second : Bool} {before keys : ℕ} (a : Given profile second before keys question classes) where
  the_key : QuestionSound (labels_in profile) question
  the_key = question_accepts (labels_in profile) question a.accepted_question

  module _ {first : ℕ} (f : first ≡ cond second 1 0) where
    pub first_low : first ≤ before
    first_low = part_first profile a.edition a.before_keys f

    module _ {labels : List ℕ} (l : labels ≡ records_from first profile) where
      names : LabelPart profile labels (before - first)
      names = label_part profile a.edition a.before_keys f l

      pub labels_stand : Standing 6 (before - first) labels
      labels_stand = names.stand

      line_is : print_key (typed_of (labels_at (before - first) labels) (key_in (take (length question - 4) (drop 4 question))))
          ≡ print_key (typed_of (labels_in profile) (question_in question))
      line_is = ap₂ (λ (ls : List Label) (k : Key). print_key (typed_of ls k)) names.are key_is
        where
          key_is : key_in (take (length question - 4) (drop 4 question)) ≡ question_in question
          key_is = unfold question_in record_body in ap (λ (n : ℕ). key_in (take (n - 4) (drop 4 question))) (sym the_key.size)

      pub line_room : (out : List ℕ) → 65536 ≤ length out
          → 0 + length (print_key (typed_of (labels_at (before - first) labels) (key_in (take (length question - 4) (drop 4 question))))) ≤ length out
      line_room out room = omega (arith, ap length line_is, line_fits read (question_in question) the_key.good)
        where
          read : LabelsRead (labels_in profile)
          read = unfold labels_in in (profile_accepts profile a.accepted_profile).good.labels

      pub line_put : {out end : List ℕ} {next : ℕ}
          → Wrote out end 0 (print_key (typed_of (labels_at (before - first) labels) (key_in (take (length question - 4) (drop 4 question))))) next
          → Wrote out end 0 (print_key (typed_of (labels_in profile) (question_in question))) next
      line_put w = wrote_is line_is w

  pub question_head : 4 ≤ length question
  question_head = omega (arith, the_key.is_whole.long, the_key.is_whole.within)

  pub question_shape : is_some (read_key (take (length question - 4) (drop 4 question))) ≡ true
  question_shape =
      subst (λ (n : ℕ). is_some (read_key (take (n - 4) (drop 4 question))) ≡ true) the_key.size
      (unfold record_body in ends_key question the_key.is_whole the_key.kind)

-- the returns
pub write_small : (profile question buffer : List ℕ) (r : Refusal) → length buffer < 65536 → meant r ≡ record { number = 14; input = 4; place = 0 }
    → WritesLine profile question buffer (refused_by (meant r) buffer)
unfolding WritesLine
write_small profile question buffer r h e =
    subst (λ (x : Table.Refusal). WritesLine profile question buffer (refused_by x buffer)) (sym e) (unless_small _ buffer _ h)

pub write_stops : {profile question : List ℕ} {r : Refusal} → BothStop profile question r → (buffer : List ℕ) → 65536 ≤ length buffer
    → WritesLine profile question buffer (refused_by (meant r) buffer)
unfolding WritesLine
write_stops s buffer room = unless_room _ buffer _ _ room (both_stops _ buffer _ s)

pub write_filled : {profile question classes : List ℕ} {second : Bool} {before keys : ℕ} → Given profile second before keys question classes
    → {buffer after : List ℕ} {used : ℕ} → 65536 ≤ length buffer
    → Wrote buffer after 0 (print_key (typed_of (labels_in profile) (question_in question))) used
    → WritesLine profile question buffer (used_of line_written used after)
unfolding WritesLine filled
write_filled g {buffer} room w =
    let v = wrote_front w in
    unless_room _ buffer _ _ room
    (both_pass g _ buffer _ _ (unless_sound _ buffer _ _ sound_end (ap₂ (λ (n : ℕ) (b : List ℕ). used_of line_written n b) v.0 v.1)))
