-- An accepted question, and the lines of a proof before the walk stops.
use Rattle.std.specs.Prelude.{ℕ, suc, ◌-◌, ◌≤◌, ◌<◌, ◌≡◌, refl, ◌⊎◌, cond, length, drop}
use Rattle.std.proofs.Common.{sym, subst, ap, ◌∙◌, inl, inr, ⊎_elim, arith, length-drop}
use mathlib.Core.List.{List, [], ◌∷◌, ◌++◌, append-nil, cons≢nil}
use Rattle.meaning.specs.Limits.{in_profile, in_proof}
use Rattle.meaning.specs.Lists.{Each, end, is_empty}
use Rattle.meaning.specs.Paths.{Label}
use Rattle.meaning.specs.Keys.{Key}
use Rattle.meaning.specs.Rules.{Line}
use Rattle.meaning.specs.Records.{record_length, record_kind, record_body, key_in, key_bytes, read_line}
use Rattle.meaning.specs.Refusals.{sound, first_of, question_tests, question_walked, question_refusal, question_in, line_tests, proof_walked}
use Rattle.theory_paths.specs.Good.{GoodKey}
use Rattle.theory_records.specs.Walks.{walk_keeps}
use Rattle.theory_records.specs.Bytes.{Bytes}
use Rattle.theory_records.specs.Heads.{Whole}
use Rattle.theory_records.specs.Encodings.{key_record_written}
use Rattle.theory_records.specs.Judged.{QuestionAccepted, question_accepted, line_accepted}
use Rattle.theory_records.specs.Profiles.{each_more, length_more, refusal_none}

-- The question is still to be read, or it has been read
pub record Unread (bytes : List ℕ) (read : List Key) (rest : List ℕ) : Type 0 where
  pub none : read ≡ []
  pub all : rest ≡ bytes

pub record Read (labels : List Label) (bytes : List ℕ) (read : List Key) (rest : List ℕ) : Type 0 where
  pub one : read ≡ question_in bytes ∷ []
  pub accepted : QuestionAccepted labels [] bytes
  pub left : rest ≡ drop (record_length bytes) bytes

pub record QuestionAt (labels : List Label) (bytes : List ℕ) (n : ℕ) (read : List Key) (rest : List ℕ) : Type 0 where
  pub either : Unread bytes read rest ⊎ Read labels bytes read rest

question_kept : (labels : List Label) (bytes : List ℕ) (n : ℕ) (read : List Key) (l : List ℕ) → QuestionAt labels bytes n read l → 0 < length l
    → first_of (question_tests labels read l) ≡ 0
    → QuestionAt labels bytes (suc n) (read ++ (key_in (record_body l) ∷ [])) (drop (record_length l) l)
unfolding question_in
question_kept labels bytes n read l g h e =
    let a = question_accepted labels read l e in
    ⊎_elim
    (λ (u : Unread bytes read l).
    record {
      either =
          inr
          (record {
            one = rw (u.none, u.all);
            accepted = subst (λ (x : List ℕ). QuestionAccepted labels [] x) u.all (subst (λ (r : List Key). QuestionAccepted labels r l) u.none a);
            left = ap (λ (x : List ℕ). drop (record_length x) x) u.all;
          });
    })
    (λ (r : Read labels bytes read l). absurd (cons≢nil (sym r.one ∙ a.alone)))
    g.either

pub question_long : (labels : List Label) (read : List Key) (l : List ℕ) → 0 < length l → first_of (question_tests labels read l) ≡ 0 → 1 ≤ record_length l
question_long labels read l h e = omega (arith, (question_accepted labels read l e).is_whole.long)

-- What acceptance of a question says: it is one key record, to the end
pub record QuestionSound (labels : List Label) (bytes : List ℕ) : Type 0 where
  pub is_whole : Whole bytes
  pub kind : record_kind bytes ≡ 2
  pub good : GoodKey labels in_profile (question_in bytes)
  pub ended : drop (record_length bytes) bytes ≡ []
  pub size : record_length bytes ≡ length bytes

pub question_accepts : (labels : List Label) (bytes : List ℕ) → (question_refusal labels bytes).number ≡ 0 → QuestionSound labels bytes
unfolding question_refusal question_walked question_in is_empty
question_accepts labels bytes e =
    let one = refusal_none _ _ e in
    let two = refusal_none _ _ one.1 in
    let w =
    walk_keeps (question_tests labels) (λ (read : List Key) (l : List ℕ). read ++ (key_in (record_body l) ∷ [])) (QuestionAt labels bytes)
    (question_long labels)
    (question_kept labels bytes)
    0
    []
    bytes
    (record { either = inl (record { none = refl; all = refl }) }) in
    ⊎_elim (λ (u : Unread bytes _ w.rest). absurd (not_empty bytes (sym u.all ∙ w.sound one.0) two.0))
    (λ (r : Read labels bytes _ w.rest).
    let ended : drop (record_length bytes) bytes ≡ [] = sym r.left ∙ w.sound one.0 in
    let none : length bytes - record_length bytes ≡ 0 = sym (length-drop (record_length bytes) bytes) ∙ ap length ended in
    record {
      is_whole = r.accepted.is_whole;
      kind = r.accepted.kind;
      good = r.accepted.good;
      ended = ended;
      size = omega (arith, r.accepted.is_whole.within);
    })
    w.held.either
  where
    not_empty : (l : List ℕ) → l ≡ [] → (cond (is_empty l) (record { number = 1; input = 2; place = 0 }) sound).number ≡ 0 → ⊥
    not_empty [] q h = omega arith
    not_empty (b ∷ l) q h = cons≢nil q

pub question_written : (labels : List Label) (bytes : List ℕ) → Bytes bytes → (question_refusal labels bytes).number ≡ 0
    → key_bytes (question_in bytes) ≡ bytes
unfolding question_in
question_written labels bytes small e =
    let a = question_accepts labels bytes e in
    sym (append-nil (key_bytes (key_in (record_body bytes))))
    ∙ subst (λ (rest : List ℕ). key_bytes (key_in (record_body bytes)) ++ rest ≡ bytes) a.ended
    (key_record_written bytes small a.is_whole a.kind)

-- The lines of a proof that were read
pub record LinesAt (labels : List Label) (n : ℕ) (lines : List Line) : Type 0 where
  pub counted : n ≡ length lines
  pub few : length lines ≤ 256
  pub good : Each (λ (x : Line). GoodKey labels in_proof x.key) lines

lines_kept : (labels : List Label) (n : ℕ) (lines : List Line) (l : List ℕ) → LinesAt labels n lines → 0 < length l
    → first_of (line_tests labels lines l) ≡ 0 → LinesAt labels (suc n) (lines ++ (read_line (record_body l) ∷ []))
lines_kept labels n lines l g h e =
    let a = line_accepted labels lines l e in
    let more : length (lines ++ (read_line (record_body l) ∷ [])) ≡ suc (length lines) = length_more lines (read_line (record_body l)) in
    record { counted = omega (arith, g.counted); few = omega (arith, a.room); good = each_more g.good a.good }

pub lines_long : (labels : List Label) (lines : List Line) (l : List ℕ) → 0 < length l → first_of (line_tests labels lines l) ≡ 0 → 1 ≤ record_length l
lines_long labels lines l h e = omega (arith, (line_accepted labels lines l e).is_whole.long)

pub lines_at_stop : (labels : List Label) (bytes : List ℕ) → LinesAt labels (proof_walked labels bytes).at (proof_walked labels bytes).state
unfolding proof_walked
lines_at_stop labels bytes =
    (walk_keeps (line_tests labels) (λ (lines : List Line) (l : List ℕ). lines ++ (read_line (record_body l) ∷ [])) (λ n lines rest. LinesAt labels n lines)
    (lines_long labels)
    (lines_kept labels)
    0
    []
    bytes
    (record { counted = refl; few = omega arith; good = end })
    ).held
