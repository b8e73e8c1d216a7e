-- One law for each return: what the readers found of profile and line, put into the definition.
use Rattle.std.specs.Prelude.{ℕ, ◌-◌, ◌≤◌, ◌<◌, ◌≡◌, Bool, cond, Result, Ok, Err, length, take}
use Rattle.std.proofs.Common.{sym, ◌∙◌, ap₂, subst, arith}
use Rattle.std.proofs.Math.Path.{ap}
use mathlib.Core.List.{List, []}
use Rattle.meaning.specs.Limits.{in_profile}
use Rattle.meaning.specs.Paths.{Label}
use Rattle.meaning.specs.Keys.{Key}
use Rattle.meaning.specs.Records.{key_bytes}
use Rattle.meaning.specs.Refusals.{first_of, key_tests}
use Rattle.meaning.specs.Refusals as Table
use Rattle.meaning.specs.Operations.{Answer, refused_by, filled, records_from, labels_in, key_read}
use Rattle.meaning.specs.Text.{TextJudged, not_a_line, unknown_name, bad_key, is_key, ReadsLine}
use Rattle.theory_answers.specs.Refusing.{unless_small, unless_sound, unless_room, sound_more, sound_end}
use Rattle.theory_text.specs.Printing.{print_read, none_line}
use Rattle.read_record.specs.Classes.{key_tests_by}
use Rattle.read_record.specs.Tables.{ByteKey, tests_tabled}
use Rattle.read_inputs.specs.Accepted.{GivenProfile}
use Rattle.read_entry.specs.Labels.{labels_at}
use Rattle.read_entry.specs.Repeats.{Standing}
use Rattle.read_labels.specs.LabelPart.{LabelPart, part_first, label_part}
use Rattle.read_line.specs.Told.{LineTold, bytes_used, not_line, no_name, is_typed}
use Rattle.write_bytes.specs.Wrote.{Wrote, wrote_front}
use Rattle.read_judged.specs.Answers.{told, some_number}
use Rattle.read_judged.specs.declared.RefusalKind.{RefusalKind}
use Rattle.op_answers.specs.declared.Refusal.{Refusal}
use Rattle.op_answers.specs.declared.Input.TheVariants as I
use Rattle.op_answers.specs.Cases.{meant, used_of}
use Rattle.op_accept.specs.Taken.{ProfileStops, profile_stops}

pub small_reads : (profile line buffer : List ℕ) (r : Refusal) → length buffer < 65536 → meant r ≡ record { number = 14; input = 4; place = 0 }
    → ReadsLine profile line buffer (refused_by (meant r) buffer)
unfolding ReadsLine
small_reads profile line buffer r h e =
    subst (λ (x : Table.Refusal). ReadsLine profile line buffer (refused_by x buffer)) (sym e) (unless_small _ buffer _ h)

pub read_stops : {profile : List ℕ} {r : Refusal} → ProfileStops profile r → (line buffer : List ℕ) → 65536 ≤ length buffer
    → ReadsLine profile line buffer (refused_by (meant r) buffer)
unfolding ReadsLine
read_stops s line buffer h = unless_room _ buffer _ _ h (profile_stops _ buffer _ s)

-- the line's refusal is that of input 2
abbrev pub of_line : Result ℕ RefusalKind → Result ℕ Refusal
of_line (Ok used) = Ok used
of_line (Err kind) = Err (record { kind = kind; input = I.Question; place = 0 })

pub record RefusedLine (r : Refusal) (number : ℕ) : Type 0 where
  pub is : meant r ≡ record { number = number; input = 2; place = 0 }
  pub some : number ≡ 0 → ⊥

pub line_fault : (read : Result ℕ RefusalKind) {r : Refusal} → Err r ≡ of_line read → RefusedLine r (told read)
line_fault (Ok used) e = cc
line_fault (Err kind) {r} e = let s : r ≡ record { kind = kind; input = I.Question; place = 0 } = cc in record { is = ap meant s; some = some_number kind }

pub line_read : (read : Result ℕ RefusalKind) {used : ℕ} → Ok used ≡ of_line read → {labels : List Label} {classes line out : List ℕ}
    → LineTold labels classes line out (told read) (bytes_used read) → LineTold labels classes line out 0 used
line_read (Ok n) {used} e {labels} {classes} {line} {out} says = let s : n ≡ used = cc in subst (LineTold labels classes line out 0) s says
line_read (Err kind) e says = cc

module _ {profile classes : List ℕ} {second : Bool} {before keys : ℕ} (given : GivenProfile profile second before keys classes) {first : ℕ} (e : first ≡ cond second 1 0) where
  pub ready_first : first ≤ before
  ready_first = part_first profile given.edition given.before_keys e

  module _ {labels : List ℕ} (is : labels ≡ records_from first profile) where
    names : LabelPart profile labels (before - first)
    names = label_part profile given.edition given.before_keys e is

    pub ready_standing : Standing 6 (before - first) labels
    ready_standing = names.stand

    module _ {line record-bytes : List ℕ} {number used : ℕ} (says : LineTold (labels_at (before - first) labels) classes line record-bytes number used) where
      in_profile_lem : LineTold (labels_in profile) classes line record-bytes number used
      in_profile_lem = subst (λ (ls : List Label). LineTold ls classes line record-bytes number used) names.are says

      tests : (key : Key) → ByteKey key → key_tests_by classes in_profile key ≡ key_tests (labels_in profile) in_profile key
      tests key k = tests_tabled given.tabled in_profile key k

      module _ (buffer : List ℕ) (room : 65536 ≤ length buffer) where
        judged : (a : Answer) → TextJudged (labels_in profile) line buffer a → ReadsLine profile line buffer a
        unfolding ReadsLine
        judged a j =
            unless_room _ buffer _ a room
            (unless_sound _ buffer _ a (sound_more _ [] given.accepted_profile sound_end) j)

        -- 17, 18, or the key's number
        pub line_refused : {r : Refusal} → RefusedLine r number → ReadsLine profile line buffer (refused_by (meant r) buffer)
        line_refused {r} refused_line =
            subst (λ (x : Table.Refusal). ReadsLine profile line buffer (refused_by x buffer)) (sym refused_line.is) (judged (by number) (go in_profile_lem))
          where
            by : ℕ → Answer
            by m = refused_by (record { number = m; input = 2; place = 0 }) buffer

            go : LineTold (labels_in profile) classes line record-bytes number used → TextJudged (labels_in profile) line buffer (by number)
            go (not_line e r) = not_a_line (none_line line r) (ap by e)
            go (no_name k e r t) = unknown_name k (print_read line k r) t (ap by e)
            go (is_typed k key r t bytes e w) =
                let f : number ≡ first_of (key_tests (labels_in profile) in_profile key) = e ∙ ap first_of (tests key bytes) in
                bad_key k (print_read line k r) key t (λ z. refused_line.some (f ∙ z)) (ap by f)

        pub line_filled : number ≡ 0 → {after : List ℕ} {end : ℕ} → Wrote buffer after 0 (take used record-bytes) end
            → ReadsLine profile line buffer (used_of key_read end after)
        line_filled z {after} {end} wrote = judged _ (go in_profile_lem)
          where
            is_filled : (key : Key) → take used record-bytes ≡ key_bytes key → used_of key_read end after ≡ filled key_read (key_bytes key) buffer
            is_filled key q =
                let w = wrote_front wrote in
                ap₂ (λ (n : ℕ) (b : List ℕ). used_of key_read n b) w.0 w.1 ∙ ((unfold filled in ap (λ (v : List ℕ). filled key_read v buffer) q))

            go : LineTold (labels_in profile) classes line record-bytes number used → TextJudged (labels_in profile) line buffer (used_of key_read end after)
            go (not_line e r) = absurd (omega arith)
            go (no_name k e r t) = absurd (omega arith)
            go (is_typed k key r t bytes e w) = is_key k (print_read line k r) key t (sym (e ∙ ap first_of (tests key bytes)) ∙ z) (is_filled key (w z).0)
