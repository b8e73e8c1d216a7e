-- What the prologue found, put into the laws of the operations.
use Rattle.std.specs.Prelude.{ℕ, ◌+◌, ◌≤◌, ◌<◌, ◌≡◌, Bool, true, false, Ok, length}
use Rattle.std.proofs.Common.{sym, ◌∙◌, ap, ap₂, arith, pos_of_ne-zero}
use Rattle.std.proofs.Math.Path.{subst}
use mathlib.Core.List.{List, []}
use Rattle.meaning.specs.Paths.{member}
use Rattle.meaning.specs.Records.{record_body}
use Rattle.meaning.specs.Refusals.{path_refusal}
use Rattle.meaning.specs.Refusals as Table
use Rattle.meaning.specs.Operations.{Rewrites, Includes, refused_by, filled, rewritten, labels_in, body_at, records_from}
use Rattle.read_record.specs.Classes.{ByteAt}
use Rattle.op_answers.specs.declared.Refusal.{Refusal}
use Rattle.op_answers.specs.declared.Input.TheVariants as I
use Rattle.op_answers.specs.Cases.{meant, used_of, inclusion_answer}
use Rattle.op_accept.specs.Taken.{ProfileStops, Tables, AcceptedWith, named_input, profile_stops, ready_of}
use Rattle.read_inputs.specs.Accepted.{GivenProfile}
use Rattle.op_profile.specs.Judging.{PathStops}
use Rattle.theory_answers.specs.Refusing.{unless_room}
use Rattle.write_bytes.specs.Wrote.{Wrote, wrote_front}
use Rattle.op_profile.specs.Profiles.{rewrite_small, rewrite_accepted, body_refused, body_accepted}
use Rattle.op_profile.specs.Paths.{path_number_by, path_number}
use Rattle.theory_records.specs.Profiles.{profile_accepts}
use Rattle.theory_records.specs.Bytes.{bytes_from}
use Rattle.op_profile.specs.Inclusions.{include_first, include_second, include_yes, include_no, path_passes, path_short}

pub rewrite_stops : {profile : List ℕ} {r : Refusal} → ProfileStops profile r → (buffer : List ℕ) → 65536 ≤ length buffer
    → Rewrites profile buffer (refused_by (meant r) buffer)
unfolding Rewrites
rewrite_stops s buffer h = unless_room _ buffer _ _ h (profile_stops _ buffer _ s)

module _ {profile classes : List ℕ} {second : Bool} {before keys : ℕ} (g : GivenProfile profile second before keys classes) where
  pub rewrite_fills : {buffer after : List ℕ} {used : ℕ} → ByteAt profile → 65536 ≤ length buffer → Wrote buffer after 0 profile used
      → Rewrites profile buffer (used_of rewritten used after)
  unfolding filled
  rewrite_fills {buffer} small h wrote =
      let w = wrote_front wrote in
      subst (Rewrites profile buffer) (ap₂ (λ (n : ℕ) (b : List ℕ). used_of rewritten n b) (sym w.0) (sym w.1))
      (rewrite_accepted profile buffer (bytes_from profile (λ i _. small i)) h (ready_of g).accepted)

  pub fits_answer : (buffer : List ℕ) → 65536 ≤ length buffer → 0 + length profile ≤ length buffer
  fits_answer buffer h = let s = (profile_accepts profile g.accepted_profile).size in omega arith

  pub body_there : (n : ℕ) (rest body : List ℕ) → rest ≡ records_from n profile → body ≡ record_body rest → body ≡ body_at profile n
  body_there n rest body r b = b ∙ ap record_body r ∙ body_accepted profile n (ready_of g).accepted

pub body_none : {profile : List ℕ} {r : Refusal} → ProfileStops profile r → (n : ℕ) → [] ≡ body_at profile n
body_none {profile} {r} s n = body_refused profile n (meant r) s.is s.named

pub include_stops : {profile : List ℕ} {r : Refusal} → ProfileStops profile r → (P Q : List ℕ) → Includes profile P Q (refused_by (meant r) [])
unfolding Includes
include_stops s P Q = profile_stops _ [] _ s

pub small_rewrites : (profile buffer : List ℕ) (r : Refusal) → length buffer < 65536 → meant r ≡ record { number = 14; input = 4; place = 0 }
    → Rewrites profile buffer (refused_by (meant r) buffer)
small_rewrites profile buffer r h e = subst (λ (x : Table.Refusal). Rewrites profile buffer (refused_by x buffer)) (sym e) (rewrite_small profile buffer h)

module _ (P Q classes : List ℕ) (bytes_p : ByteAt P) (bytes_q : ByteAt Q) where
  first_is : {profile : List ℕ} → AcceptedWith profile classes → record { number = path_number_by classes P; input = 2; place = 0 } ≡ path_refusal (labels_in profile) 2 P
  first_is ready = sym (path_number ready.tabled 2 P bytes_p)

  pub first_stops_here : {r : Refusal} → PathStops classes P I.Question r → (profile : List ℕ) → AcceptedWith profile classes
      → Includes profile P Q (refused_by (meant r) [])
  first_stops_here {r} s profile ready =
      let n = ap (λ (x : Table.Refusal). x.number) s.is in
      include_first profile P Q ready.accepted (meant r) (s.is ∙ first_is ready) (pos_of_ne-zero (λ z. s.some (sym n ∙ z))) (named_input r)

  module _ (first : path_number_by classes P ≡ 0) where
    first_passes_is : {profile : List ℕ} → AcceptedWith profile classes → (path_refusal (labels_in profile) 2 P).number ≡ 0
    first_passes_is ready = ap (λ (r : Table.Refusal). r.number) (sym (first_is ready)) ∙ first

    second_is : {profile : List ℕ} → AcceptedWith profile classes → record { number = path_number_by classes Q; input = 3; place = 0 } ≡ path_refusal (labels_in profile) 3 Q
    second_is ready = sym (path_number ready.tabled 3 Q bytes_q)

    pub second_stops_here : {r : Refusal} → PathStops classes Q I.TreeOrProof r → (profile : List ℕ) → AcceptedWith profile classes
        → Includes profile P Q (refused_by (meant r) [])
    second_stops_here {r} s profile ready =
        let n = ap (λ (x : Table.Refusal). x.number) s.is in
        include_second profile P Q ready.accepted (meant r) (first_passes_is ready) (s.is ∙ second_is ready) (pos_of_ne-zero (λ z. s.some (sym n ∙ z))) (named_input r)

    module _ (second : path_number_by classes Q ≡ 0) where
      second_passes_is : {profile : List ℕ} → AcceptedWith profile classes → (path_refusal (labels_in profile) 3 Q).number ≡ 0
      second_passes_is ready = ap (λ (r : Table.Refusal). r.number) (sym (second_is ready)) ∙ second

      pub included_so : (found : Bool) → found ≡ member Q P → (profile : List ℕ) → AcceptedWith profile classes
          → Includes profile P Q (inclusion_answer (Ok found))
      included_so true f profile ready = include_yes profile P Q ready.accepted (first_passes_is ready) (second_passes_is ready) (sym f)
      included_so false f profile ready = include_no profile P Q ready.accepted (first_passes_is ready) (second_passes_is ready) (sym f)

-- a path that passes has at most 32 symbols
pub short_path : (P classes : List ℕ) → ByteAt P → Tables classes → path_number_by classes P ≡ 0 → length P ≤ 32
short_path P classes bytes tables z =
    path_short tables.labels P
    (path_passes tables.labels 2 P (ap (λ (r : Table.Refusal). r.number) (path_number tables.tabled 2 P bytes) ∙ z))
