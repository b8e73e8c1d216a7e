-- One law for each return of the report.
use Rattle.std.specs.Prelude.{ℕ, ◌<◌, ◌≤◌, ◌≡◌, Bool, length}
use Rattle.std.proofs.Common.{sym, ◌∙◌, ap, ap₂, subst, arith}
use mathlib.Core.List.{List, []}
use Rattle.meaning.specs.Refusals as Table
use Rattle.meaning.specs.Operations.{refused_by, filled, reported}
use Rattle.meaning.specs.Campaign.{names_in, list_refusal, report_bytes}
use Rattle.meaning.specs.Tally.{Tally, counts_of, ReportsTally}
use Rattle.theory_campaign.specs.Listings.{list_long, list_short}
use Rattle.theory_records.specs.Profiles.{accepted_few}
use Rattle.theory_answers.specs.Refusing.{unless_small, unless_room, unless_passes, unless_sound, unless_refused, first_stops, sound_end}
use Rattle.op_answers.specs.declared.Refusal.{Refusal}
use Rattle.op_answers.specs.Cases.{meant, used_of}
use Rattle.op_accept.specs.Taken.{ProfileStops, profile_stops}
use Rattle.read_inputs.specs.Accepted.{GivenProfile}
use Rattle.write_bytes.specs.Wrote.{Wrote, wrote_front}

pub report_small : (list profile : List ℕ) (t : Tally) (buffer : List ℕ) (r : Refusal) → length buffer < 65536
    → meant r ≡ record { number = 14; input = 4; place = 0 } → ReportsTally list profile t buffer (refused_by (meant r) buffer)
unfolding ReportsTally
report_small list profile t buffer r h e =
    subst (λ (x : Table.Refusal). ReportsTally list profile t buffer (refused_by x buffer)) (sym e) (unless_small _ buffer _ h)

pub report_long : (list profile : List ℕ) (t : Tally) (buffer : List ℕ) (r : Refusal) → 65536 ≤ length buffer → 200 < length (names_in list)
    → meant r ≡ record { number = 7; input = 3; place = 0 } → ReportsTally list profile t buffer (refused_by (meant r) buffer)
unfolding ReportsTally
report_long list profile t buffer r room h e =
    let long : list_refusal list ≡ record { number = 7; input = 3; place = 0 } = list_long list h in
    subst (λ (x : Table.Refusal). ReportsTally list profile t buffer (refused_by x buffer)) (sym e)
    (unless_room _ buffer _ _ room
    (unless_refused _ buffer _ (record { number = 7; input = 3; place = 0 })
    (first_stops _ _ (λ z. let k : 7 ≡ 0 = sym (ap (λ (x : Table.Refusal). x.number) long) ∙ z in omega arith) ∙ long) (omega arith)))

pub report_keys : {profile classes : List ℕ} {second : Bool} {before keys : ℕ} → GivenProfile profile second before keys classes → keys ≤ 64
report_keys {profile} g =
    let f = accepted_few profile g.accepted_profile in
    let e = g.key_count in
    omega arith

list_passes : (list : List ℕ) → length (names_in list) ≤ 200 → (list_refusal list).number ≡ 0
list_passes list few = ap (λ (x : Table.Refusal). x.number) (list_short list few)

module _ (list : List ℕ) {profile : List ℕ} (t : Tally) (buffer : List ℕ) (room : 65536 ≤ length buffer) (few : length (names_in list) ≤ 200) where
  pub report_stops : {r : Refusal} → ProfileStops profile r → ReportsTally list profile t buffer (refused_by (meant r) buffer)
  unfolding ReportsTally
  report_stops s = unless_room _ buffer _ _ room (unless_passes _ _ buffer _ _ (list_passes list few) (profile_stops _ buffer _ s))

  pub report_fills : {classes : List ℕ} {second : Bool} {before keys : ℕ} → GivenProfile profile second before keys classes → {after : List ℕ} {used : ℕ}
      → Wrote buffer after 0 (report_bytes keys (counts_of t)) used → ReportsTally list profile t buffer (used_of reported used after)
  unfolding ReportsTally filled
  report_fills g {after} {used} wrote =
      let w = wrote_front (subst (λ (m : ℕ). Wrote buffer after 0 (report_bytes m (counts_of t)) used) g.key_count wrote) in
      unless_room _ buffer _ _ room
      (unless_passes _ _ buffer _ _ (list_passes list few)
      (unless_passes _ _ buffer _ _ g.accepted_profile
      (unless_sound [] buffer _ _ sound_end (ap₂ (λ (m : ℕ) (b : List ℕ). used_of reported m b) w.0 w.1))))
