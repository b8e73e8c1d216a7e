-- One law for each return of the salvage: what the reader and the loop found, put into the contract.
use Rattle.std.specs.Prelude.{ℕ, ◌≤◌, ◌<◌, ◌≡◌, refl, Bool, cond, Result, Ok, Err, length}
use Rattle.std.proofs.Common.{sym, ◌∙◌, ap₂, subst}
use Rattle.std.proofs.Math.Path.{ap}
use mathlib.Core.List.{List, []}
use Rattle.std.proofs.Math.ListN.{take}
use Rattle.meaning.specs.Refusals.{sound}
use Rattle.meaning.specs.Refusals as Table
use Rattle.meaning.specs.Operations.{refused_by, filled, salvaged, second_in, labels_in}
use Rattle.meaning.specs.Salvage.{Salvages, salvage_refusals, salvage_refusal, salvaged_tree}
use Rattle.read_judged.specs.Answers.{refusal_of}
use Rattle.read_judged.specs.declared.Fault.{Fault}
use Rattle.op_answers.specs.declared.Refusal.{Refusal}
use Rattle.op_answers.specs.declared.Input.TheVariants as I
use Rattle.op_answers.specs.Cases.{meant, outcome_of, used_of}
use Rattle.op_answers.specs.Outcomes.{outcome_refused}
use Rattle.theory_salvage.specs.Listed.{salvage_settled}
use Rattle.theory_answers.specs.Refusing.{first_named, first_passes, unless_refused, unless_sound, unless_small, unless_room, answer_large, sound_number, sound_more, sound_end}
use Rattle.read_salvage.specs.Salvaging.{Salvaging}
use Rattle.read_salvage.specs.Told.{SalvagedInto}
use Rattle.read_salvage.specs.declared.salvage.Passed.{Passed}
use Rattle.write_bytes.specs.Wrote.{Wrote, wrote_front}
use Rattle.op_accept.specs.Taken.{ProfileStops, AcceptedIn, named_input, profile_stops}

pub small_salvages : (profile tree buffer : List ℕ) (r : Refusal) → length buffer < 65536 → meant r ≡ record { number = 14; input = 4; place = 0 }
    → Salvages profile tree buffer (refused_by (meant r) buffer)
unfolding Salvages salvage_refusals
small_salvages profile tree buffer r h e =
    subst (λ (x : Table.Refusal). Salvages profile tree buffer (refused_by x buffer)) (sym e) (unless_small _ buffer _ h)

pub salvage_stops : {profile : List ℕ} {r : Refusal} → ProfileStops profile r → (tree buffer : List ℕ) → 65536 ≤ length buffer
    → Salvages profile tree buffer (refused_by (meant r) buffer)
unfolding Salvages salvage_refusals
salvage_stops s tree buffer h = unless_room _ buffer _ _ h (profile_stops _ buffer _ s)

module _ (second : Bool) (classes tree out reasons : List ℕ) where
  says_in : {judged : Result Unit Fault} {used records stopped : ℕ} → Salvaging second classes tree out reasons judged used records stopped
      → {profile : List ℕ} → AcceptedIn profile classes second → refusal_of 3 judged ≡ salvage_refusal (second_in profile) (labels_in profile) tree
  says_in salvaging {profile} ready =
      salvaging.refusal (labels_in profile) ready.ready.tabled ∙ ap (λ (b : Bool). salvage_refusal b (labels_in profile) tree) ready.edition

  -- 7 or 8
  pub tree_stops : (read : Result Passed Fault) → SalvagedInto second classes tree out reasons read → {r : Refusal} → Err r ≡ outcome_of I.TreeOrProof read
      → (buffer : List ℕ) → 65536 ≤ length buffer → (profile : List ℕ) → AcceptedIn profile classes second
      → Salvages profile tree buffer (refused_by (meant r) buffer)
  unfolding Salvages salvage_refusals
  tree_stops (Ok passed) told e buffer h profile ready = cc
  tree_stops (Err fault) told {r} e buffer h profile ready =
      unless_refused _ buffer _ (meant r)
      (first_passes _ _ (answer_large buffer h) ∙ first_passes _ _ (sound_number ready.ready.accepted)
      ∙ first_named (meant r) (salvage_refusal (second_in profile) (labels_in profile) tree) [] (salvage_settled (second_in profile) (labels_in profile) tree)
      (outcome_refused {A = Passed} I.TreeOrProof (Err fault) e ∙ says_in told ready) (named_input r))
      (named_input r)

  -- what is left
  pub left_told : (read : Result Passed Fault) → SalvagedInto second classes tree out reasons read → {p : Passed} → Ok p ≡ outcome_of I.TreeOrProof read
      → Salvaging second classes tree out reasons (Ok tt) p.used p.records (cond p.stopped 1 0)
  left_told (Ok passed) told {p} e =
      let same : passed ≡ p = cc in
      subst (λ (x : Passed). Salvaging second classes tree out reasons (Ok tt) x.used x.records (cond x.stopped 1 0)) same told
  left_told (Err fault) told e = cc

  module _ (read : Result Passed Fault) (told : SalvagedInto second classes tree out reasons read) {p : Passed} (e : Ok p ≡ outcome_of I.TreeOrProof read) where
    pub tree_salvages : {buffer after : List ℕ} {next : ℕ} → 65536 ≤ length buffer → Wrote buffer after 0 (take p.used out) next → (profile : List ℕ)
        → AcceptedIn profile classes second → Salvages profile tree buffer (used_of salvaged next after)
    unfolding Salvages salvage_refusals filled
    tree_salvages {buffer} h wrote profile ready =
        let s = left_told read told e in
        let accepted : sound ≡ salvage_refusal (second_in profile) (labels_in profile) tree = says_in s ready in
        let k = s.kept (labels_in profile) ready.ready.tabled refl in
        let same : take p.used out ≡ salvaged_tree (second_in profile) (labels_in profile) tree =
        k.bytes ∙ ap (λ (b : Bool). salvaged_tree b (labels_in profile) tree) ready.edition in
        let w = wrote_front wrote in
        unless_sound _ buffer _ _
        (sound_more _ _ (answer_large buffer h) (sound_more _ _ (sound_number ready.ready.accepted) (sound_more _ _ (sound_number accepted) sound_end)))
        (ap₂ (λ (n : ℕ) (b : List ℕ). used_of salvaged n b) w.0 w.1 ∙ ap (λ (v : List ℕ). filled salvaged v buffer) same)
