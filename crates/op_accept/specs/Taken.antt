-- The profile's refusal, then the question's, are the answer of every operation that is lent them; behind them each is given what they hold.
use Rattle.std.specs.Prelude.{ℕ, ◌≤◌, ◌<◌, Bool, Result, Ok, Err, List, [], ◌∷◌, length}
use Rattle.std.proofs.Math.Path.{◌≡◌, sym}
use Rattle.std.proofs.Common.{◌∙◌, arith}
use Rattle.meaning.specs.Paths.{Label}
use Rattle.meaning.specs.Refusals.{sound, first_refusal, profile_refusal, question_refusal}
use Rattle.meaning.specs.Refusals as Table
use Rattle.meaning.specs.Operations.{Answer, Unless, refused_by, labels_in, second_in}
use Rattle.read_record.specs.Classes.{Tabled}
use Rattle.read_judged.specs.Answers.{refusal_of}
use Rattle.read_judged.specs.declared.Fault.{Fault}
use Rattle.op_answers.specs.declared.Refusal.{Refusal}
use Rattle.op_answers.specs.declared.Input.{Input}
use Rattle.op_answers.specs.declared.Input.TheVariants as I
use Rattle.op_answers.specs.Cases.{input_of, meant, outcome_of}
use Rattle.op_answers.specs.Outcomes.{outcome_refused, outcome_fine}
use Rattle.read_inputs.specs.declared.profile.Profile.{Profile}
use Rattle.read_inputs.specs.Accepted.{GivenProfile, Given, ProfileTold, given_both}
use Rattle.theory_paths.specs.Good.{GoodLabels}
use Rattle.theory_records.specs.Profiles.{accepted_labels}
use Rattle.theory_answers.specs.Refusing.{unless_refused, unless_passes, first_passes, first_named, first_more, sound_number, profile_settled, question_settled}

-- a refusal names its input
pub named_input : (r : Refusal) → 0 < (meant r).input
named_input r = go r.input
  where
    go : (input : Input) → 0 < input_of input
    go I.Profile = omega arith
    go I.Question = omega arith
    go I.TreeOrProof = omega arith
    go I.Answer = omega arith

-- the first refusal of profile and question
unfoldable pub both_refusal : (profile question : List ℕ) → Table.Refusal
both_refusal profile question = first_refusal (profile_refusal profile ∷ question_refusal (labels_in profile) question ∷ [])

-- A refusal that names its input and is the profile's
pub record ProfileStops (profile : List ℕ) (r : Refusal) : Type 0 where
  pub is : profile_refusal profile ≡ meant r
  pub named : 0 < (meant r).input

-- or the first of profile and question
pub record BothStop (profile question : List ℕ) (r : Refusal) : Type 0 where
  pub is : both_refusal profile question ≡ meant r
  pub named : 0 < (meant r).input

-- What a profile comes to: its own refusal, or what it holds
abbrev pub ProfileTaken : List ℕ → Result Profile Refusal → Type 0
ProfileTaken profile (Ok p) = GivenProfile profile p.second p.before p.keys p.classes × (length p.classes ≡ 256)
ProfileTaken profile (Err r) = ProfileStops profile r

-- and a question beside it
abbrev pub BothTaken : (profile question : List ℕ) → Result Profile Refusal → Type 0
BothTaken profile question (Ok p) = Given profile p.second p.before p.keys question p.classes × (length p.classes ≡ 256)
BothTaken profile question (Err r) = BothStop profile question r

-- what `accept_profile` returns
pub taken_profile : (profile : List ℕ) (read : Result Profile Fault) → ProfileTold profile read → {taken : Result Profile Refusal} → taken ≡ outcome_of I.Profile read
    → ((p : Profile) → taken ≡ Ok p → length p.classes ≡ 256) → ProfileTaken profile taken
taken_profile profile (Ok p) told e size = rw e (told.1, size p e)
taken_profile profile (Err fault) told e size = rw e (record { is = sym told; named = omega arith })

-- a refused profile
pub both_refused : {profile : List ℕ} {r : Refusal} (question : List ℕ) → ProfileStops profile r → BothStop profile question r
unfolding both_refusal
both_refused {profile} {r} question s =
    record { is = first_named (meant r) (profile_refusal profile) _ (profile_settled profile) (sym s.is) s.named; named = s.named }

module _ (question : List ℕ) {profile classes : List ℕ} {second : Bool} {before keys : ℕ} (g : GivenProfile profile second before keys classes) (asked : Result Unit Fault)
    (told : (labels : List Label) → Tabled labels classes → refusal_of 2 asked ≡ question_refusal labels question) where
  -- a refused question behind an accepted profile
  pub both_asked : {r : Refusal} → Err r ≡ outcome_of I.Question asked → BothStop profile question r
  unfolding both_refusal
  both_asked {r} e =
      let is = outcome_refused I.Question asked e ∙ told (labels_in profile) g.tabled in
      let named : 0 < (meant r).input = named_input r in
      record {
        is = first_passes _ _ g.accepted_profile ∙ first_named (meant r) (question_refusal (labels_in profile) question) _ (question_settled (labels_in profile) question) is named;
        named = named;
      }

  -- both accepted
  pub both_given : {u : Unit} → Ok u ≡ outcome_of I.Question asked → Given profile second before keys question classes
  both_given e = given_both g (sound_number (outcome_fine I.Question asked e ∙ told (labels_in profile) g.tabled))

-- The laws of every operation. Its profile is refused:
pub profile_stops : {profile : List ℕ} {r : Refusal} (rs : List Table.Refusal) (buffer : List ℕ) (Q : Answer → Type 0) → ProfileStops profile r
    → Unless (profile_refusal profile ∷ rs) buffer Q (refused_by (meant r) buffer)
profile_stops {profile} {r} rs buffer Q s =
    unless_refused _ buffer Q (meant r) (first_named (meant r) (profile_refusal profile) rs (profile_settled profile) (sym s.is) s.named) s.named

-- profile or question is refused:
pub both_stops : {profile question : List ℕ} {r : Refusal} (rs : List Table.Refusal) (buffer : List ℕ) (Q : Answer → Type 0) → BothStop profile question r
    → Unless (profile_refusal profile ∷ question_refusal (labels_in profile) question ∷ rs) buffer Q (refused_by (meant r) buffer)
unfolding both_refusal
both_stops {profile} {question} {r} rs buffer Q s =
    unless_refused _ buffer Q (meant r) (first_more (profile_refusal profile ∷ question_refusal (labels_in profile) question ∷ []) rs (meant r) s.is s.named) s.named

-- or both are passed over
pub both_pass : {profile question classes : List ℕ} {second : Bool} {before keys : ℕ} → Given profile second before keys question classes
    → (rs : List Table.Refusal) (buffer : List ℕ) (Q : Answer → Type 0) (answer : Answer) → Unless rs buffer Q answer
    → Unless (profile_refusal profile ∷ question_refusal (labels_in profile) question ∷ rs) buffer Q answer
both_pass g rs buffer Q answer u =
    unless_passes _ _ buffer Q answer g.accepted_profile (unless_passes _ rs buffer Q answer g.accepted_question u)

-- The class table of some accepted profile
pub record Tables (classes : List ℕ) : Type 0 where
  pub labels : List Label
  pub good : GoodLabels labels
  pub tabled : Tabled labels classes
  pub small : length classes ≤ 256

-- An accepted profile with this class table
pub record AcceptedWith (profile classes : List ℕ) : Type 0 where
  pub accepted : sound ≡ profile_refusal profile
  pub tabled : Tabled (labels_in profile) classes

-- and of this edition
pub record AcceptedIn (profile classes : List ℕ) (second : Bool) : Type 0 where
  pub ready : AcceptedWith profile classes
  pub edition : second ≡ second_in profile

module _ {profile classes : List ℕ} {second : Bool} {before keys : ℕ} (g : GivenProfile profile second before keys classes) where
  pub ready_of : AcceptedWith profile classes
  unfolding Rattle.theory_answers.specs.Refusing.Settled
  ready_of = record { accepted = sym (profile_settled profile g.accepted_profile); tabled = g.tabled }

  pub ready_in : AcceptedIn profile classes second
  ready_in = record { ready = ready_of; edition = g.edition }

-- the class table of a profile that passes
pub tables_of : {profile classes : List ℕ} {second : Bool} {before keys : ℕ} → GivenProfile profile second before keys classes → length classes ≡ 256 → Tables classes
tables_of {profile} g size =
    record { labels = labels_in profile; good = accepted_labels profile g.accepted_profile; tabled = g.tabled; small = omega arith }
