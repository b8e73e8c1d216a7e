-- An accepted profile, and an accepted question beside it, as the readers tell them: what stands behind the prologue of every operation.
use Rattle.std.specs.Prelude.{ℕ, ◌+◌, ◌≡◌, Bool, Result, Ok, Err, List, length}
use Rattle.meaning.specs.Refusals.{sound, profile_refusal, question_refusal, first_entry}
use Rattle.meaning.specs.Operations.{labels_in, keys_in, second_in}
use Rattle.read_record.specs.Classes.{Tabled}
use Rattle.read_judged.specs.Answers.{refusal_of}
use Rattle.read_judged.specs.declared.Fault.{Fault}
use Rattle.read_inputs.specs.declared.profile.Profile.{Profile}

-- an accepted profile, its edition, how many records stand before its keys and how many keys it has, its classes
pub record GivenProfile (profile : List ℕ) (second : Bool) (before keys : ℕ) (classes : List ℕ) : Type 0 where
  pub accepted_profile : (profile_refusal profile).number ≡ 0
  pub edition : second ≡ second_in profile
  pub before_keys : before ≡ first_entry profile + length (labels_in profile)
  pub key_count : keys ≡ length (keys_in profile)
  pub tabled : Tabled (labels_in profile) classes

-- and an accepted question
pub record Given (profile : List ℕ) (second : Bool) (before keys : ℕ) (question classes : List ℕ) : Type 0 where
  pub accepted_profile : (profile_refusal profile).number ≡ 0
  pub edition : second ≡ second_in profile
  pub before_keys : before ≡ first_entry profile + length (labels_in profile)
  pub key_count : keys ≡ length (keys_in profile)
  pub tabled : Tabled (labels_in profile) classes
  pub accepted_question : (question_refusal (labels_in profile) question).number ≡ 0

-- What reading a profile comes to: its own refusal, or what it says
abbrev pub ProfileTold : List ℕ → Result Profile Fault → Type 0
ProfileTold bytes (Ok p) = (sound ≡ profile_refusal bytes) × GivenProfile bytes p.second p.before p.keys p.classes
ProfileTold bytes (Err fault) = refusal_of {A = Profile} 1 (Err fault) ≡ profile_refusal bytes

pub given_both : {profile classes question : List ℕ} {second : Bool} {before keys : ℕ} → GivenProfile profile second before keys classes
    → (question_refusal (labels_in profile) question).number ≡ 0 → Given profile second before keys question classes
given_both g q =
    record {
      accepted_profile = g.accepted_profile;
      edition = g.edition;
      before_keys = g.before_keys;
      key_count = g.key_count;
      tabled = g.tabled;
      accepted_question = q;
    }
