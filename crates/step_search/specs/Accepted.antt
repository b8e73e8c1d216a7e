-- An accepted profile and question may be searched, and what is found is said of their keys: what `step_search::search::find_steps` asks and
-- answers, for the decider.
use Prim.Native.Nat.{ℕ, ◌+◌}
use Rattle.std.specs.Prelude.{◌≡◌, ◌⊎◌, length}
use Rattle.std.proofs.Common.{sym}
use Rattle.std.proofs.Math.Path.{subst}
use Rattle.std.proofs.Math.Logic.{inl, inr, ⊎_elim}
use Rattle.std.proofs.Math.Bool.{Bool}
use mathlib.Core.List.{List, []}
use Rattle.meaning.specs.Limits.{in_profile}
use Rattle.meaning.specs.Lists.{Each}
use Rattle.meaning.specs.Paths.{class_of, singles}
use Rattle.meaning.specs.Keys.{Key}
use Rattle.meaning.specs.Records.{record_body, key_in}
use Rattle.meaning.specs.Refusals.{first_entry, profile_refusal, question_refusal, question_in}
use Rattle.meaning.specs.Operations.{records_from, second_in, single_in, labels_in, keys_in}
use Rattle.meaning.specs.Pattern.{t_of, IsU}
use Rattle.theory_paths.specs.Good.{GoodKey, context_length, target_length, key_path_length, paths_some, paths_within}
use Rattle.theory_lists.specs.Lists.{get_or_mem}
use Rattle.theory_records.specs.Encodings.{ends_key}
use Rattle.theory_records.specs.Profiles.{accepted_labels, accepted_keys}
use Rattle.theory_records.specs.Questions.{question_accepts}
use Rattle.theory_pattern.specs.Spots.{Ends, Chain}
use Rattle.theory_derive.specs.Ranges.{none_left}
use Rattle.theory_derive.specs.Lowest.{chain_is_u}
use Rattle.theory_records.specs.KeyPlaces.{profile_keys_are, profile_key_records}
use Rattle.step_rows.specs.Drawn.{KeySizes}
use Rattle.step_search.specs.declared.search.FinalU.{FinalU}
use Rattle.step_search.specs.Ranges.{NoneLeft}
use Rattle.step_search.specs.Finding.{Searchable, Finds, steps_below}

module _ (profile question : List ℕ) (sound_profile : (profile_refusal profile).number ≡ 0)
    (sound_question : (question_refusal (labels_in profile) question).number ≡ 0) where
  asked : GoodKey (labels_in profile) in_profile (key_in (record_body question))
  unfolding question_in
  asked = (question_accepts (labels_in profile) question sound_question).good

  pub question_asked : KeySizes (record_body question)
  question_asked =
      let q = question_accepts (labels_in profile) question sound_question in
      let k : Key = key_in (record_body question) in
      record {
        is_key = ends_key question q.is_whole q.kind;
        context = context_length (labels_in profile) in_profile k asked;
        target = target_length (labels_in profile) in_profile k asked;
        some = paths_some (labels_in profile) in_profile k asked;
        few = paths_within (labels_in profile) in_profile k asked;
        short = λ j h. key_path_length (labels_in profile) in_profile k asked _ (get_or_mem k.paths j [] h);
      }

  -- what `find_steps` asks
  pub searchable : Searchable (records_from (first_entry profile + length (labels_in profile)) profile) (length (keys_in profile)) (record_body question)
  searchable = record { asked = question_asked; records = profile_key_records profile }

  -- and what its answer says of the profile's keys and the question
  module _ {r : FinalU} (f : Finds (records_from (first_entry profile + length (labels_in profile)) profile) (length (keys_in profile)) (record_body question) r) where
    pub found_chain : Chain (keys_in profile) (question_in question) r.u (steps_below r.steps r.count)
    unfolding question_in
    found_chain =
        subst (λ (ks : List Key). Chain ks (key_in (record_body question)) r.u (steps_below r.steps r.count)) (profile_keys_are profile) f.chain

    -- where the search ended above t: u, if t does not step to it
    pub found_u : (r.u ≡ t_of (question_in question))
        ⊎ ((Ends (single_in profile) (question_in question) r.u → ⊥) → IsU (single_in profile) (keys_in profile) (question_in question) r.u)
    unfolding question_in single_in
    found_u = ⊎_elim (λ (e : r.u ≡ t_of (key_in (record_body question))). inl e) (λ (n : NoneLeft _ _ _ _). inr (last n)) f.final
      where
        single : ℕ → Bool
        single = singles (second_in profile) (class_of (labels_in profile))

        last : NoneLeft (records_from (first_entry profile + length (labels_in profile)) profile) (length (keys_in profile)) (record_body question) r.u
            → (Ends single (key_in (record_body question)) r.u → ⊥) → IsU single (keys_in profile) (key_in (record_body question)) r.u
        last n not =
            subst (λ (ks : List Key). IsU single ks (key_in (record_body question)) r.u) (profile_keys_are profile)
            (chain_is_u (second_in profile) (labels_in profile) (accepted_labels profile sound_profile) _ (key_in (record_body question))
            (subst (Each (GoodKey (labels_in profile) in_profile)) (sym (profile_keys_are profile)) (accepted_keys profile sound_profile)) asked
            f.chain (none_left _ (key_in (record_body question)) r.u n.none) not)
