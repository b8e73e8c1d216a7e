-- One law for each `return` of the operation that decides a question.
use Rattle.std.specs.Prelude.{ℕ, ◌≤◌, ◌<◌, ◌≡◌, List, [], ◌∷◌, length}
use Rattle.std.proofs.Common.{inl, inr}
use Rattle.meaning.specs.Paths.{class_of}
use Rattle.meaning.specs.Refusals
use Rattle.meaning.specs.Refusals.{sound, profile_refusal, question_refusal, question_in, answer_refusal}
use Rattle.meaning.specs.Pattern.{IsU, t_of, written_tree}
use Rattle.meaning.specs.Operations.{Decides, refused_by, filled, implied, not_implied, single_in, labels_in, keys_in}
use Rattle.theory_answers.specs.Refusing.{unless_small, unless_sound, sound_more, sound_end, answer_large, sound_number}
use Rattle.theory_pattern.specs.Spots.{Taken, Ends, Chain}
use Rattle.theory_decide.specs.Implied.{proof_bytes_of, implied_written}
use Rattle.theory_decide.specs.NotImplied.{not_implied_written}

module _ (profile question buffer : List ℕ) where
  pub decide_small : length buffer < 65536 → Decides profile question buffer (refused_by (record { number = 14; input = 4; place = 0 }) buffer)
  unfolding Decides
  decide_small h = unless_small _ buffer _ h

  module _ (room : 65536 ≤ length buffer) where
    module _ (p : sound ≡ profile_refusal profile) where
      module _ (q : sound ≡ question_refusal (labels_in profile) question) where
        passed : (Refusals.first_refusal (answer_refusal buffer ∷ profile_refusal profile ∷ question_refusal (labels_in profile) question ∷ [])).number ≡ 0
        passed = sound_more _ _ (answer_large buffer room) (sound_more _ _ (sound_number p) (sound_more _ _ (sound_number q) sound_end))

        pub decide_implied : {u : ℕ} {steps : List Taken} (chain : Chain (keys_in profile) (question_in question) u steps)
            (reached : Ends (single_in profile) (question_in question) u)
            → Decides profile question buffer (filled implied (proof_bytes_of profile question (sound_number p) (sound_number q) chain reached) buffer)
        unfolding Decides
        decide_implied chain reached =
            unless_sound _ buffer _ _ passed (inl (implied_written profile question (sound_number p) (sound_number q) chain reached buffer room))

        pub decide_not : (u : ℕ) → IsU (single_in profile) (keys_in profile) (question_in question) u → u < t_of (question_in question)
            → Decides profile question buffer (filled not_implied (written_tree (class_of (labels_in profile)) (question_in question) u) buffer)
        unfolding Decides
        decide_not u is_u below =
            unless_sound _ buffer _ _ passed (inr (not_implied_written profile question (sound_number p) (sound_number q) u is_u below buffer))
