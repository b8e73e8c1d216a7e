-- Testing inclusion of two bare paths.
use Rattle.std.specs.Prelude.{ℕ, ◌≤◌, ◌<◌, ◌≡◌, refl, Bool, true, false, not, T, length}
use Rattle.std.proofs.Math.Path.{sym, ap}
use Rattle.std.proofs.Common.{◌∙◌, inl, inr, arith}
use mathlib.Core.List.{List, [], ◌∷◌}
use Rattle.meaning.specs.Limits.{bare_path}
use Rattle.meaning.specs.Paths.{Label, class_of, member, valid, Included}
use Rattle.meaning.specs.Refusals.{Refusal, sound, first_refusal, first_of, good_path, profile_refusal, path_refusal}
use Rattle.meaning.specs.Operations.{Includes, refused_by, plain, included, not_included, labels_in}
use Rattle.theory_lists.specs.Bools.{of_true, of_false}
use Rattle.theory_paths.specs.Good
use Rattle.theory_paths.specs.Good.{included_good}
use Rattle.theory_records.specs.Profiles.{accepted_labels}
use Rattle.theory_answers.specs.Refusing.{unless_sound, unless_refused, sound_more, sound_end, first_passes, first_stops, sound_number}

-- a path that passes 4 and 6
pub record PathPasses (labels : List Label) (p : List ℕ) : Type 0 where
  pub good : good_path labels bare_path p ≡ true
  pub is_valid : valid (class_of labels) p ≡ true

three : (g v : Bool) → first_of ((4, not g) ∷ (6, not v) ∷ []) ≡ 0 → (g ≡ true) × (v ≡ true)
unfolding first_of
three true true e = (refl, refl)
three true false e = absurd (omega arith)
three false v e = absurd (omega arith)

pub path_passes : (labels : List Label) (input : ℕ) (p : List ℕ) → (path_refusal labels input p).number ≡ 0 → PathPasses labels p
unfolding path_refusal
path_passes labels input p e =
    let r = three (good_path labels bare_path p) (valid (class_of labels) p) e in
    record { good = r.0; is_valid = r.1 }

pub path_short : (labels : List Label) (p : List ℕ) → PathPasses labels p → length p ≤ 32
path_short labels p h = Good.path_length labels bare_path p (of_true _ h.good)

module _ (profile P Q : List ℕ) where
  module _ (accepted : sound ≡ profile_refusal profile) where
    pub include_first : (r : Refusal) → r ≡ path_refusal (labels_in profile) 2 P → 0 < r.number → 0 < r.input → Includes profile P Q (refused_by r [])
    unfolding Includes
    include_first r e bad named =
        unless_refused _ [] _ r
        (first_passes _ _ (sound_number accepted)
        ∙ first_stops (path_refusal (labels_in profile) 2 P) _ (λ z. let n : r.number ≡ 0 = ap (λ (x : Refusal). x.number) e ∙ z in omega arith)
        ∙ sym e)
        named

    pub include_second : (r : Refusal) → (path_refusal (labels_in profile) 2 P).number ≡ 0 → r ≡ path_refusal (labels_in profile) 3 Q → 0 < r.number
        → 0 < r.input → Includes profile P Q (refused_by r [])
    unfolding Includes
    include_second r first e bad named =
        unless_refused _ [] _ r
        (first_passes _ _ (sound_number accepted) ∙ first_passes _ _ first
        ∙ first_stops (path_refusal (labels_in profile) 3 Q) _ (λ z. let n : r.number ≡ 0 = ap (λ (x : Refusal). x.number) e ∙ z in omega arith)
        ∙ sym e)
        named

    module _ (first : (path_refusal (labels_in profile) 2 P).number ≡ 0) (second : (path_refusal (labels_in profile) 3 Q).number ≡ 0) where
      words : (Included (labels_in profile) P Q → T (member Q P)) × (T (member Q P) → Included (labels_in profile) P Q)
      words =
          let p = path_passes (labels_in profile) 2 P first in
          let q = path_passes (labels_in profile) 3 Q second in
          included_good (labels_in profile) (accepted_labels profile (sound_number accepted)) P Q
          (Good.path_symbols (labels_in profile) bare_path P (of_true _ p.good))
          (Good.path_symbols (labels_in profile) bare_path Q (of_true _ q.good))
          (of_true _ p.is_valid)

      passed : (first_refusal (profile_refusal profile ∷ path_refusal (labels_in profile) 2 P ∷ path_refusal (labels_in profile) 3 Q ∷ [])).number ≡ 0
      passed = sound_more _ _ (sound_number accepted) (sound_more _ _ first (sound_more _ _ second sound_end))

      pub include_yes : member Q P ≡ true → Includes profile P Q (plain included)
      unfolding Includes
      include_yes e = unless_sound _ [] _ _ passed (inl (words.1 (of_true _ e), refl))

      pub include_no : member Q P ≡ false → Includes profile P Q (plain not_included)
      unfolding Includes
      include_no e = unless_sound _ [] _ _ passed (inr ((λ i. of_false _ e (words.0 i)), refl))
