-- What 02 promises of a reduction, said of every answer that meets `Reduces` and is no refusal: of the profile in the bytes that it used.
use Prim.Native.Nat.{ℕ, zero, suc}
use Rattle.std.specs.Prelude.{◌≡◌, true, false, List, [], ◌∷◌, ◌++◌, length, drop, set}
use Rattle.std.proofs.Math.Path.{refl, sym, ap}
use Rattle.std.proofs.Common.{subst, ◌∙◌, arith}
use mathlib.Core.Option.{some}
use Rattle.std.proofs.Math.ListN.{take, get_elem?}
use Rattle.meaning.specs.Keys.{Key, Implied}
use Rattle.meaning.specs.Refusals.{first_refusal, profile_refusal, answer_refusal}
use Rattle.meaning.specs.Operations.{Answer, choose, refused_by, filled, second_in, labels_in, keys_in}
use Rattle.meaning.specs.Reduction.{staying, Reduction, lean_profile, ReducedTo, reduce_refusals, Reduces}
use Rattle.theory_records.specs.Profiles.{refusal_none}
use Rattle.theory_reduce.specs.Lean.{Covers, kept_covers, all_covers, others_do_not}
use Rattle.theory_reduce.specs.LeanProfile.{lean_accepted, lean_edition, lean_labels, lean_keys}
use Rattle.theory_reduce.specs.LeanAgain.{all_stay, reduced_again, covers_same}

-- the bytes that an answer used
abbrev pub used_bytes : Answer → List ℕ
used_bytes a = take a.used a.buffer

take_front : {A : Type 0} (xs ys : List A) → take (length xs) (xs ++ ys) ≡ xs
take_front [] ys = refl
take_front (x ∷ xs) ys = ap (λ r. x ∷ r) (take_front xs ys)

stays_there : (keys : List Key) {m : Key} (n : ℕ) → get_elem? keys n ≡ some m → get_elem? (all_stay keys) n ≡ some true
stays_there [] n e = absurd (mathlib.Core.Option.none-ne-some _ e)
stays_there (k ∷ keys) zero e = refl
stays_there (k ∷ keys) (suc n) e = stays_there keys n e

module _ (profile buffer : List ℕ) (answer : Answer) (dropped : List ℕ) (meets : Reduces profile buffer answer dropped) (fine : answer.number ≡ 0) where
  -- no refusal, so the profile is accepted and reduced
  accepted_and_reduced : ((profile_refusal profile).number ≡ 0) × ReducedTo profile buffer answer dropped
  unfolding Reduces choose refused_by
  accepted_and_reduced = go (first_refusal (reduce_refusals profile buffer)).number refl meets
    where
      go : (n : ℕ) → (first_refusal (reduce_refusals profile buffer)).number ≡ n
          → choose n (ReducedTo profile buffer answer dropped) ((answer ≡ refused_by (first_refusal (reduce_refusals profile buffer)) buffer) × (dropped ≡ []))
          → ((profile_refusal profile).number ≡ 0) × ReducedTo profile buffer answer dropped
      go zero e r = ((refusal_none _ _ (refusal_none (answer_refusal buffer) _ e).1).0, r)
      go (suc n) e r = let z : suc n ≡ 0 = sym e ∙ sym (ap (λ (a : Answer). a.number) r.0) ∙ fine in absurd (omega arith)

  sound : (profile_refusal profile).number ≡ 0
  sound = accepted_and_reduced.0

  to : ReducedTo profile buffer answer dropped
  to = accepted_and_reduced.1

  bytes_are : used_bytes answer ≡ lean_profile profile to.stays
  unfolding filled
  bytes_are =
      ap (λ (a : Answer). take a.used a.buffer) to.answered
      ∙ take_front (lean_profile profile to.stays) (drop (length (lean_profile profile to.stays)) buffer)

  keys_are : keys_in (used_bytes answer) ≡ staying to.stays (keys_in profile)
  keys_are = ap keys_in bytes_are ∙ lean_keys profile sound to.stays

  -- "The result is a profile with the same labels", of the same edition
  pub answer_accepted : (profile_refusal (used_bytes answer)).number ≡ 0
  answer_accepted = ap (λ (l : List ℕ). (profile_refusal l).number) bytes_are ∙ lean_accepted profile sound to.stays

  pub answer_labels : labels_in (used_bytes answer) ≡ labels_in profile
  answer_labels = ap labels_in bytes_are ∙ lean_labels profile sound to.stays

  pub answer_edition : second_in (used_bytes answer) ≡ second_in profile
  answer_edition = ap second_in bytes_are ∙ lean_edition profile sound to.stays

  -- "old and new profile are kept by the same trees"
  pub answer_covers : Covers (second_in profile) (labels_in profile) (keys_in (used_bytes answer)) (keys_in profile)
  answer_covers =
      subst (λ (ks : List Key). Covers (second_in profile) (labels_in profile) ks (keys_in profile)) (sym keys_are)
      (kept_covers (second_in profile) (labels_in profile) to.reduction)

  pub answer_covered : Covers (second_in profile) (labels_in profile) (keys_in profile) (keys_in (used_bytes answer))
  answer_covered =
      subst (Covers (second_in profile) (labels_in profile) (keys_in profile)) (sym keys_are)
      (all_covers (second_in profile) (labels_in profile) to.stays (keys_in profile))

  -- "no kept key is implied by the other kept ones"
  pub answer_others : {m : Key} (n : ℕ) → get_elem? (keys_in (used_bytes answer)) n ≡ some m
      → Implied (second_in profile) (labels_in profile) (staying (set (all_stay (keys_in (used_bytes answer))) n false) (keys_in (used_bytes answer))) m → ⊥
  answer_others {m} =
      subst
      (λ (ks : List Key). (n : ℕ) → get_elem? ks n ≡ some m → Implied (second_in profile) (labels_in profile) (staying (set (all_stay ks) n false) ks) m → ⊥)
      (sym keys_are) (others (staying to.stays (keys_in profile)) again)
    where
      again : Reduction (second_in profile) (labels_in profile) [] (staying to.stays (keys_in profile)) (all_stay (staying to.stays (keys_in profile)))
      again = reduced_again (second_in profile) (labels_in profile) to.reduction [] (covers_same (second_in profile) (labels_in profile) [])

      others : (left : List Key) → Reduction (second_in profile) (labels_in profile) [] left (all_stay left) → (n : ℕ) → get_elem? left n ≡ some m
          → Implied (second_in profile) (labels_in profile) (staying (set (all_stay left) n false) left) m → ⊥
      others left r n e i =
          others_do_not (second_in profile) (labels_in profile) r [] (covers_same (second_in profile) (labels_in profile) []) n e (stays_there left n e) i
