-- 02, request 3: reducing what is reduced changes nothing.
use Rattle.std.specs.Prelude.{ℕ, zero, suc, ◌≡◌, refl, Bool, true, not, length, get_or, replicate}
use Rattle.std.proofs.Common.{ap, subst, ◌∙◌}
use mathlib.Core.List.{List, [], ◌∷◌, ◌++◌}
use Rattle.meaning.specs.Lists.{keep, numbers}
use Rattle.meaning.specs.Paths.{Label}
use Rattle.meaning.specs.Keys.{Key, Implied}
use Rattle.meaning.specs.Refusals.{profile_refusal}
use Rattle.meaning.specs.Operations.{second_in, labels_in, keys_in}
use Rattle.meaning.specs.Operations.{profile_written}
use Rattle.meaning.specs.Reduction.{staying, Reduction, none_left, drops, keeps, lean_profile, dropped_numbers}
use Rattle.theory_reduce.specs.Lean.{Covers, covers_trans, covers_left, covers_both, implied_more, reduction_unique}
use Rattle.theory_reduce.specs.LeanProfile.{lean_edition, lean_labels, lean_keys}

-- every key stays
abbrev pub all_stay : List Key → List Bool
all_stay keys = replicate (length keys) true

pub staying_all : (keys : List Key) → staying (all_stay keys) keys ≡ keys
unfolding staying
staying_all [] = refl
staying_all (k ∷ keys) = ap (λ (l : List Key). k ∷ l) (staying_all keys)

none_dropped : (count lo : ℕ) (stays : List Bool) → ((n : ℕ) → get_or stays n true ≡ true)
    → keep (λ (n : ℕ). not (get_or stays n true)) (numbers count lo) ≡ []
unfolding keep numbers
none_dropped zero lo stays h = refl
none_dropped (suc count) lo stays h = rw (h lo) (none_dropped count (suc lo) stays h)

all_true : (keys : List Key) (n : ℕ) → get_or (all_stay keys) n true ≡ true
all_true [] n = refl
all_true (k ∷ keys) zero = refl
all_true (k ∷ keys) (suc n) = all_true keys n

pub all_dropped_none : (keys : List Key) → dropped_numbers (all_stay keys) ≡ []
unfolding dropped_numbers
all_dropped_none keys = none_dropped (length (all_stay keys)) 0 (all_stay keys) (all_true keys)

module _ (second : Bool) (labels : List Label) where
  -- of the keys that stay all stay; b is what stays of the keys before
  pub reduced_again : {before keys : List Key} {stays : List Bool} → Reduction second labels before keys stays → (b : List Key) → Covers second labels before b
      → Reduction second labels b (staying stays keys) (all_stay (staying stays keys))
  unfolding staying
  reduced_again none_left b c = none_left
  reduced_again {before} (drops {k = k} d r) b c =
      reduced_again r b (covers_trans second labels (before ++ (k ∷ [])) before b (covers_left second labels before (k ∷ [])) c)
  reduced_again {before} (keeps {keys = keys} {stays = stays} {k = k} d r) b c =
      keeps
      (λ i.
      d
      (implied_more second labels (before ++ staying stays keys) (b ++ staying stays keys) k (covers_both second labels b before (staying stays keys) c)
      (subst (λ (l : List Key). Implied second labels (b ++ l) k) (staying_all (staying stays keys)) i)))
      (reduced_again r (b ++ (k ∷ [])) (covers_both second labels b before (k ∷ []) c))

  pub covers_same : (keys : List Key) → Covers second labels keys keys
  unfolding Covers
  covers_same keys κ a t tree o e = e

-- "the same again": the reduced profile reduces to itself, and no key is dropped
pub record Fixed (profile : List ℕ) (stays : List Bool) : Type 0 where
  pub same : lean_profile profile stays ≡ profile
  pub none : dropped_numbers stays ≡ []

pub lean_again : (profile : List ℕ) → (profile_refusal profile).number ≡ 0 → (stays : List Bool)
    → Reduction (second_in profile) (labels_in profile) [] (keys_in profile) stays → (again : List Bool)
    → Reduction (second_in (lean_profile profile stays)) (labels_in (lean_profile profile stays)) [] (keys_in (lean_profile profile stays)) again
    → Fixed (lean_profile profile stays) again
unfolding lean_profile
lean_again profile sound stays r again q =
    let old : List Key = staying stays (keys_in profile) in
    let labels : List Label = labels_in profile in
    let second : Bool = second_in profile in
    let one : Reduction second labels [] old again =
    subst (λ (ks : List Key). Reduction second labels [] ks again) (lean_keys profile sound stays)
    (subst (λ (ls : List Label). Reduction second ls [] (keys_in (lean_profile profile stays)) again) (lean_labels profile sound stays)
    (subst (λ (b : Bool). Reduction b (labels_in (lean_profile profile stays)) [] (keys_in (lean_profile profile stays)) again) (lean_edition profile sound stays) q)) in
    let two : Reduction second labels [] old (all_stay old) = reduced_again second labels r [] (covers_same second labels []) in
    let all : again ≡ all_stay old = reduction_unique second labels one two in
    let keys : staying again (keys_in (lean_profile profile stays)) ≡ old =
    ap (staying again) (lean_keys profile sound stays) ∙ (ap (λ (s : List Bool). staying s old) all ∙ staying_all old) in
    record {
      same = λ i. profile_written (lean_edition profile sound stays i) (record { labels = lean_labels profile sound stays i; keys = keys i });
      none = ap dropped_numbers all ∙ all_dropped_none old;
    }
