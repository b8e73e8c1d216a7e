-- Lean profiles: document 02, request 3.
use Rattle.std.specs.Prelude.{ℕ, ◌≤◌, ◌≡◌, ◌⊎◌, Bool, true, false, not, List, [], ◌∷◌, ◌++◌, length, get_or}
use Rattle.std.proofs.Math.Option.{some}
use Rattle.std.proofs.Math.ListN.{get_elem?}
use Rattle.meaning.specs.Lists.{keep, numbers}
use Rattle.meaning.specs.Paths.{Label}
use Rattle.meaning.specs.Keys.{Key, Implied}
use Rattle.meaning.specs.Records.{key_bytes}
use Rattle.meaning.specs.Refusals.{Refusal, first_refusal, profile_refusal, answer_refusal}
use Rattle.meaning.specs.Operations.{Answer, Unless, choose, refused_by, filled, plain, accepted, reduced, drop_proved, second_in, labels_in, keys_in, profile_written, ChecksProof}

-- Of each key whether it stays; those that stay, in their order
unfoldable pub staying : List Bool → List Key → List Key
staying [] keys = []
staying (s ∷ stays) [] = []
staying (true ∷ stays) (k ∷ keys) = k ∷ staying stays keys
staying (false ∷ stays) (k ∷ keys) = staying stays keys

-- "go from the last key to the first and drop a key when it is implied by those still there": when a key is looked at, all keys before it are still
-- there, and of those behind it the ones that stay
pub data Reduction (second : Bool) (labels : List Label) : (before keys : List Key) (stays : List Bool) → Type 0 where
  none_left : {before : List Key} → Reduction second labels before [] []
  drops : {before keys : List Key} {stays : List Bool} {k : Key} → Implied second labels (before ++ staying stays keys) k
      → Reduction second labels (before ++ (k ∷ [])) keys stays → Reduction second labels before (k ∷ keys) (false ∷ stays)
  keeps : {before keys : List Key} {stays : List Bool} {k : Key} → (Implied second labels (before ++ staying stays keys) k → ⊥)
      → Reduction second labels (before ++ (k ∷ [])) keys stays → Reduction second labels before (k ∷ keys) (true ∷ stays)

-- "The result is a profile with the same labels .. and the numbers of the dropped keys", ascending
unfoldable pub lean_profile : List ℕ → List Bool → List ℕ
lean_profile profile stays = profile_written (second_in profile) (record { labels = labels_in profile; keys = staying stays (keys_in profile) })

unfoldable pub dropped_numbers : List Bool → List ℕ
dropped_numbers stays = keep (λ (n : ℕ). not (get_or stays n true)) (numbers (length stays) 0)

pub record ReducedTo (profile buffer : List ℕ) (answer : Answer) (dropped : List ℕ) : Type 0 where
  pub stays : List Bool
  pub reduction : Reduction (second_in profile) (labels_in profile) [] (keys_in profile) stays
  pub answered : answer ≡ filled reduced (lean_profile profile stays) buffer
  pub numbers_are : dropped ≡ dropped_numbers stays

abbrev pub reduce_refusals : (profile buffer : List ℕ) → List Refusal
reduce_refusals profile buffer = answer_refusal buffer ∷ profile_refusal profile ∷ []

unfoldable pub Reduces : (profile buffer : List ℕ) → Answer → List ℕ → Type 0
Reduces profile buffer answer dropped =
    choose (first_refusal (reduce_refusals profile buffer)).number (ReducedTo profile buffer answer dropped)
    ((answer ≡ refused_by (first_refusal (reduce_refusals profile buffer)) buffer) × (dropped ≡ []))

-- "a proof for each dropped key from the final keys", "one call for each key"; "for a number not dropped a call gives 0 bytes"
pub record DropProved (profile : List ℕ) (n : ℕ) (buffer : List ℕ) (answer : Answer) : Type 0 where
  pub stays : List Bool
  pub reduction : Reduction (second_in profile) (labels_in profile) [] (keys_in profile) stays
  pub key : Key
  pub stands : get_elem? (keys_in profile) n ≡ some key
  pub is_dropped : get_elem? stays n ≡ some false
  pub bytes : List ℕ
  pub checked : ChecksProof (lean_profile profile stays) (key_bytes key) bytes (plain accepted)
  pub fits : length bytes ≤ length buffer
  pub answered : answer ≡ filled drop_proved bytes buffer

pub record NotDropped (profile : List ℕ) (n : ℕ) (buffer : List ℕ) (answer : Answer) : Type 0 where
  pub stays : List Bool
  pub reduction : Reduction (second_in profile) (labels_in profile) [] (keys_in profile) stays
  pub is_there : get_elem? stays n ≡ some false → ⊥
  pub answered : answer ≡ filled drop_proved [] buffer

unfoldable pub ProvesDropped : (profile : List ℕ) (n : ℕ) (buffer : List ℕ) → Answer → Type 0
ProvesDropped profile n buffer =
    Unless (reduce_refusals profile buffer) buffer (λ answer. DropProved profile n buffer answer ⊎ NotDropped profile n buffer answer)
