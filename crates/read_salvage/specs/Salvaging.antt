-- What the loop of the salvage says of its buffers, for any labels that the class table says.
use Rattle.std.specs.Prelude.{ℕ, ◌≤◌, ◌≡◌, Bool, Result, List, length, take}
use Rattle.meaning.specs.Paths.{Label}
use Rattle.meaning.specs.Salvage.{salvage_walked, salvaged_tree, salvage_refusal}
use Rattle.read_record.specs.Classes.{Tabled}
use Rattle.read_judged.specs.declared.Fault.{Fault}
use Rattle.read_judged.specs.Answers.{refusal_of}

-- A file that is not refused: the first `used` bytes of `out` are what is left, the first `records` of `reasons` the reason of each record, and
-- `stopped` is the fault that ended the walk, 1 or none
pub record Kept (second : Bool) (labels : List Label) (tree out reasons : List ℕ) (used records stopped : ℕ) : Type 0 where
  pub bytes : take used out ≡ salvaged_tree second labels tree
  pub fits : used ≤ length out
  pub most : used ≤ 45056
  pub told : take records reasons ≡ (salvage_walked second labels tree).state.reasons
  pub few : records ≤ length reasons
  pub counted : records ≤ 11264
  pub ended : stopped ≡ (salvage_walked second labels tree).number
  pub one : stopped ≤ 1

pub record Salvaging (second : Bool) (classes tree out reasons : List ℕ) (judged : Result Unit Fault) (used records stopped : ℕ) : Type 0 where
  pub refusal : (labels : List Label) → Tabled labels classes → refusal_of 3 judged ≡ salvage_refusal second labels tree
  pub kept : (labels : List Label) → Tabled labels classes → (refusal_of 3 judged).number ≡ 0 → Kept second labels tree out reasons used records stopped
