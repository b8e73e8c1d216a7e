-- The number of the record behind the edition's, and what stands from it on.
use Rattle.std.specs.Prelude.{ℕ, ◌≡◌, refl, Bool, true, false, cond, List, drop}
use Rattle.std.proofs.Common.{ap, ◌∙◌}
use Rattle.meaning.specs.Records.{record_length}
use Rattle.meaning.specs.Refusals.{has_edition, behind_edition, first_entry}
use Rattle.meaning.specs.Operations.{records_from, second_in}

pub first_is : (bytes : List ℕ) {second : Bool} {first : ℕ} → second ≡ second_in bytes → first ≡ cond second 1 0 → first ≡ first_entry bytes
unfolding second_in first_entry
first_is bytes e f = f ∙ ap (λ (b : Bool). cond b 1 0) e

pub entries_at : (bytes : List ℕ) → records_from (first_entry bytes) bytes ≡ behind_edition bytes
unfolding records_from first_entry behind_edition
entries_at bytes = go (has_edition bytes)
  where
    go : (b : Bool) → records_from (cond b 1 0) bytes ≡ cond b (drop (record_length bytes) bytes) bytes
    go true = refl
    go false = refl
