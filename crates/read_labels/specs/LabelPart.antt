-- The label records of a profile where the operations find them: so many from the first entry on.
use Rattle.std.specs.Prelude.{ℕ, ◌+◌, ◌-◌, ◌≤◌, ◌≡◌, Bool, cond, List, length}
use Rattle.std.proofs.Common.{ap, ◌∙◌, arith}
use Rattle.meaning.specs.Refusals.{behind_edition, first_entry}
use Rattle.meaning.specs.Operations.{records_from, labels_in, second_in}
use Rattle.read_entry.specs.Labels.{labels_at}
use Rattle.read_entry.specs.Repeats.{Standing}
use Rattle.read_labels.specs.First.{first_is, entries_at}
use Rattle.read_labels.specs.ProfileLabels.{profile_labels_are, profile_label_records}

pub record LabelPart (profile labels : List ℕ) (count : ℕ) : Type 0 where
  pub are : labels_at count labels ≡ labels_in profile
  pub stand : Standing 6 count labels

module _ (profile : List ℕ) {second : Bool} {before first : ℕ} (edition : second ≡ second_in profile)
    (before_keys : before ≡ first_entry profile + length (labels_in profile)) (f : first ≡ cond second 1 0) where
  pub part_first : first ≤ before
  part_first = omega (arith, before_keys, first_is profile edition f)

  pub label_part : {labels : List ℕ} → labels ≡ records_from first profile → LabelPart profile labels (before - first)
  label_part {labels} l =
      record { are = rw (count_is, part_is) (profile_labels_are profile); stand = rw (count_is, part_is) (profile_label_records profile) }
    where
      count_is : before - first ≡ length (labels_in profile)
      count_is = omega (arith, before_keys, first_is profile edition f)

      part_is : labels ≡ behind_edition profile
      part_is = l ∙ (ap (λ (n : ℕ). records_from n profile) (first_is profile edition f) ∙ entries_at profile)
