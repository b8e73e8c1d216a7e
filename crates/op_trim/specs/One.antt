-- "Each public operation's contract determines result and final buffer contents for all inputs, refused ones too": the result, not only what it means.
use Rattle.std.specs.Prelude.{ℕ, ◌≡◌, Result, List}
use Rattle.std.proofs.Common.{arith}
use Rattle.meaning.specs.Operations.{refused, trimmed}
use Rattle.meaning.specs.Trimming.{Trims}
use Rattle.op_answers.specs.declared.Refusal.{Refusal}
use Rattle.op_answers.specs.Cases.{filling_answer}
use Rattle.op_answers.specs.OneToOne.{filling_one}
use Rattle.theory_trim.specs.TrimmedBytes.{trims_unique}

pub trim_one : (profile question proof buffer : List ℕ) (a b : Result ℕ Refusal) (x y : List ℕ) → Trims profile question proof buffer (filling_answer trimmed a x)
    → Trims profile question proof buffer (filling_answer trimmed b y) → (a ≡ b) × (x ≡ y)
trim_one profile question proof buffer a b x y p q =
    filling_one trimmed (λ (e : trimmed ≡ refused). let z : ◌≡◌ {A = ℕ} 0 1 = cc in absurd (omega arith)) a b x y
    (trims_unique profile question proof buffer _ _ p q)
