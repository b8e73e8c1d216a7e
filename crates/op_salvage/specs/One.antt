-- "Each public operation's contract determines result and final buffer contents for all inputs, refused ones too": the result, not only what it means.
use Rattle.std.specs.Prelude.{ℕ, ◌≡◌, Result, List}
use Rattle.std.proofs.Common.{arith}
use Rattle.meaning.specs.Operations.{refused, salvaged}
use Rattle.meaning.specs.Salvage.{Salvages}
use Rattle.op_answers.specs.declared.Refusal.{Refusal}
use Rattle.op_answers.specs.Cases.{filling_answer}
use Rattle.op_answers.specs.OneToOne.{filling_one}
use Rattle.theory_salvage.specs.Listed.{salvages_unique}

pub salvage_one : (profile tree buffer : List ℕ) (a b : Result ℕ Refusal) (x y : List ℕ) → Salvages profile tree buffer (filling_answer salvaged a x)
    → Salvages profile tree buffer (filling_answer salvaged b y) → (a ≡ b) × (x ≡ y)
salvage_one profile tree buffer a b x y p q =
    filling_one salvaged (λ (e : salvaged ≡ refused). let z : ◌≡◌ {A = ℕ} 0 1 = cc in absurd (omega arith)) a b x y (salvages_unique profile tree buffer _ _ p q)
