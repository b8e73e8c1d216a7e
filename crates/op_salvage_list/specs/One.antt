-- "Each public operation's contract determines result and final buffer contents for all inputs, refused ones too": the result, not only what it means.
use Rattle.std.specs.Prelude.{ℕ, ◌≡◌, Result, List}
use Rattle.std.proofs.Common.{arith}
use Rattle.meaning.specs.Operations.{listed, refused}
use Rattle.meaning.specs.Salvage.{ListsSalvage}
use Rattle.op_answers.specs.declared.Refusal.{Refusal}
use Rattle.op_answers.specs.Cases.{filling_answer}
use Rattle.op_answers.specs.OneToOne.{filling_one}
use Rattle.theory_salvage.specs.Listed.{lists_salvage_unique}

pub salvage_block_one : (profile tree : List ℕ) (k : ℕ) (buffer : List ℕ) (a b : Result ℕ Refusal) (x y : List ℕ)
    → ListsSalvage profile tree k buffer (filling_answer listed a x) → ListsSalvage profile tree k buffer (filling_answer listed b y) → (a ≡ b) × (x ≡ y)
salvage_block_one profile tree k buffer a b x y p q =
    filling_one listed (λ (e : listed ≡ refused). let z : ◌≡◌ {A = ℕ} 0 1 = cc in absurd (omega arith)) a b x y
    (lists_salvage_unique profile tree k buffer _ _ p q)
