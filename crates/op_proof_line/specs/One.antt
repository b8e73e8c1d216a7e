-- "Each public operation's contract determines result and final buffer contents for all inputs, refused ones too": the result, not only what it means.
use Rattle.std.specs.Prelude.{ℕ, ◌≡◌, Result, List}
use Rattle.std.proofs.Common.{arith}
use Rattle.meaning.specs.Operations.{Answer, refused, line_written}
use Rattle.meaning.specs.ProofText.{WritesProofLine}
use Rattle.theory_answers.specs.FromProof.{from_unique}
use Rattle.op_answers.specs.declared.Refusal.{Refusal}
use Rattle.op_answers.specs.Cases.{filling_answer}
use Rattle.op_answers.specs.OneToOne.{filling_one}

pub writes_proof_line_unique : (profile question proof : List ℕ) (n : ℕ) (buffer : List ℕ) (a b : Answer) → WritesProofLine profile question proof n buffer a
    → WritesProofLine profile question proof n buffer b → a ≡ b
unfolding WritesProofLine
writes_proof_line_unique profile question proof n buffer = from_unique _ _ _ _ _ _

pub write_proof_line_one : (profile question proof : List ℕ) (n : ℕ) (buffer : List ℕ) (a b : Result ℕ Refusal) (x y : List ℕ)
    → WritesProofLine profile question proof n buffer (filling_answer line_written a x)
    → WritesProofLine profile question proof n buffer (filling_answer line_written b y) → (a ≡ b) × (x ≡ y)
write_proof_line_one profile question proof n buffer a b x y p q =
    filling_one line_written (λ (e : line_written ≡ refused). let z : ◌≡◌ {A = ℕ} 0 1 = cc in absurd (omega arith)) a b x y
    (writes_proof_line_unique profile question proof n buffer _ _ p q)
