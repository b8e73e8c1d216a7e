-- "Each public operation's contract determines result and final buffer contents for all inputs, refused ones too": the result, not only what it means.
use Rattle.std.specs.Prelude.{ℕ, ◌≡◌, Result, List}
use Rattle.std.proofs.Common.{arith}
use Rattle.meaning.specs.Operations.{refused, line_written}
use Rattle.meaning.specs.Text.{WritesLine}
use Rattle.theory_text.specs.Lines.{writes_line_unique}
use Rattle.op_answers.specs.declared.Refusal.{Refusal}
use Rattle.op_answers.specs.Cases.{filling_answer}
use Rattle.op_answers.specs.OneToOne.{filling_one}

pub write_line_one : (profile question buffer : List ℕ) (a b : Result ℕ Refusal) (x y : List ℕ) → WritesLine profile question buffer (filling_answer line_written a x)
    → WritesLine profile question buffer (filling_answer line_written b y) → (a ≡ b) × (x ≡ y)
write_line_one profile question buffer a b x y p q =
    filling_one line_written (λ (e : line_written ≡ refused). let z : ◌≡◌ {A = ℕ} 0 1 = cc in absurd (omega arith)) a b x y
    (writes_line_unique profile question buffer _ _ p q)
