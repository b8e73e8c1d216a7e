-- "Each public operation's contract determines result and final buffer contents for all inputs, refused ones too": the result, not only what it means.
use Rattle.std.specs.Prelude.{ℕ, ◌≡◌, Result, List}
use Rattle.std.proofs.Common.{arith}
use Rattle.meaning.specs.Operations.{refused, key_read}
use Rattle.meaning.specs.Text.{ReadsLine}
use Rattle.op_answers.specs.declared.Refusal.{Refusal}
use Rattle.op_answers.specs.Cases.{filling_answer}
use Rattle.op_answers.specs.OneToOne.{filling_one}
use Rattle.theory_text.specs.Lines.{reads_line_unique}

pub read_line_one : (profile line buffer : List ℕ) (a b : Result ℕ Refusal) (x y : List ℕ) → ReadsLine profile line buffer (filling_answer key_read a x)
    → ReadsLine profile line buffer (filling_answer key_read b y) → (a ≡ b) × (x ≡ y)
read_line_one profile line buffer a b x y p q =
    filling_one key_read (λ (e : key_read ≡ refused). let z : ◌≡◌ {A = ℕ} 0 1 = cc in absurd (omega arith)) a b x y
    (reads_line_unique profile line buffer _ _ p q)
