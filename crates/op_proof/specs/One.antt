-- "Each public operation's contract determines result and final buffer contents for all inputs, refused ones too": the result, not only what it means.
use Rattle.std.specs.Prelude.{ℕ, ◌≡◌, Result, List}
use Rattle.meaning.specs.Operations.{ChecksProof}
use Rattle.op_answers.specs.declared.Refusal.{Refusal}
use Rattle.op_answers.specs.Cases.{checking_answer}
use Rattle.op_answers.specs.OneToOne.{checking_one}
use Rattle.theory_answers.specs.Unique.{checks_proof_unique}

pub check_proof_one : (profile question proof : List ℕ) (a b : Result Unit Refusal) → ChecksProof profile question proof (checking_answer a)
    → ChecksProof profile question proof (checking_answer b) → a ≡ b
check_proof_one profile question proof a b p q = checking_one a b (checks_proof_unique profile question proof _ _ p q)
