-- "Each public operation's contract determines result and final buffer contents for all inputs, refused ones too": the result, not only what it means.
use Rattle.std.specs.Prelude.{ℕ, ◌≡◌, ◌⊎◌, Result, List}
use Rattle.std.proofs.Common.{inl, inr}
use Rattle.meaning.specs.Operations.{Decides}
use Rattle.op_answers.specs.declared.Decision.{Decision}
use Rattle.op_answers.specs.declared.Refusal.{Refusal}
use Rattle.op_answers.specs.Cases.{deciding_answer}
use Rattle.op_answers.specs.OneToOne.{deciding_one}
use Rattle.theory_answers.specs.Unique.{decides_unique, BothProofs}

-- but for two proofs of an implied question
pub decide_one : (profile question buffer : List ℕ) (a b : Result Decision Refusal) (x y : List ℕ) → Decides profile question buffer (deciding_answer a x)
    → Decides profile question buffer (deciding_answer b y) → ((a ≡ b) × (x ≡ y)) ⊎ BothProofs profile question buffer (deciding_answer a x) (deciding_answer b y)
decide_one profile question buffer a b x y p q = go (decides_unique profile question buffer _ _ p q)
  where
    go : (deciding_answer a x ≡ deciding_answer b y) ⊎ BothProofs profile question buffer (deciding_answer a x) (deciding_answer b y)
        → ((a ≡ b) × (x ≡ y)) ⊎ BothProofs profile question buffer (deciding_answer a x) (deciding_answer b y)
    go (inl e) = inl (deciding_one a b x y e)
    go (inr both) = inr both
