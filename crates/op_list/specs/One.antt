-- "Each public operation's contract determines result and final buffer contents for all inputs, refused ones too": the result, not only what it means.
use Rattle.std.specs.Prelude.{ℕ, ◌≡◌, Result, List}
use Rattle.meaning.specs.Operations.{Lists}
use Rattle.op_answers.specs.declared.Refusal.{Refusal}
use Rattle.op_answers.specs.Cases.{listing_answer}
use Rattle.op_answers.specs.OneToOne.{listing_one}
use Rattle.theory_answers.specs.Unique.{lists_unique}

pub list_one : (profile tree : List ℕ) (k : ℕ) (buffer : List ℕ) (a b : Result ℕ Refusal) (x y : List ℕ) → Lists profile tree k buffer (listing_answer a x)
    → Lists profile tree k buffer (listing_answer b y) → (a ≡ b) × (x ≡ y)
list_one profile tree k buffer a b x y p q = listing_one a b x y (lists_unique profile tree k buffer _ _ p q)
