-- "Each public operation's contract determines result and final buffer contents for all inputs, refused ones too": the result, not only what it means.
use Rattle.std.specs.Prelude.{ℕ, ◌≡◌, Bool, Result, List}
use Rattle.meaning.specs.Operations.{Rewrites, Includes}
use Rattle.op_answers.specs.declared.Refusal.{Refusal}
use Rattle.op_answers.specs.Cases.{rewriting_answer, inclusion_answer}
use Rattle.op_answers.specs.OneToOne.{rewriting_one, inclusion_one}
use Rattle.theory_answers.specs.Unique.{rewrites_unique, includes_unique}

pub rewrite_one : (profile buffer : List ℕ) (a b : Result ℕ Refusal) (x y : List ℕ) → Rewrites profile buffer (rewriting_answer a x)
    → Rewrites profile buffer (rewriting_answer b y) → (a ≡ b) × (x ≡ y)
rewrite_one profile buffer a b x y p q = rewriting_one a b x y (rewrites_unique profile buffer _ _ p q)

pub include_one : (profile P Q : List ℕ) (a b : Result Bool Refusal) → Includes profile P Q (inclusion_answer a) → Includes profile P Q (inclusion_answer b) → a ≡ b
include_one profile P Q a b p q = inclusion_one a b (includes_unique profile P Q _ _ p q)
