-- "Each public operation's contract determines result and final buffer contents for all inputs, refused ones too": the result, not only what it means.
use Rattle.std.specs.Prelude.{ℕ, ◌≡◌, List, Option, Result}
use Rattle.meaning.specs.Operations.{TestsTree, ChecksCounterexample}
use Rattle.op_answers.specs.declared.Refusal.{Refusal}
use Rattle.op_answers.specs.declared.Witness.{Witness}
use Rattle.op_answers.specs.declared.Countered.{Countered}
use Rattle.op_answers.specs.Cases.{keeping_answer, KeepingPadded, countering_answer, CounteringPadded}
use Rattle.op_answers.specs.OneToOne.{keeping_one, countering_one}
use Rattle.theory_answers.specs.Unique.{tests_tree_unique, checks_counterexample_unique}

pub keep_one : (profile question tree : List ℕ) (a b : Result (Option Witness) Refusal) → TestsTree profile question tree (keeping_answer a) → KeepingPadded a
    → TestsTree profile question tree (keeping_answer b) → KeepingPadded b → a ≡ b
keep_one profile question tree a b p h q k = keeping_one a b h k (tests_tree_unique profile question tree _ _ p q)

pub check_counterexample_one : (profile question tree : List ℕ) (a b : Result Witness Countered) → ChecksCounterexample profile question tree (countering_answer a)
    → CounteringPadded a → ChecksCounterexample profile question tree (countering_answer b) → CounteringPadded b → a ≡ b
check_counterexample_one profile question tree a b p h q k = countering_one a b h k (checks_counterexample_unique profile question tree _ _ p q)
