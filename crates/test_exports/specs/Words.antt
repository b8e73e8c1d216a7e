-- An answer as four numbers: the case (0 refused), then its values.
use Rattle.std.specs.Prelude.{ℕ, Bool, true, false, Option, None, Some, Result, Ok, Err, List, [], ◌∷◌}
use Rattle.read_judged.specs.Answers.{number_of}
use Rattle.op_answers.specs.declared.Refusal.{Refusal}
use Rattle.op_answers.specs.declared.Witness.{Witness}
use Rattle.op_answers.specs.declared.Countered.{Countered}
use Rattle.op_answers.specs.declared.Countered.TheVariants.{Breaks, Refused}
use Rattle.op_answers.specs.declared.Decision.{Decision}
use Rattle.op_answers.specs.declared.Decision.TheVariants.{Implied, NotImplied}
use Rattle.op_answers.specs.Cases.{input_of}
use Rattle.op_lean.specs.declared.Lean.{Lean}

abbrev pub refusal_words : Refusal → List ℕ
refusal_words r = 0 ∷ number_of r.kind ∷ input_of r.input ∷ r.place ∷ []

abbrev pub case_words : ℕ → ℕ → List ℕ
case_words which used = which ∷ used ∷ 0 ∷ 0 ∷ []

-- of a witness the context and the targets
abbrev pub witness_words : ℕ → Witness → List ℕ
witness_words which w = which ∷ w.context ∷ w.first ∷ w.second ∷ []

abbrev pub filling_words : Result ℕ Refusal → List ℕ
filling_words (Ok used) = case_words 1 used
filling_words (Err r) = refusal_words r

-- the numbers of the dropped keys are not told
abbrev pub lean_words : Result Lean Refusal → List ℕ
lean_words (Ok lean) = case_words 1 lean.used
lean_words (Err r) = refusal_words r

abbrev pub inclusion_words : Result Bool Refusal → List ℕ
inclusion_words (Ok true) = case_words 1 0
inclusion_words (Ok false) = case_words 2 0
inclusion_words (Err r) = refusal_words r

abbrev pub keeping_words : Result (Option Witness) Refusal → List ℕ
keeping_words (Ok None) = case_words 1 0
keeping_words (Ok (Some w)) = witness_words 2 w
keeping_words (Err r) = refusal_words r

abbrev pub checking_words : Result Unit Refusal → List ℕ
checking_words (Ok _) = case_words 1 0
checking_words (Err r) = refusal_words r

abbrev pub countering_words : Result Witness Countered → List ℕ
countering_words (Ok w) = witness_words 1 w
countering_words (Err (Breaks n w)) = 0 ∷ 12 ∷ 1 ∷ n ∷ []
countering_words (Err (Refused r)) = refusal_words r

abbrev pub deciding_words : Result Decision Refusal → List ℕ
deciding_words (Ok (Implied used)) = case_words 1 used
deciding_words (Ok (NotImplied used)) = case_words 2 used
deciding_words (Err r) = refusal_words r
