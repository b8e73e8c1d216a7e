-- What was read of an input, with the input's number: a refusal is that input's, and what is no refusal is sound.
use Rattle.std.specs.Prelude.{ℕ, ◌≡◌, refl, Result, Ok, Err}
use Rattle.std.proofs.Common.{ap}
use Rattle.meaning.specs.Refusals.{sound}
use Rattle.read_judged.specs.Answers.{refusal_of}
use Rattle.read_judged.specs.declared.Fault.{Fault}
use Rattle.op_answers.specs.declared.Input.{Input}
use Rattle.op_answers.specs.declared.Refusal.{Refusal}
use Rattle.op_answers.specs.Cases.{input_of, outcome_of, meant}

module _ {A : Type 0} (input : Input) where
  pub outcome_refused : {r : Refusal} (read : Result A Fault) → Err r ≡ outcome_of input read → meant r ≡ refusal_of (input_of input) read
  outcome_refused (Ok value) e = cc
  outcome_refused {r} (Err fault) e = let s : r ≡ record { kind = fault.kind; input = input; place = fault.place } = cc in ap meant s

  pub outcome_fine : {value : A} (read : Result A Fault) → Ok value ≡ outcome_of input read → sound ≡ refusal_of (input_of input) read
  outcome_fine (Ok value) e = refl
  outcome_fine (Err fault) e = cc
