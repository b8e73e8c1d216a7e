-- What a bare path comes to under a class table: it passes, or its refusal as this input.
use Rattle.std.specs.Prelude.{ℕ, ◌≡◌, Result, Ok, Err, List}
use Rattle.std.proofs.Common.{ap, ◌∙◌}
use Rattle.read_judged.specs.Answers.{number_of, some_number}
use Rattle.read_judged.specs.declared.RefusalKind.{RefusalKind}
use Rattle.op_answers.specs.declared.Input.{Input}
use Rattle.op_answers.specs.declared.Refusal.{Refusal}
use Rattle.op_answers.specs.Cases.{input_of, meant}
use Rattle.op_profile.specs.Paths.{path_number_by}

pub record PathStops (classes path : List ℕ) (input : Input) (r : Refusal) : Type 0 where
  pub is : meant r ≡ record { number = path_number_by classes path; input = input_of input; place = 0 }
  pub some : path_number_by classes path ≡ 0 → ⊥

abbrev pub PathJudged : (classes path : List ℕ) → Input → Result Unit Refusal → Type 0
PathJudged classes path input (Ok _) = path_number_by classes path ≡ 0
PathJudged classes path input (Err r) = PathStops classes path input r

pub path_stops : {classes path : List ℕ} {input : Input} {kind : RefusalKind} → number_of kind ≡ path_number_by classes path
    → PathStops classes path input (record { kind = kind; input = input; place = 0 })
path_stops {classes} {path} {input} {kind} e =
    record { is = ap (λ (n : ℕ). record { number = n; input = input_of input; place = 0 }) e; some = λ z. some_number kind (e ∙ z) }
