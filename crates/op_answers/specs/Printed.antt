-- A refusal as the programs print it.
use Rattle.std.specs.Prelude.{ℕ, List, ◌++◌, codes}
use Rattle.std.specs.Fmt.{decimal}
use Rattle.read_judged.specs.Answers.{number_of}
use Rattle.op_answers.specs.declared.Refusal.{Refusal}
use Rattle.op_answers.specs.Cases.{input_of}

-- "`refused` with number, input and record"
abbrev pub refusal_text : Refusal → List ℕ
refusal_text r = codes "refused " ++ decimal (number_of r.kind) ++ codes " " ++ decimal (input_of r.input) ++ codes " " ++ decimal r.place
