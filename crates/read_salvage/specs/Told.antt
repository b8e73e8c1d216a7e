-- What `salvage_into` answers: the file's own refusal, or what is left and why the rest is dropped.
use Rattle.std.specs.Prelude.{ℕ, ◌≡◌, refl, Bool, true, false, cond, Result, Ok, Err, is_err, List}
use Rattle.std.proofs.Common.{sym}
use Rattle.std.proofs.lemmas.Bool.{false≢true}
use Rattle.read_judged.specs.Answers.{told, some_number}
use Rattle.read_judged.specs.declared.RefusalKind.{RefusalKind}
use Rattle.read_judged.specs.declared.Fault.{Fault}
use Rattle.read_salvage.specs.declared.salvage.Passed.{Passed}
use Rattle.read_salvage.specs.Salvaging.{Salvaging}

abbrev pub SalvagedInto : Bool → (classes tree out reasons : List ℕ) → Result Passed Fault → Type 0
SalvagedInto second classes tree out reasons (Ok p) = Salvaging second classes tree out reasons (Ok tt) p.used p.records (cond p.stopped 1 0)
SalvagedInto second classes tree out reasons (Err fault) = Salvaging second classes tree out reasons (Err fault) 0 0 0

-- a record's tests found a fault, or none
pub told_fault : (judged : Result Unit RefusalKind) → is_err judged ≡ true → told judged ≡ 0 → ⊥
told_fault (Ok u) e = absurd (false≢true e)
told_fault (Err kind) e = some_number kind

pub told_none : (judged : Result Unit RefusalKind) → is_err judged ≡ false → told judged ≡ 0
told_none (Ok u) e = refl
told_none (Err kind) e = absurd (false≢true (sym e))
