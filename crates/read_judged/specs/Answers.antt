-- "Where an answer is an enum, a definition gives this paper's number and values for each case of the enum."
use Rattle.std.specs.Prelude.{ℕ, ◌≡◌, refl, cond, eqb, Result, Ok, Err}
use Rattle.std.proofs.Common.{sym, ap, ◌∙◌, arith}
use Rattle.meaning.specs.Refusals.{Refusal, sound}
use Rattle.read_judged.specs.declared.Fault.{Fault}
use Rattle.read_judged.specs.declared.RefusalKind.{RefusalKind}
use Rattle.read_judged.specs.declared.RefusalKind.TheVariants.{NotWhole, NotAllowed, BadLabel, BadSymbols, BadKeyPaths, NotValid, TooLarge, BadNode, Unfollowed, OtherEnd, BreaksAKey, KeepsTheQuestion, SmallAnswer, KeyTwice, Repeated, NotALine, UnknownName, ShortDetail}

-- the number of a kind in the table
abbrev pub number_of : RefusalKind → ℕ
number_of NotWhole = 1
number_of NotAllowed = 2
number_of BadLabel = 3
number_of BadSymbols = 4
number_of BadKeyPaths = 5
number_of NotValid = 6
number_of TooLarge = 7
number_of BadNode = 8
number_of Unfollowed = 9
number_of OtherEnd = 10
number_of BreaksAKey = 12
number_of KeepsTheQuestion = 13
number_of SmallAnswer = 14
number_of KeyTwice = 15
number_of Repeated = 16
number_of NotALine = 17
number_of UnknownName = 18
number_of ShortDetail = 19

-- the number that a test of the table gives: 0 where it gives none
abbrev pub told : {A : Type 0} → Result A RefusalKind → ℕ
told (Ok _) = 0
told (Err kind) = number_of kind

-- the refusal of this input
abbrev pub refusal_of : {A : Type 0} → ℕ → Result A Fault → Refusal
refusal_of input (Ok _) = sound
refusal_of input (Err fault) = record { number = number_of fault.kind; input = input; place = fault.place }

-- what the tests of record number `place` found
abbrev pub judged_at : ℕ → Result Unit RefusalKind → Result Unit Fault
judged_at place (Ok u) = Ok u
judged_at place (Err kind) = Err (record { kind = kind; place = place })

pub passes : (place : ℕ) (u : Unit) (found : Result Unit RefusalKind) → Ok u ≡ judged_at place found → told found ≡ 0
passes place u (Ok v) e = refl
passes place u (Err kind) e = cc

-- a fault has its kind's number and its record's
pub record Faulted (fault : Fault) (place : ℕ) (found : Result Unit RefusalKind) : Type 0 where
  pub number : told found ≡ number_of fault.kind
  pub at : place ≡ fault.place

pub faulted : (place : ℕ) {fault : Fault} (found : Result Unit RefusalKind) → Err fault ≡ judged_at place found → Faulted fault place found
faulted place (Ok v) e = cc
faulted place {fault} (Err kind) e = let p : fault ≡ record { kind = kind; place = place } = cc in record { number = sym (ap (λ (f : Fault). number_of f.kind) p); at = sym (ap (λ (f : Fault). f.place) p) }

-- no kind has number 0
pub some_number : (kind : RefusalKind) → number_of kind ≡ 0 → ⊥
some_number NotWhole e = omega arith
some_number NotAllowed e = omega arith
some_number BadLabel e = omega arith
some_number BadSymbols e = omega arith
some_number BadKeyPaths e = omega arith
some_number NotValid e = omega arith
some_number TooLarge e = omega arith
some_number BadNode e = omega arith
some_number Unfollowed e = omega arith
some_number OtherEnd e = omega arith
some_number BreaksAKey e = omega arith
some_number KeepsTheQuestion e = omega arith
some_number SmallAnswer e = omega arith
some_number KeyTwice e = omega arith
some_number Repeated e = omega arith
some_number NotALine e = omega arith
some_number UnknownName e = omega arith
some_number ShortDetail e = omega arith

-- the number names the kind
kind_at : ℕ → RefusalKind
kind_at n =
    cond (eqb n 1) NotWhole (cond (eqb n 2) NotAllowed (cond (eqb n 3) BadLabel (cond (eqb n 4) BadSymbols (cond (eqb n 5) BadKeyPaths
    (cond (eqb n 6) NotValid (cond (eqb n 7) TooLarge (cond (eqb n 8) BadNode (cond (eqb n 9) Unfollowed (cond (eqb n 10) OtherEnd
    (cond (eqb n 12) BreaksAKey (cond (eqb n 13) KeepsTheQuestion (cond (eqb n 14) SmallAnswer (cond (eqb n 15) KeyTwice
    (cond (eqb n 16) Repeated (cond (eqb n 17) NotALine (cond (eqb n 18) UnknownName ShortDetail))))))))))))))))

kind_again : (kind : RefusalKind) → kind_at (number_of kind) ≡ kind
unfolding kind_at
kind_again NotWhole = refl
kind_again NotAllowed = refl
kind_again BadLabel = refl
kind_again BadSymbols = refl
kind_again BadKeyPaths = refl
kind_again NotValid = refl
kind_again TooLarge = refl
kind_again BadNode = refl
kind_again Unfollowed = refl
kind_again OtherEnd = refl
kind_again BreaksAKey = refl
kind_again KeepsTheQuestion = refl
kind_again SmallAnswer = refl
kind_again KeyTwice = refl
kind_again Repeated = refl
kind_again NotALine = refl
kind_again UnknownName = refl
kind_again ShortDetail = refl

pub same_kind : (a b : RefusalKind) → number_of a ≡ number_of b → a ≡ b
same_kind a b e = sym (kind_again a) ∙ ap kind_at e ∙ kind_again b
