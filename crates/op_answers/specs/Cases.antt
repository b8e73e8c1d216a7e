-- "Where an answer is an enum, a definition gives this paper's number and values for each case of the enum. The promises use that definition."
use Rattle.std.specs.Prelude.{ℕ, ◌*◌, ◌-◌, ◌<◌, ◌≤◌, Bool, true, false, Option, Some, None, Result, Ok, Err, List, [], ◌∷◌, length, ◌≡◌, take, drop, replicate}
use Rattle.meaning.specs.Refusals as Table
use Rattle.meaning.specs.Operations.{Answer, Verdict, refused_by, plain, shown, broken_by, rewritten, included, not_included, kept, broken, accepted, listed, implied, not_implied}
use Rattle.read_judged.specs.Answers.{number_of}
use Rattle.read_judged.specs.declared.Fault.{Fault}
use Rattle.op_answers.specs.declared.Input.{Input}
use Rattle.op_answers.specs.declared.Input.TheVariants as I
use Rattle.op_answers.specs.declared.Refusal.{Refusal}
use Rattle.op_answers.specs.declared.Witness.{Witness}
use Rattle.op_answers.specs.declared.Countered.{Countered}
use Rattle.op_answers.specs.declared.Countered.TheVariants.{Breaks, Refused}
use Rattle.op_answers.specs.declared.Decision.{Decision}
use Rattle.op_answers.specs.declared.Decision.TheVariants.{Implied, NotImplied}

-- the number of an input
abbrev pub input_of : Input → ℕ
input_of I.Profile = 1
input_of I.Question = 2
input_of I.TreeOrProof = 3
input_of I.Answer = 4

-- the code's refusal is the table's
abbrev pub meant : Refusal → Table.Refusal
meant r = record { number = number_of r.kind; input = input_of r.input; place = r.place }

-- what was read of one input, with the input's number
abbrev pub outcome_of : {A : Type 0} → Input → Result A Fault → Result A Refusal
outcome_of input (Ok value) = Ok value
outcome_of input (Err fault) = Err (record { kind = fault.kind; input = input; place = fault.place })

-- the answer buffer's room, or its refusal
abbrev pub RoomTold : List ℕ → Result Unit Refusal → Type 0
RoomTold buffer (Ok _) = 65536 ≤ length buffer
RoomTold buffer (Err r) = (length buffer < 65536) × (meant r ≡ record { number = 14; input = 4; place = 0 })

-- so many bytes used, and the buffer as it is at the end
abbrev pub used_of : Verdict → ℕ → List ℕ → Answer
used_of v used buffer = record { verdict = v; number = 0; input = 0; place = 0; used = used; buffer = buffer; witness = [] }

-- an operation that fills the buffer, by its verdict
abbrev pub filling_answer : Verdict → Result ℕ Refusal → List ℕ → Answer
filling_answer v (Ok used) buffer = used_of v used buffer
filling_answer v (Err r) buffer = refused_by (meant r) buffer

abbrev pub rewriting_answer : Result ℕ Refusal → List ℕ → Answer
rewriting_answer r buffer = filling_answer rewritten r buffer

abbrev pub listing_answer : Result ℕ Refusal → List ℕ → Answer
listing_answer r buffer = filling_answer listed r buffer

abbrev pub inclusion_answer : Result Bool Refusal → Answer
inclusion_answer (Ok true) = plain included
inclusion_answer (Ok false) = plain not_included
inclusion_answer (Err r) = refused_by (meant r) []

-- the numbers of a witness: context, smaller target, larger, and a pair for each key path
abbrev pub pairs_of : Witness → List ℕ
pairs_of w = w.x0 ∷ w.y0 ∷ w.x1 ∷ w.y1 ∷ w.x2 ∷ w.y2 ∷ w.x3 ∷ w.y3 ∷ []

abbrev pub numbers_of : Witness → List ℕ
numbers_of w = w.context ∷ w.first ∷ w.second ∷ take (2 * w.paths) (pairs_of w)

-- what stands behind the pairs is 0, so that a witness is fixed by its numbers
pub record Padded (w : Witness) : Type 0 where
  pub few : w.paths ≤ 4
  pub zeros : drop (2 * w.paths) (pairs_of w) ≡ replicate (8 - 2 * w.paths) 0

-- the first witness against the key, if the tree breaks it
abbrev pub keeping_answer : Result (Option Witness) Refusal → Answer
keeping_answer (Ok None) = plain kept
keeping_answer (Ok (Some w)) = shown broken (numbers_of w)
keeping_answer (Err r) = refused_by (meant r) []

pub record KeepingPadded (r : Result (Option Witness) Refusal) : Type 0 where
  pub padded : (w : Witness) → r ≡ Ok (Some w) → Padded w

abbrev pub checking_answer : Result Unit Refusal → Answer
checking_answer (Ok _) = plain accepted
checking_answer (Err r) = refused_by (meant r) []

-- the question's first witness; 12 with the lowest broken key's number and its first witness
abbrev pub countering_answer : Result Witness Countered → Answer
countering_answer (Ok w) = shown accepted (numbers_of w)
countering_answer (Err (Breaks n w)) = broken_by n (numbers_of w)
countering_answer (Err (Refused r)) = refused_by (meant r) []

pub record CounteringPadded (r : Result Witness Countered) : Type 0 where
  pub accepts : (w : Witness) → r ≡ Ok w → Padded w
  pub breaks : (n : ℕ) (w : Witness) → r ≡ Err (Breaks n w) → Padded w

abbrev pub deciding_answer : Result Decision Refusal → List ℕ → Answer
deciding_answer (Ok (Implied used)) buffer = used_of implied used buffer
deciding_answer (Ok (NotImplied used)) buffer = used_of not_implied used buffer
deciding_answer (Err r) buffer = refused_by (meant r) buffer
