-- An answer of `meaning` stands for one case of its type: with the uniqueness of the answers, an operation's result and the buffer at its end are fixed.
use Rattle.std.specs.Prelude.{ℕ, ◌*◌, ◌-◌, ◌≤◌, ◌≡◌, refl, Bool, true, false, cond, eqb, Option, Some, None, Result, Ok, Err, List, [], ◌++◌, length, take, drop, replicate, get_or}
use Rattle.std.proofs.Common.{sym, ◌∙◌, ap, ap₂, arith, take-append-drop, length-take-le}
use Rattle.meaning.specs.Refusals as Table
use Rattle.meaning.specs.Operations.{Answer, Verdict, refused_by, plain, shown, broken_by, refused, rewritten, included, not_included, kept, broken, accepted, listed, implied, not_implied}
use Rattle.read_judged.specs.Answers.{same_kind}
use Rattle.read_judged.specs.declared.RefusalKind.{RefusalKind}
use Rattle.op_answers.specs.declared.Input.{Input}
use Rattle.op_answers.specs.declared.Input.TheVariants as I
use Rattle.op_answers.specs.declared.Refusal.{Refusal}
use Rattle.op_answers.specs.declared.Witness.{Witness}
use Rattle.op_answers.specs.declared.Countered.{Countered}
use Rattle.op_answers.specs.declared.Countered.TheVariants.{Breaks, Refused}
use Rattle.op_answers.specs.declared.Decision.{Decision}
use Rattle.op_answers.specs.declared.Decision.TheVariants.{Implied, NotImplied}
use Rattle.op_answers.specs.Cases.{input_of, meant, numbers_of, pairs_of, Padded, KeepingPadded, CounteringPadded, rewriting_answer, inclusion_answer, keeping_answer, checking_answer, countering_answer, listing_answer, deciding_answer, filling_answer}

-- the number names the input
input_at : ℕ → Input
input_at n = cond (eqb n 1) I.Profile (cond (eqb n 2) I.Question (cond (eqb n 3) I.TreeOrProof I.Answer))

input_again : (input : Input) → input_at (input_of input) ≡ input
unfolding input_at
input_again I.Profile = refl
input_again I.Question = refl
input_again I.TreeOrProof = refl
input_again I.Answer = refl

same_input : (a b : Input) → input_of a ≡ input_of b → a ≡ b
same_input a b e = sym (input_again a) ∙ ap input_at e ∙ input_again b

-- a refusal is its number, input and record
refusal_made : RefusalKind → Input → ℕ → Refusal
refusal_made kind input place = record { kind = kind; input = input; place = place }

refusal_same : (r s : Refusal) → r.kind ≡ s.kind → r.input ≡ s.input → r.place ≡ s.place → r ≡ s
unfolding refusal_made
refusal_same r s k i p =
    ap (λ (kind : RefusalKind). refusal_made kind r.input r.place) k
    ∙ ap₂ (λ (input : Input) (place : ℕ). refusal_made s.kind input place) i p

refusal_one : (r s : Refusal) (x y : List ℕ) → refused_by (meant r) x ≡ refused_by (meant s) y → (r ≡ s) × (x ≡ y)
unfolding refused_by
refusal_one r s x y e = (
  refusal_same r s (same_kind r.kind s.kind (ap (λ (z : Answer). z.number) e)) (same_input r.input s.input (ap (λ (z : Answer). z.input) e)) (ap (λ (z : Answer). z.place) e),
  ap (λ (z : Answer). z.buffer) e,
)

-- a witness is its numbers, with 0 behind them
witness_in : ℕ → List ℕ → List ℕ → Witness
witness_in n l pairs =
    record {
      context = get_or l 0 0;
      first = get_or l 1 0;
      second = get_or l 2 0;
      paths = n;
      x0 = get_or pairs 0 0;
      y0 = get_or pairs 1 0;
      x1 = get_or pairs 2 0;
      y1 = get_or pairs 3 0;
      x2 = get_or pairs 4 0;
      y2 = get_or pairs 5 0;
      x3 = get_or pairs 6 0;
      y3 = get_or pairs 7 0;
    }

from_numbers : ℕ → List ℕ → Witness
from_numbers n l = witness_in n l (drop 3 l ++ replicate (8 - 2 * n) 0)

witness_from : (w : Witness) → Padded w → w ≡ from_numbers w.paths (numbers_of w)
unfolding witness_in from_numbers
witness_from w padded =
    ap (witness_in w.paths (numbers_of w))
    (sym (take-append-drop (2 * w.paths) (pairs_of w)) ∙ ap (λ (l : List ℕ). take (2 * w.paths) (pairs_of w) ++ l) padded.zeros)

paths_one : (n m : ℕ) (l k : List ℕ) → n ≤ 4 → m ≤ 4 → length l ≡ 8 → length k ≡ 8 → length (take (2 * n) l) ≡ length (take (2 * m) k) → n ≡ m
paths_one n m l k few few' eight eight' e =
    let p : length (take (2 * n) l) ≡ 2 * n = length-take-le (2 * n) l (omega arith) in
    let q : length (take (2 * m) k) ≡ 2 * m = length-take-le (2 * m) k (omega arith) in
    omega arith

pub witness_one : (w v : Witness) → Padded w → Padded v → numbers_of w ≡ numbers_of v → w ≡ v
witness_one w v p q e =
    let n : w.paths ≡ v.paths =
    paths_one w.paths v.paths (pairs_of w) (pairs_of v) p.few q.few refl refl (ap (λ (l : List ℕ). length (drop 3 l)) e) in
    witness_from w p ∙ ap₂ from_numbers n e ∙ sym (witness_from v q)

-- an operation that fills a buffer, whatever its verdict but a refusal
pub filling_one : (v : Verdict) → (v ≡ refused → ⊥) → (a b : Result ℕ Refusal) (x y : List ℕ) → filling_answer v a x ≡ filling_answer v b y → (a ≡ b) × (x ≡ y)
unfolding refused_by
filling_one v other (Ok n) (Ok m) x y e = (ap Ok (ap (λ (z : Answer). z.used) e), ap (λ (z : Answer). z.buffer) e)
filling_one v other (Ok n) (Err s) x y e = absurd (other (ap (λ (z : Answer). z.verdict) e))
filling_one v other (Err r) (Ok m) x y e = absurd (other (sym (ap (λ (z : Answer). z.verdict) e)))
filling_one v other (Err r) (Err s) x y e = let p = refusal_one r s x y e in (ap Err p.0, p.1)

pub rewriting_one : (a b : Result ℕ Refusal) (x y : List ℕ) → rewriting_answer a x ≡ rewriting_answer b y → (a ≡ b) × (x ≡ y)
rewriting_one a b x y e = filling_one rewritten (λ (d : rewritten ≡ refused). let z : ◌≡◌ {A = ℕ} 0 1 = cc in absurd (omega arith)) a b x y e

pub listing_one : (a b : Result ℕ Refusal) (x y : List ℕ) → listing_answer a x ≡ listing_answer b y → (a ≡ b) × (x ≡ y)
listing_one a b x y e = filling_one listed (λ (d : listed ≡ refused). let z : ◌≡◌ {A = ℕ} 0 1 = cc in absurd (omega arith)) a b x y e

pub deciding_one : (a b : Result Decision Refusal) (x y : List ℕ) → deciding_answer a x ≡ deciding_answer b y → (a ≡ b) × (x ≡ y)
unfolding refused_by
deciding_one (Ok (Implied n)) (Ok (Implied m)) x y e = (ap (λ (u : ℕ). Ok (Implied u)) (ap (λ (z : Answer). z.used) e), ap (λ (z : Answer). z.buffer) e)
deciding_one (Ok (Implied n)) (Ok (NotImplied m)) x y e = let d : implied ≡ not_implied = ap (λ (z : Answer). z.verdict) e in let z : ◌≡◌ {A = ℕ} 0 1 = cc in absurd (omega arith)
deciding_one (Ok (Implied n)) (Err s) x y e = let d : implied ≡ refused = ap (λ (z : Answer). z.verdict) e in let z : ◌≡◌ {A = ℕ} 0 1 = cc in absurd (omega arith)
deciding_one (Ok (NotImplied n)) (Ok (Implied m)) x y e = let d : not_implied ≡ implied = ap (λ (z : Answer). z.verdict) e in let z : ◌≡◌ {A = ℕ} 0 1 = cc in absurd (omega arith)
deciding_one (Ok (NotImplied n)) (Ok (NotImplied m)) x y e = (ap (λ (u : ℕ). Ok (NotImplied u)) (ap (λ (z : Answer). z.used) e), ap (λ (z : Answer). z.buffer) e)
deciding_one (Ok (NotImplied n)) (Err s) x y e = let d : not_implied ≡ refused = ap (λ (z : Answer). z.verdict) e in let z : ◌≡◌ {A = ℕ} 0 1 = cc in absurd (omega arith)
deciding_one (Err r) (Ok (Implied m)) x y e = let d : refused ≡ implied = ap (λ (z : Answer). z.verdict) e in let z : ◌≡◌ {A = ℕ} 0 1 = cc in absurd (omega arith)
deciding_one (Err r) (Ok (NotImplied m)) x y e = let d : refused ≡ not_implied = ap (λ (z : Answer). z.verdict) e in let z : ◌≡◌ {A = ℕ} 0 1 = cc in absurd (omega arith)
deciding_one (Err r) (Err s) x y e = let p = refusal_one r s x y e in (ap Err p.0, p.1)

pub inclusion_one : (a b : Result Bool Refusal) → inclusion_answer a ≡ inclusion_answer b → a ≡ b
unfolding refused_by plain
inclusion_one (Ok true) (Ok true) e = refl
inclusion_one (Ok true) (Ok false) e = let d : included ≡ not_included = ap (λ (z : Answer). z.verdict) e in let z : ◌≡◌ {A = ℕ} 0 1 = cc in absurd (omega arith)
inclusion_one (Ok true) (Err s) e = let d : included ≡ refused = ap (λ (z : Answer). z.verdict) e in let z : ◌≡◌ {A = ℕ} 0 1 = cc in absurd (omega arith)
inclusion_one (Ok false) (Ok true) e = let d : not_included ≡ included = ap (λ (z : Answer). z.verdict) e in let z : ◌≡◌ {A = ℕ} 0 1 = cc in absurd (omega arith)
inclusion_one (Ok false) (Ok false) e = refl
inclusion_one (Ok false) (Err s) e = let d : not_included ≡ refused = ap (λ (z : Answer). z.verdict) e in let z : ◌≡◌ {A = ℕ} 0 1 = cc in absurd (omega arith)
inclusion_one (Err r) (Ok true) e = let d : refused ≡ included = ap (λ (z : Answer). z.verdict) e in let z : ◌≡◌ {A = ℕ} 0 1 = cc in absurd (omega arith)
inclusion_one (Err r) (Ok false) e = let d : refused ≡ not_included = ap (λ (z : Answer). z.verdict) e in let z : ◌≡◌ {A = ℕ} 0 1 = cc in absurd (omega arith)
inclusion_one (Err r) (Err s) e = ap Err (refusal_one r s [] [] e).0

pub checking_one : (a b : Result Unit Refusal) → checking_answer a ≡ checking_answer b → a ≡ b
unfolding refused_by plain
checking_one (Ok u) (Ok v) e = refl
checking_one (Ok u) (Err s) e = let d : accepted ≡ refused = ap (λ (z : Answer). z.verdict) e in let z : ◌≡◌ {A = ℕ} 0 1 = cc in absurd (omega arith)
checking_one (Err r) (Ok v) e = let d : refused ≡ accepted = ap (λ (z : Answer). z.verdict) e in let z : ◌≡◌ {A = ℕ} 0 1 = cc in absurd (omega arith)
checking_one (Err r) (Err s) e = ap Err (refusal_one r s [] [] e).0

-- broken and accepted carry a witness, and 12 one with the number of its key: of padded witnesses there is one
pub keeping_one : (a b : Result (Option Witness) Refusal) → KeepingPadded a → KeepingPadded b → keeping_answer a ≡ keeping_answer b → a ≡ b
unfolding refused_by plain shown
keeping_one (Ok None) (Ok None) p q e = refl
keeping_one (Ok None) (Ok (Some v)) p q e = let d : kept ≡ broken = ap (λ (z : Answer). z.verdict) e in let z : ◌≡◌ {A = ℕ} 0 1 = cc in absurd (omega arith)
keeping_one (Ok None) (Err s) p q e = let d : kept ≡ refused = ap (λ (z : Answer). z.verdict) e in let z : ◌≡◌ {A = ℕ} 0 1 = cc in absurd (omega arith)
keeping_one (Ok (Some w)) (Ok None) p q e = let d : broken ≡ kept = ap (λ (z : Answer). z.verdict) e in let z : ◌≡◌ {A = ℕ} 0 1 = cc in absurd (omega arith)
keeping_one (Ok (Some w)) (Ok (Some v)) p q e = ap (λ (u : Witness). Ok (Some u)) (witness_one w v (p.padded w refl) (q.padded v refl) (ap (λ (z : Answer). z.witness) e))
keeping_one (Ok (Some w)) (Err s) p q e = let d : broken ≡ refused = ap (λ (z : Answer). z.verdict) e in let z : ◌≡◌ {A = ℕ} 0 1 = cc in absurd (omega arith)
keeping_one (Err r) (Ok None) p q e = let d : refused ≡ kept = ap (λ (z : Answer). z.verdict) e in let z : ◌≡◌ {A = ℕ} 0 1 = cc in absurd (omega arith)
keeping_one (Err r) (Ok (Some v)) p q e = let d : refused ≡ broken = ap (λ (z : Answer). z.verdict) e in let z : ◌≡◌ {A = ℕ} 0 1 = cc in absurd (omega arith)
keeping_one (Err r) (Err s) p q e = ap Err (refusal_one r s [] [] e).0

pub countering_one : (a b : Result Witness Countered) → CounteringPadded a → CounteringPadded b → countering_answer a ≡ countering_answer b → a ≡ b
unfolding refused_by shown broken_by
countering_one (Ok w) (Ok v) p q e = ap Ok (witness_one w v (p.accepts w refl) (q.accepts v refl) (ap (λ (z : Answer). z.witness) e))
countering_one (Ok w) (Err (Breaks j v)) p q e = let d : accepted ≡ refused = ap (λ (z : Answer). z.verdict) e in let z : ◌≡◌ {A = ℕ} 0 1 = cc in absurd (omega arith)
countering_one (Ok w) (Err (Refused m)) p q e = let d : accepted ≡ refused = ap (λ (z : Answer). z.verdict) e in let z : ◌≡◌ {A = ℕ} 0 1 = cc in absurd (omega arith)
countering_one (Err (Breaks i w)) (Ok v) p q e = let d : refused ≡ accepted = ap (λ (z : Answer). z.verdict) e in let z : ◌≡◌ {A = ℕ} 0 1 = cc in absurd (omega arith)
countering_one (Err (Breaks i w)) (Err (Breaks j v)) p q e = ap₂ (λ (n : ℕ) (u : Witness). Err (Breaks n u)) (ap (λ (z : Answer). z.place) e) (witness_one w v (p.breaks i w refl) (q.breaks j v refl) (ap (λ (z : Answer). z.witness) e))
countering_one (Err (Breaks i w)) (Err (Refused m)) p q e = let d : numbers_of w ≡ [] = ap (λ (z : Answer). z.witness) e in let z : ◌≡◌ {A = ℕ} 0 1 = cc in absurd (omega arith)
countering_one (Err (Refused n)) (Ok v) p q e = let d : refused ≡ accepted = ap (λ (z : Answer). z.verdict) e in let z : ◌≡◌ {A = ℕ} 0 1 = cc in absurd (omega arith)
countering_one (Err (Refused n)) (Err (Breaks j v)) p q e = let d : [] ≡ numbers_of v = ap (λ (z : Answer). z.witness) e in let z : ◌≡◌ {A = ℕ} 0 1 = cc in absurd (omega arith)
countering_one (Err (Refused n)) (Err (Refused m)) p q e = ap (λ (u : Refusal). Err (Refused u)) (refusal_one n m [] [] e).0
