-- One law for each `return` of a call.
use Rattle.std.specs.Prelude.{ℕ, ◌<◌, ◌≤◌, ◌≡◌, Result, List, [], ◌++◌, length, drop}
use Rattle.std.proofs.Math.Path.{refl}
use Rattle.std.proofs.Common.{sym, ◌∙◌, ap, ap₂}
use Rattle.meaning.specs.Operations.{Answer, Decides, ChecksProof, ChecksCounterexample}
use Rattle.meaning.specs.Calls.{Called, Calls, DecideCall, ProofCall, CounterexampleCall, details, detail_bytes}
use Rattle.meaning.specs.Calls.Calls.{short_detail, told}
use Rattle.op_answers.specs.declared.Refusal.{Refusal}
use Rattle.op_answers.specs.declared.Witness.{Witness}
use Rattle.op_answers.specs.declared.Countered.{Countered}
use Rattle.op_answers.specs.declared.Decision.{Decision}
use Rattle.op_answers.specs.Cases.{deciding_answer, checking_answer, countering_answer, CounteringPadded}
use Rattle.tap.specs.declared.details.Fields.{Fields}
use Rattle.tap.specs.Fields.{deciding_fields, checking_fields, countering_fields, field_bytes, Put, Says, deciding_says, checking_says, countering_says}

-- what a call leaves
called : ℕ → List ℕ → List ℕ → Called
called returned detail buffer = record { returned = returned; detail = detail; buffer = buffer }

-- the fields put are those of an answer that meets the operation's definition
called_as : (Asks : Answer → Type 0) {detail before end after : List ℕ} {returned : ℕ} {f g : Fields} (answer : Answer) → detail_bytes ≤ length detail
    → Asks answer → f ≡ g → Says g answer after → Put f detail end returned
    → Calls Asks detail before (record { returned = returned; detail = end; buffer = after })
unfolding called
called_as Asks {detail} {after = after} answer room met e s p =
    told room answer met
    (ap₂ (λ (r : ℕ) (l : List ℕ). called r l after) (p.number ∙ ap (λ (x : Fields). x.number) e ∙ s.number)
    (p.bytes ∙ ap (λ (x : Fields). field_bytes x ++ drop detail_bytes detail) e ∙ ap (λ (l : List ℕ). l ++ drop detail_bytes detail) s.bytes)
    ∙ ap (called answer.number (details answer ++ drop detail_bytes detail)) (sym s.ends))

module _ (profile question detail : List ℕ) where
  -- "with 19 nothing is written"
  pub decide_short : (buffer : List ℕ) → length detail < detail_bytes
      → DecideCall profile question buffer detail (record { returned = 19; detail = detail; buffer = buffer })
  unfolding DecideCall
  decide_short buffer h = short_detail h refl

  pub proof_short : (proof : List ℕ) → length detail < detail_bytes
      → ProofCall profile question proof detail (record { returned = 19; detail = detail; buffer = [] })
  unfolding ProofCall
  proof_short proof h = short_detail h refl

  pub counterexample_short : (tree : List ℕ) → length detail < detail_bytes
      → CounterexampleCall profile question tree detail (record { returned = 19; detail = detail; buffer = [] })
  unfolding CounterexampleCall
  counterexample_short tree h = short_detail h refl

  module _ {end : List ℕ} {returned : ℕ} {f : Fields} (room : detail_bytes ≤ length detail) where
    pub decide_told : (before after : List ℕ) (a : Result Decision Refusal) → Decides profile question before (deciding_answer a after) → f ≡ deciding_fields a
        → Put f detail end returned → DecideCall profile question before detail (record { returned = returned; detail = end; buffer = after })
    unfolding DecideCall
    decide_told before after a met e p = called_as (Decides profile question before) (deciding_answer a after) room met e (deciding_says a after) p

    pub proof_told : (proof : List ℕ) (a : Result Unit Refusal) → ChecksProof profile question proof (checking_answer a) → f ≡ checking_fields a
        → Put f detail end returned → ProofCall profile question proof detail (record { returned = returned; detail = end; buffer = [] })
    unfolding ProofCall
    proof_told proof a met e p = called_as (ChecksProof profile question proof) (checking_answer a) room met e (checking_says a) p

    pub counterexample_told : (tree : List ℕ) (a : Result Witness Countered) → ChecksCounterexample profile question tree (countering_answer a) × CounteringPadded a
        → f ≡ countering_fields a → Put f detail end returned
        → CounterexampleCall profile question tree detail (record { returned = returned; detail = end; buffer = [] })
    unfolding CounterexampleCall
    counterexample_told tree a met e p = called_as (ChecksCounterexample profile question tree) (countering_answer a) room met.0 e (countering_says a) p
