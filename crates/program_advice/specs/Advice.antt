-- What is said of a key that is printed: every finite tree that keeps the profile keeps it.
use Prim.Native.Nat.{ℕ, zero, suc}
use Rattle.std.proofs.Math.Path.{◌≡◌, ap}
use Rattle.std.specs.Prelude.{◌⊎◌, Bool, true, false, Result, Ok, Err, List, [], ◌∷◌}
use Rattle.std.proofs.Math.Logic.{⊎_elim}
use Rattle.std.proofs.lemmas.Bool.{false≢true}
use Rattle.std.proofs.Common.{arith}
use Rattle.meaning.specs.Keys as Keys
use Rattle.meaning.specs.Refusals.{Refusal, question_in, first_refusal, profile_refusal, question_refusal, answer_refusal}
use Rattle.meaning.specs.Operations.{Answer, Decides, ProofWritten, TreeWritten, Unless, choose, refused_by, filled, implied, not_implied, refused, second_in, labels_in, keys_in}
use Rattle.op_answers.specs.declared.Refusal as Code
use Rattle.op_answers.specs.declared.Decision.{Decision}
use Rattle.op_answers.specs.declared.Decision.TheVariants.{Implied, NotImplied}
use Rattle.op_answers.specs.Cases.{used_of, deciding_answer}

unfoldable pub Follows : (profile question : List ℕ) → Type 0
Follows profile question = Keys.Implied (second_in profile) (labels_in profile) (keys_in profile) (question_in question)

abbrev pub implied_by : Result Decision Code.Refusal → Bool
implied_by (Ok (Implied used)) = true
implied_by (Ok (NotImplied used)) = false
implied_by (Err r) = false

module _ (profile question before : List ℕ) (used : ℕ) (after : List ℕ) where
  abbrev told : Answer
  told = used_of implied used after

  abbrev first : Refusal
  first = first_refusal (answer_refusal before ∷ profile_refusal profile ∷ question_refusal (labels_in profile) question ∷ [])

  not_tree : TreeWritten profile question before told → ⊥
  unfolding filled
  not_tree t = let v : implied ≡ not_implied = ap (λ (a : Answer). a.verdict) t.answered in let z : ◌≡◌ {A = ℕ} 0 1 = cc in absurd (omega arith)

  not_refused : (r : Refusal) → told ≡ refused_by r before → ⊥
  unfolding refused_by
  not_refused r e = let v : implied ≡ refused = ap (λ (a : Answer). a.verdict) e in let z : ◌≡◌ {A = ℕ} 0 1 = cc in absurd (omega arith)

  told_follows : Decides profile question before told → Follows profile question
  unfolding Decides Unless choose Follows
  told_follows d = go first.number d
    where
      go : (n : ℕ) → choose n (ProofWritten profile question before told ⊎ TreeWritten profile question before told) (told ≡ refused_by first before)
          → Keys.Implied (second_in profile) (labels_in profile) (keys_in profile) (question_in question)
      go zero q = ⊎_elim (λ p. p.holds) (λ t. absurd (not_tree t)) q
      go (suc n) e = absurd (not_refused first e)

-- the decider's answer `implied` says so
pub decided_follows : (profile question before after : List ℕ) (d : Result Decision Code.Refusal) → Decides profile question before (deciding_answer d after) → implied_by d ≡ true
    → Follows profile question
decided_follows profile question before after (Ok (Implied used)) q e = told_follows profile question before used after q
decided_follows profile question before after (Ok (NotImplied used)) q e = absurd (false≢true e)
decided_follows profile question before after (Err r) q e = absurd (false≢true e)
