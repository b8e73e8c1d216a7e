-- What the four words of each export say: an answer that meets the operation's definition.
use Rattle.std.specs.Prelude.{ℕ, ◌≡◌, Bool, Option, Result, List}
use Rattle.meaning.specs.Operations.{Rewrites, Includes, TestsTree, ChecksProof, ChecksCounterexample, Lists, Decides, trimmed}
use Rattle.meaning.specs.Trimming.{Trims}
use Rattle.op_answers.specs.Cases.{rewriting_answer, inclusion_answer, keeping_answer, checking_answer, countering_answer, listing_answer, deciding_answer, filling_answer}
use Rattle.op_answers.specs.declared.Refusal.{Refusal}
use Rattle.op_answers.specs.declared.Witness.{Witness}
use Rattle.op_answers.specs.declared.Countered.{Countered}
use Rattle.op_answers.specs.declared.Decision.{Decision}
use Rattle.op_lean.specs.declared.Lean.{Lean}
use Rattle.op_lean.specs.Returns.{Reducing}
use Rattle.test_exports.specs.Words.{filling_words, lean_words, inclusion_words, keeping_words, checking_words, countering_words, deciding_words}

pub record ToldRewriting (profile : List ℕ) (before : List ℕ) (after : List ℕ) (told : List ℕ) : Type 0 where
  pub answer : Result ℕ Refusal
  pub words : told ≡ filling_words answer
  pub met : Rewrites profile before (rewriting_answer answer after)

pub record ToldInclusion (profile : List ℕ) (path : List ℕ) (other : List ℕ) (told : List ℕ) : Type 0 where
  pub answer : Result Bool Refusal
  pub words : told ≡ inclusion_words answer
  pub met : Includes profile path other (inclusion_answer answer)

pub record ToldKeeping (profile : List ℕ) (question : List ℕ) (tree : List ℕ) (told : List ℕ) : Type 0 where
  pub answer : Result (Option Witness) Refusal
  pub words : told ≡ keeping_words answer
  pub met : TestsTree profile question tree (keeping_answer answer)

pub record ToldProof (profile : List ℕ) (question : List ℕ) (proof : List ℕ) (told : List ℕ) : Type 0 where
  pub answer : Result Unit Refusal
  pub words : told ≡ checking_words answer
  pub met : ChecksProof profile question proof (checking_answer answer)

pub record ToldCounterexample (profile : List ℕ) (question : List ℕ) (tree : List ℕ) (told : List ℕ) : Type 0 where
  pub answer : Result Witness Countered
  pub words : told ≡ countering_words answer
  pub met : ChecksCounterexample profile question tree (countering_answer answer)

pub record ToldListing (profile : List ℕ) (tree : List ℕ) (block : ℕ) (before : List ℕ) (after : List ℕ) (told : List ℕ) : Type 0 where
  pub answer : Result ℕ Refusal
  pub words : told ≡ filling_words answer
  pub met : Lists profile tree block before (listing_answer answer after)

pub record ToldDeciding (profile : List ℕ) (question : List ℕ) (before : List ℕ) (after : List ℕ) (told : List ℕ) : Type 0 where
  pub answer : Result Decision Refusal
  pub words : told ≡ deciding_words answer
  pub met : Decides profile question before (deciding_answer answer after)

-- the numbers of the dropped keys are not told
pub record ToldReducing (profile : List ℕ) (before : List ℕ) (after : List ℕ) (told : List ℕ) : Type 0 where
  pub answer : Result Lean Refusal
  pub words : told ≡ lean_words answer
  pub met : Reducing profile before after answer

pub record ToldTrimming (profile : List ℕ) (question : List ℕ) (proof : List ℕ) (before : List ℕ) (after : List ℕ) (told : List ℕ) : Type 0 where
  pub answer : Result ℕ Refusal
  pub words : told ≡ filling_words answer
  pub met : Trims profile question proof before (filling_answer trimmed answer after)
