-- Question and tree under a class table: the first refusal of the two, or that both are accepted.
use Rattle.std.specs.Prelude.{ℕ, ◌<◌, ◌≡◌, Bool, Result, Ok, Err, List, [], ◌∷◌}
use Rattle.std.proofs.Common.{sym, ◌∙◌}
use Rattle.std.proofs.Math.Path.{subst}
use Rattle.meaning.specs.Paths.{Label}
use Rattle.meaning.specs.Refusals.{first_refusal, question_refusal, tree_refusal}
use Rattle.meaning.specs.Operations.{Answer, Unless, refused_by, second_in, labels_in, tree_refusals}
use Rattle.read_record.specs.Classes.{Tabled}
use Rattle.read_judged.specs.Answers.{refusal_of}
use Rattle.read_judged.specs.declared.Fault.{Fault}
use Rattle.op_answers.specs.declared.Input.TheVariants as I
use Rattle.op_answers.specs.declared.Refusal.{Refusal}
use Rattle.op_answers.specs.Cases.{meant, outcome_of}
use Rattle.op_answers.specs.Outcomes.{outcome_refused, outcome_fine}
use Rattle.theory_answers.specs.Refusing.{unless_refused, sound_more, sound_end, first_passes, first_named, sound_number, question_settled, tree_settled}
use Rattle.op_accept.specs.Taken.{AcceptedIn, named_input}

pub record Stops (second : Bool) (labels : List Label) (question tree : List ℕ) (r : Refusal) : Type 0 where
  pub is : first_refusal (question_refusal labels question ∷ tree_refusal second labels tree ∷ []) ≡ meant r
  pub named : 0 < (meant r).input

pub record Passes (second : Bool) (labels : List Label) (question tree : List ℕ) : Type 0 where
  pub asked : (question_refusal labels question).number ≡ 0
  pub judged : (tree_refusal second labels tree).number ≡ 0

abbrev pub BothSay : Bool → (question tree classes : List ℕ) → Result Unit Refusal → Type 0
BothSay second question tree classes (Ok _) = (labels : List Label) → Tabled labels classes → Passes second labels question tree
BothSay second question tree classes (Err r) = (labels : List Label) → Tabled labels classes → Stops second labels question tree r

module _ (second : Bool) (question tree classes : List ℕ) (asked : Result Unit Fault)
    (says : (labels : List Label) → Tabled labels classes → refusal_of 2 asked ≡ question_refusal labels question) where
  pub question_stops : {r : Refusal} → Err r ≡ outcome_of I.Question asked → BothSay second question tree classes (Err r)
  question_stops {r} e labels tabled =
      let named = named_input r in
      record {
        is = first_named (meant r) (question_refusal labels question) _ (question_settled labels question)
            (outcome_refused I.Question asked e ∙ says labels tabled) named;
        named = named;
      }

  pub tree_says : {u : Unit} → Ok u ≡ outcome_of I.Question asked → (judged : Result Unit Fault)
      → ((labels : List Label) → Tabled labels classes → refusal_of 3 judged ≡ tree_refusal second labels tree) → {r : Result Unit Refusal}
      → r ≡ outcome_of I.TreeOrProof judged → BothSay second question tree classes r
  tree_says e judged after {r} f = subst (BothSay second question tree classes) (sym f) (go judged after)
    where
      passes : (labels : List Label) → Tabled labels classes → (question_refusal labels question).number ≡ 0
      passes labels tabled = sound_number (outcome_fine I.Question asked e ∙ says labels tabled)

      go : (judged : Result Unit Fault) → ((labels : List Label) → Tabled labels classes → refusal_of 3 judged ≡ tree_refusal second labels tree)
          → BothSay second question tree classes (outcome_of I.TreeOrProof judged)
      go (Ok u) after = λ labels tabled. record { asked = passes labels tabled; judged = sound_number (after labels tabled) }
      go (Err fault) after = λ labels tabled.
          let r : Refusal = record { kind = fault.kind; input = I.TreeOrProof; place = fault.place } in
          let named = named_input r in
          record {
            is = first_passes _ _ (passes labels tabled)
                ∙ first_named (meant r) (tree_refusal second labels tree) _ (tree_settled second labels tree) (after labels tabled) named;
            named = named;
          }

module _ {profile classes : List ℕ} {second : Bool} (question tree : List ℕ) (ready : AcceptedIn profile classes second) where
  pub both_refuse : {r : Refusal} → BothSay second question tree classes (Err r) → (Q : Answer → Type 0)
      → Unless (tree_refusals profile question tree) [] Q (refused_by (meant r) [])
  unfolding tree_refusals
  both_refuse {r} says Q =
      let s : Stops (second_in profile) (labels_in profile) question tree r =
      subst (λ (b : Bool). Stops b (labels_in profile) question tree r) ready.edition (says (labels_in profile) ready.ready.tabled) in
      unless_refused _ [] Q (meant r) (first_passes _ _ (sound_number ready.ready.accepted) ∙ s.is) s.named

  pub none_refuses : Passes (second_in profile) (labels_in profile) question tree → (first_refusal (tree_refusals profile question tree)).number ≡ 0
  unfolding tree_refusals
  none_refuses p =
      sound_more _ _ (sound_number ready.ready.accepted) (sound_more _ _ p.asked (sound_more _ _ p.judged sound_end))
