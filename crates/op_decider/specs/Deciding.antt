-- The functions that search and write are given what they ask; one law for each return.
use Prim.Native.Nat.{ℕ, ◌+◌, ◌≤◌, ◌<◌}
use Rattle.std.specs.Prelude.{◌≡◌, Bool, true, false, not, length}
use Rattle.std.proofs.Math.Path.{sym, ap, ap₂, subst}
use Rattle.std.proofs.Common.{◌∙◌, ⊎_elim}
use mathlib.Core.List.{List, ◌++◌, flatten, map}
use native.Mathlib.Omega.{arith}
use borrow.Author.Tests.{not-true, not-false}
use Rattle.std.proofs.Math.ListN.{drop}
use Rattle.meaning.specs.Limits.{in_profile}
use Rattle.meaning.specs.Paths.{class_of, singles}
use Rattle.meaning.specs.Records.{record_body, key_in, read_key, is_some, line_bytes}
use Rattle.meaning.specs.Refusals.{sound, first_entry, question_refusal, profile_refusal, question_in}
use Rattle.meaning.specs.Pattern.{q_of, t_of, IsU, written_tree}
use Rattle.meaning.specs.Operations.{Decides, filled, implied, not_implied, single_in, labels_in, keys_in, records_from}
use Rattle.theory_records.specs.Encodings.{ends_key}
use Rattle.theory_records.specs.Questions.{question_accepts}
use Rattle.theory_records.specs.Profiles.{accepted_labels, accepted_keys}
use Rattle.theory_paths.specs.Good.{context_length, target_length}
use Rattle.theory_answers.specs.Refusing.{Settled, profile_settled, question_settled}
use Rattle.theory_derive.specs.Accept.{turns}
use Rattle.theory_pattern.specs.Spots.{Ends, at_t}
use Rattle.theory_derive.specs.Written.{proof_lines}
use Rattle.theory_decide.specs.Implied.{proof_bytes_of}
use Rattle.theory_decide.specs.Returns.{decide_implied, decide_not}
use Rattle.step_search.specs.Accepted.{searchable, found_chain, found_u}
use Rattle.read_record.specs.Classes.{class_by}
use Rattle.op_answers.specs.Cases.{used_of}
use Rattle.read_inputs.specs.Accepted.{Given}
use Rattle.write_pattern.specs.Sketch.{Sketchable}
use Rattle.step_search.specs.declared.search.FinalU.{FinalU}
use Rattle.step_search.specs.Finding.{Searchable, Finds, steps_below}
use Rattle.write_step.specs.Lines.{WroteLines}
use Rattle.write_tree.specs.Written.{TreeAtFront}
use Rattle.write_tree.specs.Labels.{class_everywhere, asked_good, tree_of_labels}
use Rattle.write_proof.specs.Asks.{ProofReady}
use Rattle.write_proof.specs.Cited.{proof_by}
use Rattle.write_proof.specs.Chained.{Remembers, proof_ready, proof_bytes_are}
use Rattle.op_decider.specs.Remembered.{remembered}
use Rattle.op_decider.specs.Upward.{steps_up, up_ends, up_not}

-- the counts of the code are the profile's, its body is the question's
module _ {profile : List ℕ} {second : Bool} {labels keys : ℕ} {question classes body : List ℕ} (given : Given profile second labels keys question classes)
    (is_body : body ≡ record_body question) where
  profile_sound : sound ≡ profile_refusal profile
  unfolding Settled
  profile_sound = sym (profile_settled profile given.accepted_profile)

  question_sound : sound ≡ question_refusal (labels_in profile) question
  unfolding Settled
  question_sound = sym (question_settled (labels_in profile) question given.accepted_question)

  pub body_reads : is_some (read_key body) ≡ true
  body_reads =
      let q = question_accepts (labels_in profile) question given.accepted_question in
      ap (λ (b : List ℕ). is_some (read_key b)) is_body ∙ ends_key question q.is_whole q.kind

  pub chain_few : t_of (key_in body) ≤ 16
  unfolding t_of
  chain_few =
      let q = question_accepts (labels_in profile) question given.accepted_question in
      let c = context_length (labels_in profile) in_profile (question_in question) q.good in
      let x = target_length (labels_in profile) in_profile (question_in question) q.good in
      let e : t_of (key_in body) ≡ t_of (question_in question) = unfold question_in in ap (λ (b : List ℕ). t_of (key_in b)) is_body in
      omega arith

  pub may_search : Searchable (records_from labels profile) keys body
  may_search =
      subst (Searchable (records_from labels profile) keys) (sym is_body)
      (subst (λ (n : ℕ). Searchable (records_from n profile) keys (record_body question)) (sym given.before_keys)
      (subst (λ (n : ℕ). Searchable (records_from (first_entry profile + length (labels_in profile)) profile) n (record_body question)) (sym given.key_count)
      (searchable profile question given.accepted_profile given.accepted_question)))

  module _ {found : FinalU} (finds : Finds (records_from labels profile) keys body found) {t : ℕ} (is_t : t ≡ t_of (key_in body)) where
    finds_here : Finds (records_from (first_entry profile + length (labels_in profile)) profile) (length (keys_in profile)) (record_body question) found
    finds_here =
        subst (λ (n : ℕ). Finds (records_from (first_entry profile + length (labels_in profile)) profile) n (record_body question) found) given.key_count
        (subst (λ (n : ℕ). Finds (records_from n profile) keys (record_body question) found) given.before_keys
        (subst (λ (b : List ℕ). Finds (records_from labels profile) keys b found) is_body finds))

    t_is : t ≡ t_of (question_in question)
    unfolding question_in
    t_is = is_t ∙ ap (λ (b : List ℕ). t_of (key_in b)) is_body

    remembers : Remembers (labels_in profile) profile labels (keys_in profile) body found.u found.steps found.count
    remembers =
        subst (λ (b : List ℕ). Remembers (labels_in profile) profile labels (keys_in profile) b found.u found.steps found.count) (sym is_body)
        (subst
        (λ (n : ℕ). Remembers (labels_in profile) profile n (keys_in profile) (record_body question) found.u found.steps found.count)
        (sym given.before_keys)
        (remembered profile question given.accepted_profile given.accepted_question found
        (found_chain profile question given.accepted_profile given.accepted_question finds_here) finds.few))

    -- the labels that are single, by the table
    same_single : length classes ≡ 256 → singles second (class_by classes) ≡ single_in profile
    unfolding single_in
    same_single long =
        ap₂ singles given.edition (class_everywhere given.tabled (accepted_labels profile given.accepted_profile) long)

    u_from : q_of (key_in body) ≤ found.u
    unfolding question_in
    u_from =
        let q = question_accepts (labels_in profile) question given.accepted_question in
        let r =
        (turns (labels_in profile) (keys_in profile) (question_in question) (accepted_keys profile given.accepted_profile) q.good
        (found_chain profile question given.accepted_profile given.accepted_question finds_here)).0 in
        let e : q_of (key_in body) ≡ q_of (key_in (record_body question)) = ap (λ (b : List ℕ). q_of (key_in b)) is_body in
        omega arith

    -- ---- not implied: u is above t, and t does not step to it
    module _ (low : found.u < t) (long : length classes ≡ 256) {up : Bool} (told : up ≡ steps_up second (class_by classes) (key_in body) found.u)
        (none : not up ≡ true) where
      not_ends : Ends (single_in profile) (question_in question) found.u → ⊥
      unfolding question_in
      not_ends ends =
          let same = is_t in
          up_not second (class_by classes) (key_in body) found.u (sym told ∙ not-true _ none) u_from (omega arith)
          (subst (λ (single : ℕ → Bool). Ends single (key_in body) found.u) (sym (same_single long))
          (subst (λ (b : List ℕ). Ends (single_in profile) (key_in b) found.u) (sym is_body) ends))

      is_u : IsU (single_in profile) (keys_in profile) (question_in question) found.u
      is_u =
          let same = t_is in
          ⊎_elim (λ (e : found.u ≡ t_of (question_in question)). absurd (omega arith)) (λ i. i not_ends)
          (found_u profile question given.accepted_profile given.accepted_question finds_here)

      pub may_draw : Sketchable body found.u
      unfolding question_in
      may_draw =
          let q = question_accepts (labels_in profile) question given.accepted_question in
          let from = is_u.from_q in
          subst (λ (b : List ℕ). Sketchable b found.u) (sym is_body)
          (asked_good (labels_in profile) (record_body question) found.u (ends_key question q.is_whole q.kind) q.good from
          (let same = t_is in omega arith))

      pub decides_tree : {before after : List ℕ} {used : ℕ} → 65536 ≤ length before
          → TreeAtFront (class_by classes) (key_in body) found.u before after used
          → Decides profile question before (used_of not_implied used after)
      unfolding filled question_in
      decides_tree {before} {after} {used} room wrote =
          let w =
          tree_of_labels given.tabled (accepted_labels profile given.accepted_profile) long
          (subst (λ (b : List ℕ). TreeAtFront (class_by classes) (key_in b) found.u before after used) is_body wrote) in
          subst (Decides profile question before)
          (ap₂ (λ (n : ℕ) (b : List ℕ). used_of not_implied n b) (sym w.used)
          (ap (λ (n : ℕ). written_tree (class_of (labels_in profile)) (question_in question) found.u ++ drop n before) (sym w.used) ∙ sym w.is))
          (decide_not profile question before room profile_sound question_sound found.u is_u (let same = t_is in omega arith))

    -- ---- implied: u is t, or t steps to it
    pub may_write : {before : List ℕ} → 65536 ≤ length before → ProofReady before profile labels body found.u found.steps found.count
    may_write room = proof_ready remembers room

    pub ends_at : t ≤ found.u → Ends (single_in profile) (question_in question) found.u
    ends_at bottom =
        let same = t_is in
        let m =
        (turns (labels_in profile) (keys_in profile) (question_in question) (accepted_keys profile given.accepted_profile)
        (question_accepts (labels_in profile) question given.accepted_question).good
        (found_chain profile question given.accepted_profile given.accepted_question finds_here)).1 in
        at_t (omega arith)

    pub ends_above : length classes ≡ 256 → {up : Bool} → up ≡ steps_up second (class_by classes) (key_in body) found.u → not up ≡ false
        → Ends (single_in profile) (question_in question) found.u
    unfolding question_in
    ends_above long told some =
        subst (λ (b : List ℕ). Ends (single_in profile) (key_in b) found.u) is_body
        (subst (λ (single : ℕ → Bool). Ends single (key_in body) found.u) (same_single long)
        (up_ends second (class_by classes) (key_in body) found.u (sym told ∙ not-false _ some)))

    pub decides_proof : Ends (single_in profile) (question_in question) found.u → {before after : List ℕ} {used : ℕ} → 65536 ≤ length before
        → WroteLines before after 0 (proof_by profile labels (key_in body) found.u (steps_below found.steps found.count)) used
        → Decides profile question before (used_of implied used after)
    unfolding filled question_in proof_bytes_of
    decides_proof reached {before} {after} {used} room wrote =
        let w = proof_bytes_are remembers wrote in
        let same : flatten (map line_bytes (proof_lines (keys_in profile) (key_in body) found.u (steps_below found.steps found.count)))
        ≡ flatten (map line_bytes (proof_lines (keys_in profile) (question_in question) found.u (steps_below found.steps found.count))) =
        ap (λ (b : List ℕ). flatten (map line_bytes (proof_lines (keys_in profile) (key_in b) found.u (steps_below found.steps found.count)))) is_body in
        subst (Decides profile question before)
        (ap (λ (l : List ℕ). filled implied l before) (sym same)
        ∙ ap₂ (λ (n : ℕ) (b : List ℕ). used_of implied n b) (sym w.1)
        (ap
        (λ (n : ℕ). flatten (map line_bytes (proof_lines (keys_in profile) (key_in body) found.u (steps_below found.steps found.count))) ++ drop n before)
        (sym w.1)
        ∙ sym w.0))
        (decide_implied profile question before room profile_sound question_sound
        (found_chain profile question given.accepted_profile given.accepted_question finds_here) reached)
