-- Demand 3 (docs/PROMISES.md has the demands), said of the answer that deciding gives to inputs that are not refused: implied exactly when
-- every finite tree, of any size, labels and values, that keeps the profile keeps the key; else not implied. Each with its evidence, never both.
use Rattle.std.specs.Prelude.{ℕ, zero, suc, ◌*◌, ◌≤◌, ◌≡◌, refl, ◌⊎◌, Bool, true, false, List, [], ◌∷◌, T, length}
use Rattle.std.proofs.Common.{sym, ◌∙◌, subst, ⊎_elim, arith}
use Rattle.std.proofs.Math.Path.{ap}
use Rattle.std.proofs.Math.Option.{some, none-ne-some}
use Rattle.meaning.specs.Keys.{Key, Keeps, Implied}
use Rattle.meaning.specs.Rules.{Line, line_keys, EndsWith, Accepted}
use Rattle.meaning.specs.Paths.{class_of}
use Rattle.meaning.specs.Trees.{table_of}
use Rattle.meaning.specs.Refusals.{Refusal, first_refusal, profile_refusal, question_refusal, question_in, answer_refusal, proof_walked, nodes_in}
use Rattle.meaning.specs.Pattern.{written_nodes}
use Rattle.meaning.specs.Operations
use Rattle.meaning.specs.Operations.{
  Answer,
  Verdict,
  refused,
  rewritten,
  included,
  not_included,
  kept,
  broken,
  listed,
  key_read,
  line_written,
  reduced,
  drop_proved,
  trimmed,
  salvaged,
  reported,
  choose,
  Unless,
  refused_by,
  filled,
  plain,
  shown,
  broken_by,
  implied,
  not_implied,
  accepted,
  second_in,
  single_in,
  labels_in,
  keys_in,
  Decides,
  ProofWritten,
  TreeWritten,
  ChecksProof,
  ProofJudged,
  unfollowed,
  faulty,
  other_end,
  proved,
  tree_in,
  tree_refusals,
  KeepsIn,
  FirstIn,
  ChecksCounterexample,
  CounterexampleJudged,
  breaks_key,
  keeps_question,
  refutes,
}
use Rattle.theory_records.specs.Questions.{lines_at_stop}
use Rattle.theory_records.specs.Profiles.{accepted_labels, refusal_none}
use Rattle.theory_records.specs.TreeFiles.{tree_is_tree, tree_once}
use Rattle.theory_rules.specs.Accepted.{accepted_implied}
use Rattle.theory_counter.specs.Counterexample.{class_agrees}
use Rattle.theory_trees.specs.Witness.{shows_breaks}
use Rattle.theory_answers.specs.Refusing.{unless_says, sound_more, sound_end, answer_large}
use Rattle.theory_decide.specs.NotImplied.{tree_bytes, tree_most}

-- the verdicts that tell answers apart
unfoldable is_implied : Verdict → Bool
is_implied implied = true
is_implied refused = false
is_implied rewritten = false
is_implied included = false
is_implied not_included = false
is_implied kept = false
is_implied broken = false
is_implied accepted = false
is_implied not_implied = false
is_implied listed = false
is_implied key_read = false
is_implied line_written = false
is_implied reduced = false
is_implied drop_proved = false
is_implied trimmed = false
is_implied salvaged = false
is_implied reported = false

unfoldable is_refused : Verdict → Bool
is_refused refused = true
is_refused implied = false
is_refused rewritten = false
is_refused included = false
is_refused not_included = false
is_refused kept = false
is_refused broken = false
is_refused accepted = false
is_refused not_implied = false
is_refused listed = false
is_refused key_read = false
is_refused line_written = false
is_refused reduced = false
is_refused drop_proved = false
is_refused trimmed = false
is_refused salvaged = false
is_refused reported = false

not_other : implied ≡ not_implied → ⊥
unfolding is_implied
not_other e = subst (λ (v : Verdict). T (is_implied v)) e tt

not_refused : refused ≡ accepted → ⊥
unfolding is_refused
not_refused e = subst (λ (v : Verdict). T (is_refused v)) e tt

-- ---- what an answer says where nothing is refused

-- an answer that accepts refuses nothing
pub accepted_passes : (rs : List Refusal) (Q : Answer → Type 0) (answer : Answer) → answer.verdict ≡ accepted → Unless rs [] Q answer
    → (first_refusal rs).number ≡ 0
unfolding Unless choose refused_by
accepted_passes rs Q answer says u = go (first_refusal rs).number u
  where
    go : (n : ℕ) → choose n (Q answer) (answer ≡ refused_by (first_refusal rs) []) → n ≡ 0
    go zero q = refl
    go (suc n) e = absurd (not_refused (sym (ap (λ (a : Answer). a.verdict) e) ∙ says))

accepted_says : (rs : List Refusal) (Q : Answer → Type 0) (answer : Answer) → answer.verdict ≡ accepted → Unless rs [] Q answer → Q answer
accepted_says rs Q answer says u = unless_says rs [] Q answer (accepted_passes rs Q answer says u) u

-- ---- the verdict

module _ (profile question buffer : List ℕ) (room : 65536 ≤ length buffer) (sound_profile : (profile_refusal profile).number ≡ 0)
    (sound_question : (question_refusal (labels_in profile) question).number ≡ 0) (answer : Answer) (decides : Decides profile question buffer answer) where
  abbrev KeyFollows : Type 0
  KeyFollows = Implied (second_in profile) (labels_in profile) (keys_in profile) (question_in question)

  -- "Each with its evidence": one of the two
  pub evidence : ProofWritten profile question buffer answer ⊎ TreeWritten profile question buffer answer
  unfolding Decides
  evidence = unless_says _ buffer _ answer passes decides
    where
      passes : (first_refusal (answer_refusal buffer ∷ profile_refusal profile ∷ question_refusal (labels_in profile) question ∷ [])).number ≡ 0
      passes = sound_more _ _ (answer_large buffer room) (sound_more _ _ sound_profile (sound_more _ _ sound_question sound_end))

  proof_says : ProofWritten profile question buffer answer → answer.verdict ≡ implied
  unfolding filled
  proof_says p = ap (λ (a : Answer). a.verdict) p.answered

  tree_says : TreeWritten profile question buffer answer → answer.verdict ≡ not_implied
  unfolding filled
  tree_says t = ap (λ (a : Answer). a.verdict) t.answered

  -- "implied" exactly when every tree that keeps the profile keeps the key
  pub implied_true : answer.verdict ≡ implied → KeyFollows
  implied_true e = ⊎_elim (λ p. p.holds) (λ t. absurd (not_other (sym e ∙ tree_says t))) evidence

  pub implied_said : KeyFollows → answer.verdict ≡ implied
  implied_said h = ⊎_elim proof_says (λ t. absurd (t.fails h)) evidence

  -- "else not implied"
  pub not_implied_true : answer.verdict ≡ not_implied → KeyFollows → ⊥
  not_implied_true e h = not_other (sym (implied_said h) ∙ e)

  pub not_implied_said : (KeyFollows → ⊥) → answer.verdict ≡ not_implied
  not_implied_said f = ⊎_elim (λ p. absurd (f p.holds)) tree_says evidence

-- ---- the evidence

some_line : (lines : List Line) (question : Key) → EndsWith lines question → 1 ≤ length lines
unfolding EndsWith line_keys
some_line [] question e = absurd (none-ne-some _ e)
some_line (l ∷ lines) question e = omega arith

-- An accepted proof is 1 to 256 lines, to its end; each follows and the last line's key is the question
pub record ProofLines (profile question proof : List ℕ) : Type 0 where
  pub sound : (profile_refusal profile).number ≡ 0
  pub whole : (proof_walked (labels_in profile) proof).number ≡ 0
  pub some : 1 ≤ length (proof_walked (labels_in profile) proof).state
  pub most : length (proof_walked (labels_in profile) proof).state ≤ 256
  pub holds : Accepted (single_in profile) (labels_in profile) (keys_in profile) (question_in question) (proof_walked (labels_in profile) proof).state

pub accepted_lines : (profile question proof : List ℕ) → ChecksProof profile question proof (plain accepted) → ProofLines profile question proof
unfolding ChecksProof plain refused_by
accepted_lines profile question proof c = go (accepted_says _ _ (plain accepted) refl c)
  where
    go : ProofJudged (single_in profile) (labels_in profile) (keys_in profile) (question_in question) (proof_walked (labels_in profile) proof) (plain accepted)
        → ProofLines profile question proof
    go (unfollowed n h l f e) = absurd (not_refused (sym (ap (λ (a : Answer). a.verdict) e)))
    go (faulty l r e) = absurd (not_refused (sym (ap (λ (a : Answer). a.verdict) e)))
    go (other_end l z f e) = absurd (not_refused (sym (ap (λ (a : Answer). a.verdict) e)))
    go (proved l z e a) =
        record {
          sound = (refusal_none _ _ (accepted_passes _ _ (plain accepted) refl c)).0;
          whole = z;
          some = some_line _ _ e;
          most = (lines_at_stop (labels_in profile) proof).few;
          holds = record { each = l; last = e };
        }

-- What the check of a proof accepts is true of every tree, whoever wrote it
pub accepted_proof_implies : (profile question proof : List ℕ) → ChecksProof profile question proof (plain accepted)
    → Implied (second_in profile) (labels_in profile) (keys_in profile) (question_in question)
unfolding single_in
accepted_proof_implies profile question proof c =
    let p = accepted_lines profile question proof c in
    accepted_implied (second_in profile) (labels_in profile) (keys_in profile) (question_in question) _ (accepted_labels profile p.sound)
    (lines_at_stop (labels_in profile) proof).good p.holds

-- and what the check of a counterexample accepts is a tree that refutes the question
pub accepted_tree_refutes : (profile question tree numbers : List ℕ) → ChecksCounterexample profile question tree (shown accepted numbers)
    → Implied (second_in profile) (labels_in profile) (keys_in profile) (question_in question) → ⊥
unfolding ChecksCounterexample tree_refusals KeepsIn FirstIn tree_in Implied Keeps shown broken_by refused_by
accepted_tree_refutes profile question tree numbers c all = go (accepted_says _ _ (shown accepted numbers) refl c)
  where
    go : CounterexampleJudged profile question tree (shown accepted numbers) → ⊥
    go (breaks_key n key f k v w e) = not_refused (sym (ap (λ (a : Answer). a.verdict) e))
    go (keeps_question k q e) = not_refused (sym (ap (λ (a : Answer). a.verdict) e))
    go (refutes k v w e) =
        let one = refusal_none _ _ (accepted_passes _ _ (shown accepted numbers) refl c) in
        let two = refusal_none _ _ one.1 in
        let three = refusal_none _ _ two.1 in
        all (class_of (labels_in profile)) (class_agrees (labels_in profile)) (table_of (nodes_in (second_in profile) (labels_in profile) tree))
        (tree_is_tree (second_in profile) (labels_in profile) (accepted_labels profile one.0) tree three.0)
        (tree_once (second_in profile) (labels_in profile) tree three.0) k (shows_breaks w.shows)

-- "never both": no question has a proof that the check accepts and a tree that the check accepts
pub never_both : (profile question proof tree numbers : List ℕ) → ChecksProof profile question proof (plain accepted)
    → ChecksCounterexample profile question tree (shown accepted numbers) → ⊥
never_both profile question proof tree numbers p t =
    accepted_tree_refutes profile question tree numbers t (accepted_proof_implies profile question proof p)

-- "not implied with bytes used (11 times the nodes)"
pub tree_used : (profile question buffer : List ℕ) → (profile_refusal profile).number ≡ 0 → (question_refusal (labels_in profile) question).number ≡ 0
    → (answer : Answer) (t : TreeWritten profile question buffer answer)
    → answer.used ≡ 11 * length (written_nodes (class_of (labels_in profile)) (question_in question) t.u)
unfolding filled
tree_used profile question buffer p q answer t = ap (λ (a : Answer). a.used) t.answered ∙ tree_bytes profile question p q t.u t.is_u

-- request 8: at most 178 nodes, for every question that is accepted
pub tree_within : (profile question buffer : List ℕ) → (profile_refusal profile).number ≡ 0 → (question_refusal (labels_in profile) question).number ≡ 0
    → (answer : Answer) → TreeWritten profile question buffer answer → answer.used ≤ 11 * 178
tree_within profile question buffer p q answer t =
    let e = tree_used profile question buffer p q answer t in
    let m = tree_most profile question p q t.u t.is_u in
    omega arith
