-- Verdict "not implied": the tree that is fixed is a file that the counterexample check accepts, so no proof can be written; and it has
-- at most 178 nodes.
use Rattle.std.specs.Prelude.{ℕ, ◌*◌, ◌≤◌, ◌<◌, ◌≡◌, refl, length}
use Rattle.std.proofs.Common.{sym}
use Rattle.std.proofs.Math.Path.{ap, subst}
use mathlib.Core.List.{List, []}
use Rattle.meaning.specs.Limits.{in_profile, wide_kind}
use Rattle.meaning.specs.Lists.{Each}
use Rattle.meaning.specs.Paths.{class_of}
use Rattle.meaning.specs.Trees.{Table, table_of, Once}
use Rattle.meaning.specs.Keys.{Keeps, FirstWitness}
use Rattle.meaning.specs.Refusals.{Refusal, profile_refusal, question_refusal, question_in}
use Rattle.meaning.specs.Pattern.{t_of, IsU, written_nodes, written_tree}
use Rattle.meaning.specs.Operations.{
  second_in,
  single_in,
  labels_in,
  keys_in,
  tree_in,
  KeepsIn,
  FirstIn,
  tree_refusals,
  ChecksCounterexample,
  refutes,
  shown,
  filled,
  accepted,
  not_implied,
  TreeWritten,
}
use Rattle.theory_paths.specs.Good.{GoodLabels, GoodKey}
use Rattle.theory_records.specs.Profiles.{accepted_labels, accepted_keys}
use Rattle.theory_records.specs.Questions.{question_accepts}
use Rattle.meaning.specs.Records.{value_bytes}
use Rattle.theory_records.specs.TreeFiles.{stride}
use Rattle.theory_records.specs.WrittenInputs.{nodes_size}
use Rattle.theory_counter.specs.Counterexample.{counter_tree, counter_breaks, counter_keeps, edition_once, counter_not_implied}
use Rattle.theory_counter.specs.WrittenFile.{counter_accepted, counter_read}
use Rattle.theory_counter.specs.Size.{written_most}
use Rattle.theory_trees.specs.Existence.{first_exists}
use Rattle.theory_answers.specs.Refusing.{unless_sound, sound_more, sound_end}

module _ (profile question : List ℕ) (sound_profile : (profile_refusal profile).number ≡ 0)
    (sound_question : (question_refusal (labels_in profile) question).number ≡ 0) (u : ℕ) (is_u : IsU (single_in profile) (keys_in profile) (question_in question) u) where
  good_labels : GoodLabels (labels_in profile)
  good_labels = accepted_labels profile sound_profile

  good_asked : GoodKey (labels_in profile) in_profile (question_in question)
  good_asked = (question_accepts (labels_in profile) question sound_question).good

  -- request 8
  pub tree_most : length (written_nodes (class_of (labels_in profile)) (question_in question) u) ≤ 178
  tree_most = written_most (class_of (labels_in profile)) (labels_in profile) (question_in question) good_asked u is_u.from_q is_u.to_t

  -- "bytes used is 11 times the nodes"
  pub tree_bytes : length (written_tree (class_of (labels_in profile)) (question_in question) u)
      ≡ 11 * length (written_nodes (class_of (labels_in profile)) (question_in question) u)
  unfolding written_tree stride value_bytes
  tree_bytes = nodes_size (labels_in profile) wide_kind (written_nodes (class_of (labels_in profile)) (question_in question) u)

  module _ (low : u < t_of (question_in question)) where
    once : Once (single_in profile) (table_of (written_nodes (class_of (labels_in profile)) (question_in question) u))
    unfolding single_in
    once = edition_once (second_in profile) (labels_in profile) good_labels (question_in question) good_asked u low (keys_in profile) is_u

    -- the file says the written nodes
    same_tree : tree_in profile (written_tree (class_of (labels_in profile)) (question_in question) u)
        ≡ table_of (written_nodes (class_of (labels_in profile)) (question_in question) u)
    unfolding tree_in single_in
    same_tree = ap table_of (counter_read (second_in profile) (labels_in profile) good_labels (question_in question) good_asked u is_u.from_q low once)

    keeps_all : Each (KeepsIn profile (written_tree (class_of (labels_in profile)) (question_in question) u)) (keys_in profile)
    unfolding KeepsIn
    keeps_all =
        subst (λ t. Each (Keeps (class_of (labels_in profile)) t) (keys_in profile)) (sym same_tree)
        (counter_keeps (labels_in profile) good_labels in_profile (question_in question) good_asked u low (single_in profile) (keys_in profile) is_u (accepted_keys profile sound_profile))

    -- it breaks the question, so it has a first witness
    found : (numbers : List ℕ) × FirstWitness (class_of (labels_in profile)) (table_of (written_nodes (class_of (labels_in profile)) (question_in question) u)) (question_in question) numbers
    found =
        first_exists (counter_tree (labels_in profile) good_labels in_profile (question_in question) good_asked u low) (question_in question)
        (counter_breaks (labels_in profile) good_labels in_profile (question_in question) good_asked u low (single_in profile) (keys_in profile) is_u)

    first_shown : FirstIn profile (written_tree (class_of (labels_in profile)) (question_in question) u) (question_in question) found.0
    unfolding FirstIn
    first_shown =
        subst (λ (t : Table). FirstWitness (class_of (labels_in profile)) t (question_in question) found.0) (sym same_tree) found.1

    tree_checks : ChecksCounterexample profile question (written_tree (class_of (labels_in profile)) (question_in question) u) (shown accepted found.0)
    unfolding ChecksCounterexample tree_refusals single_in
    tree_checks =
        unless_sound _ [] _ (shown accepted found.0)
        (sound_more _ _ sound_profile
        (sound_more _ _ sound_question
        (sound_more _ _
        (ap (λ (r : Refusal). r.number) (counter_accepted (second_in profile) (labels_in profile) good_labels (question_in question) good_asked u is_u.from_q low once)) sound_end)))
        (refutes keeps_all found.0 first_shown refl)

    pub not_implied_written : (buffer : List ℕ)
        → TreeWritten profile question buffer (filled not_implied (written_tree (class_of (labels_in profile)) (question_in question) u) buffer)
    unfolding single_in
    not_implied_written buffer =
        record {
          fails =
              counter_not_implied (second_in profile) (labels_in profile) good_labels (question_in question) good_asked u low (keys_in profile) is_u
              (accepted_keys profile sound_profile);
          u = u;
          is_u = is_u;
          witness = found.0;
          checked = tree_checks;
          answered = refl;
        }
