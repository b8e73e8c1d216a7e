-- From the class table to the profile's labels: the table of accepted labels says the class of every label.
use Rattle.std.specs.Prelude.{ℕ, ◌≤◌, ◌<◌, ◌≡◌, true, List, [], length, get_or}
use Rattle.std.proofs.Common.{sym, subst, arith}
use Rattle.std.proofs.Math.Path.{fun_ext}
use Rattle.std.proofs.Math.Decide.{dec_lt}
use Rattle.std.proofs.Math.ListN.{get_or-eq_default}
use borrow.Author.Tests.{ne_eqb}
use Rattle.meaning.specs.Limits.{in_profile}
use Rattle.meaning.specs.Paths.{Class, Label, class_of}
use Rattle.meaning.specs.Keys.{Key}
use Rattle.meaning.specs.Records.{read_key, key_in, is_some}
use Rattle.meaning.specs.Pattern.{q_of, t_of}
use Rattle.theory_paths.specs.Good.{GoodLabels, undeclared_class, undeclared_high, GoodKey, context_length, target_length, key_path_length, paths_within}
use Rattle.theory_lists.specs.Lists.{get_or_mem}
use Rattle.read_record.specs.Classes.{class_by, Tabled, class_tabled}
use Rattle.write_pattern.specs.Sketch.{Sketchable}
use Rattle.write_tree.specs.Written.{TreeAtFront}

module _ {labels : List Label} {classes : List ℕ} (tabled : Tabled labels classes) (good : GoodLabels labels) (long : length classes ≡ 256) where
  -- a number that no byte is, is no declared label: an element for both
  class_high : (n : ℕ) → 256 ≤ n → class_by classes n ≡ class_of labels n
  unfolding class_by class_of
  class_high n h =
      rw (ne_eqb n 1 (λ e. omega arith), ne_eqb n 202 (λ e. omega arith), get_or-eq_default classes 0 {n = n} (omega arith))
      (sym (undeclared_class labels n (undeclared_high labels good n (omega arith))))

  class_each : (n : ℕ) → class_by classes n ≡ class_of labels n
  class_each n = go (dec_lt n 256)
    where
      go : Dec (n < 256) → class_by classes n ≡ class_of labels n
      go (yes h) = class_tabled tabled n h
      go (no h) = class_high n (omega arith)

  pub class_everywhere : class_by classes ≡ class_of labels
  class_everywhere = fun_ext class_each

  -- what is written by the table is the tree of the labels
  pub tree_of_labels : {asked : Key} {u : ℕ} {before after : List ℕ} {used : ℕ} → TreeAtFront (class_by classes) asked u before after used
      → TreeAtFront (class_of labels) asked u before after used
  tree_of_labels {asked} {u} {before} {after} {used} w = subst (λ (κ : ℕ → Class). TreeAtFront κ asked u before after used) class_everywhere w

-- an accepted question is within the sizes
pub asked_good : (labels : List Label) (body : List ℕ) (u : ℕ) → is_some (read_key body) ≡ true → GoodKey labels in_profile (key_in body)
    → q_of (key_in body) ≤ u → u < t_of (key_in body) → Sketchable body u
asked_good labels body u e g q t =
    record {
      sizes =
          record {
            shaped = e;
            context = context_length labels in_profile (key_in body) g;
            target = target_length labels in_profile (key_in body) g;
            few = paths_within labels in_profile (key_in body) g;
            short = λ i h. key_path_length labels in_profile (key_in body) g (get_or (key_in body).paths i []) (get_or_mem (key_in body).paths i [] h);
          };
      from_q = q;
      above_t = t;
    }
