-- The written tree is an accepted tree file, and its bytes say exactly its nodes.
use Prim.Native.Nat.{ℕ, zero, suc, ◌≤◌, ◌<◌}
use Rattle.std.specs.Prelude.{◌≡◌, Bool, ◌&&◌, ◌||◌, List, [], ◌∷◌, get_or}
use Rattle.std.proofs.Math.Path.{refl, ap}
use Rattle.std.proofs.Common.{sym, subst, ◌∙◌, inr, le_of_lt}
use Rattle.std.proofs.Math.Logic.{⊎_elim}
use Rattle.std.proofs.Math.Bool.{true, false, not}
use native.Mathlib.Omega.{arith}
use Rattle.std.proofs.Math.Dec.{T, eqb}
use Rattle.std.proofs.Math.ListN.{length}
use Rattle.meaning.specs.Limits.{KeyLimits, in_profile, filler_attribute, root_label, no_number, wide_kind}
use Rattle.meaning.specs.Lists.{Each}
use Rattle.meaning.specs.Lists.Each.{end, also}
use Rattle.meaning.specs.Paths.{Class, Label, declared, is_label, element, is_element, class_of, singles}
use Rattle.meaning.specs.Refusals.{sound, good_root, tree_refusal, nodes_in}
use Rattle.meaning.specs.Trees.{no_node, table_of, Once}
use Rattle.meaning.specs.Keys.{Key}
use Rattle.meaning.specs.Pattern.{q_of, t_of, written_nodes, written_tree}
use Rattle.theory_lists.specs.Bools.{true_of, or_right}
use Rattle.theory_paths.specs.Good.{GoodLabels, GoodKey, class_root}
use Rattle.theory_records.specs.TreeFiles.{NodeBelow, NodesGood, NodesOnce}
use Rattle.meaning.specs.Records.{value_bytes}
use Rattle.theory_records.specs.Written.{NodeFits}
use Rattle.theory_records.specs.WrittenInputs.{tree_written_sound, nodes_in_written}
use Rattle.theory_counter.specs.PatternLaws.{pattern_known, trunk_inside}
use Rattle.theory_counter.specs.WrittenTable.{element_zero, value_within, root_parent, label_of}
use Rattle.theory_counter.specs.Counterexample.{counter_tree}
use Rattle.theory_counter.specs.Size.{written_most}

-- a law of each index is one of each member
each_index : {A : Type 0} {Q : A → Type 0} (d : A) (xs : List A) → ((i : ℕ) → i < length xs → Q (get_or xs i d)) → Each Q xs
each_index d [] h = end
each_index d (x ∷ xs) h = also (h 0 (omega arith)) (each_index d xs (λ i l. h (suc i) (omega arith)))

module _ (labels : List Label) (good : GoodLabels labels) (limits : KeyLimits) (asked : Key) (g : GoodKey labels limits asked) (u : ℕ) (h : u < t_of asked) where
  known_label : (n : ℕ) → 0 < n → n < length (written_nodes (class_of labels) asked u)
      → is_label labels (get_or (written_nodes (class_of labels) asked u) n no_node).label ≡ true
  unfolding is_label
  known_label n pos l =
      ⊎_elim (λ e. ap (is_label labels) e ∙ filler)
      (λ r. ap (is_label labels) r.3 ∙ true_of _ (pattern_known labels good limits asked g r.0 r.1 r.2).is_known)
      (label_of (class_of labels) asked u (trunk_inside asked u h) n pos l)
    where
      filler : is_label labels filler_attribute ≡ true
      filler = true_of (is_label labels 202) (or_right (eqb 202 1 || declared labels 202 || eqb 202 201) (eqb 202 202) tt)

  good_node : (n : ℕ) → 0 < n → n < length (written_nodes (class_of labels) asked u) → NodeBelow labels (written_nodes (class_of labels) asked u) n
  unfolding table_of is_element
  good_node n pos l =
      let p = (counter_tree labels good limits asked g u h).rest n pos l in
      record {
        above = p.above;
        inside = ap is_element p.inside;
        known = known_label n pos l;
        value = go (is_element (class_of labels (get_or (written_nodes (class_of labels) asked u) n no_node).label)) refl;
      }
    where
      go : (b : Bool) → is_element (class_of labels (get_or (written_nodes (class_of labels) asked u) n no_node).label) ≡ b
          → not b || eqb (get_or (written_nodes (class_of labels) asked u) n no_node).value 0 ≡ true
      go false e = refl
      go true e =
          ap (λ (k : ℕ). eqb k 0)
          (element_zero (class_of labels) asked u (trunk_inside asked u h) n l (subst (λ (b : Bool). T b) (sym e) tt))

  good_root_lem : 0 < length (written_nodes (class_of labels) asked u) → good_root (get_or (written_nodes (class_of labels) asked u) 0 no_node) ≡ true
  unfolding good_root table_of is_element
  good_root_lem l =
      let t = counter_tree labels good limits asked g u h in
      let a = root_parent (class_of labels) asked u (trunk_inside asked u h) in
      let c : class_of labels (get_or (written_nodes (class_of labels) asked u) 0 no_node).label ≡ element =
      ap (class_of labels) t.root ∙ class_root labels good in
      let v = element_zero (class_of labels) asked u (trunk_inside asked u h) 0 l (subst (λ (k : Class). T (is_element k)) (sym c) tt) in
      ap (λ (k : ℕ). eqb k no_number && eqb (get_or (written_nodes (class_of labels) asked u) 0 no_node).label root_label && eqb (get_or (written_nodes (class_of labels) asked u) 0 no_node).value 0) a
      ∙ ap (λ (k : ℕ). eqb k root_label && eqb (get_or (written_nodes (class_of labels) asked u) 0 no_node).value 0) t.root
      ∙ ap (λ (k : ℕ). eqb k 0) v

  pub counter_good : NodesGood labels (written_nodes (class_of labels) asked u)
  counter_good = record { root = good_root_lem; below = good_node }

module _ (second : Bool) (labels : List Label) (good : GoodLabels labels) (asked : Key) (g : GoodKey labels in_profile asked) (u : ℕ) (q : q_of asked ≤ u) (h : u < t_of asked)
    (once : Once (singles second (class_of labels)) (table_of (written_nodes (class_of labels) asked u))) where
  fits : (n : ℕ) → n < length (written_nodes (class_of labels) asked u) → NodeFits wide_kind (get_or (written_nodes (class_of labels) asked u) n no_node)
  fits n l =
      record {
        parent = above n l;
        value =
            let v = value_within (class_of labels) asked u (trunk_inside asked u h) n l in
            let m = written_most (class_of labels) labels asked g u q (le_of_lt h) in
            unfold value_bytes in omega arith;
      }
    where
      above : (n : ℕ) → n < length (written_nodes (class_of labels) asked u) → (get_or (written_nodes (class_of labels) asked u) n no_node).parent < 65536
      above zero l = let r = root_parent (class_of labels) asked u (trunk_inside asked u h) in omega arith
      above (suc n) l =
          let p = (good_node labels good in_profile asked g u h (suc n) (omega arith) l).above in
          let m = written_most (class_of labels) labels asked g u q (le_of_lt h) in
          omega arith

  some_nodes : 0 < length (written_nodes (class_of labels) asked u)
  unfolding table_of
  some_nodes = (counter_tree labels good in_profile asked g u h).some

  all_fit : Each (NodeFits wide_kind) (written_nodes (class_of labels) asked u)
  all_fit = each_index no_node (written_nodes (class_of labels) asked u) fits

  few_nodes : length (written_nodes (class_of labels) asked u) ≤ 4096
  few_nodes = let m = written_most (class_of labels) labels asked g u q (le_of_lt h) in omega arith

  -- a name that stood there before would be a second one under one parent
  file_once : NodesOnce (singles second (class_of labels)) (written_nodes (class_of labels) asked u)
  unfolding table_of
  file_once = record { one = λ i j l k t e f. go i j l k t e f }
    where
      go : (i j : ℕ) → i < j → j < length (written_nodes (class_of labels) asked u)
          → T (singles second (class_of labels) (get_or (written_nodes (class_of labels) asked u) j no_node).label)
          → (get_or (written_nodes (class_of labels) asked u) i no_node).parent ≡ (get_or (written_nodes (class_of labels) asked u) j no_node).parent
          → (get_or (written_nodes (class_of labels) asked u) i no_node).label ≡ (get_or (written_nodes (class_of labels) asked u) j no_node).label → ⊥
      go zero j l k t e f =
          let r = root_parent (class_of labels) asked u (trunk_inside asked u h) in
          let p = (good_node labels good in_profile asked g u h j (omega arith) k).above in
          let m = written_most (class_of labels) labels asked g u q (le_of_lt h) in
          omega arith
      go (suc i) j l k t e f =
          let s =
          once.one (get_or (written_nodes (class_of labels) asked u) j no_node).parent j (suc i)
          (record { not_root = omega arith; inside = k; below = refl }) (record { not_root = omega arith; inside = omega arith; below = e }) t (sym f) in
          omega arith

  -- the file is accepted
  pub counter_accepted : tree_refusal second labels (written_tree (class_of labels) asked u) ≡ sound
  unfolding written_tree
  counter_accepted =
      tree_written_sound labels second (inr refl) (written_nodes (class_of labels) asked u) (counter_good labels good in_profile asked g u h) file_once all_fit few_nodes some_nodes

  -- and says these nodes
  pub counter_read : nodes_in second labels (written_tree (class_of labels) asked u) ≡ written_nodes (class_of labels) asked u
  unfolding written_tree
  counter_read =
      nodes_in_written labels second (inr refl) (written_nodes (class_of labels) asked u) (counter_good labels good in_profile asked g u h) file_once all_fit few_nodes some_nodes
