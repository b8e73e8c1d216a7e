-- The table of classes says the class of every label, and the table read off an accepted tree's bytes is the table of its nodes.
use Rattle.std.specs.Prelude.{ℕ, zero, suc, ◌+◌, ◌-◌, ◌*◌, ◌≤◌, ◌<◌, ◌≡◌, Bool, List, [], take}
use Rattle.std.proofs.Math.Path.{refl, ap, subst, fun_ext}
use Rattle.std.proofs.Common.{sym, ◌∙◌, arith, mul-le-mul_left, ne_eqb}
use Rattle.std.proofs.Math.Nat.{div-eq_of_eq-mul_right}
use Rattle.std.proofs.Math.Decide.{dec_lt}
use Rattle.std.proofs.Math.ListN.{length, get_or, get_or-eq_default, drop_of_length-le}
use Rattle.meaning.specs.Paths.{element, Label, class_of}
use Rattle.meaning.specs.Trees.{Table, Node, no_node, table_of, IsTree}
use Rattle.meaning.specs.Records.{word, number}
use Rattle.meaning.specs.Refusals.{node_kind_in, tree_refusal, nodes_in}
use Rattle.theory_paths.specs.Good.{GoodLabels, undeclared_class, undeclared_high}
use Rattle.theory_records.specs.TreeFiles.{stride, node_at, TreeAccepted, tree_accepts, tree_is_tree}
use Rattle.read_record.specs.Classes.{Tabled, class_by, class_tabled}
use Rattle.tree_table.specs.FileTable.{file_stride, file_table, stride_least, TreeBytes}

-- a label beyond the table is an element by both
beyond_table : (classes : List ℕ) (n : ℕ) → length classes ≤ 256 → 256 ≤ n → class_by classes n ≡ element
unfolding class_by
beyond_table classes n small h = rw (ne_eqb n 1 (λ e. omega arith), ne_eqb n 202 (λ e. omega arith), get_or-eq_default classes 0 {n = n} (omega arith)) refl

beyond_labels : (labels : List Label) → GoodLabels labels → (n : ℕ) → 256 ≤ n → class_of labels n ≡ element
unfolding class_of
beyond_labels labels good n h =
    rw (ne_eqb n 1 (λ e. omega arith), ne_eqb n 202 (λ e. omega arith)) (undeclared_class labels n (undeclared_high labels good n (omega arith)))

pub class_same : (labels : List Label) → GoodLabels labels → (classes : List ℕ) → length classes ≤ 256 → Tabled labels classes
    → class_by classes ≡ class_of labels
class_same labels good classes small tabled = fun_ext (λ n. go n (dec_lt n 256))
  where
    go : (n : ℕ) → Dec (n < 256) → class_by classes n ≡ class_of labels n
    go n (yes h) = class_tabled tabled n h
    go n (no h) = beyond_table classes n small (omega arith) ∙ sym (beyond_labels labels good n (omega arith))

module _ (second : Bool) (labels : List Label) (bytes : List ℕ) (accepted : (tree_refusal second labels bytes).number ≡ 0) where
  facts : TreeAccepted second labels bytes
  facts = tree_accepts second labels bytes accepted

  w : ℕ
  w = file_stride bytes

  same_stride : w ≡ stride (node_kind_in bytes)
  unfolding w file_stride stride
  same_stride = refl

  count : length bytes ≡ w * length (nodes_in second labels bytes)
  count = facts.size ∙ ap (λ (k : ℕ). k * length (nodes_in second labels bytes)) (sym same_stride)

  -- behind the last byte there is none
  none : (i : ℕ) → length bytes ≤ w * i → node_at w bytes i ≡ no_node
  unfolding node_at word number
  none i h =
      rw (past (w * i + 4) (omega arith), past (w * i + 4 + 1) (omega arith), past (w * i + 6) (omega arith), drop_of_length-le bytes {i = w * i + 7} (omega arith))
      (record_same (w - 7))
    where
      past : (j : ℕ) → length bytes ≤ j → get_or bytes j 0 ≡ 0
      past j g = get_or-eq_default bytes 0 {n = j} g

      record_same : (k : ℕ) → record { parent = 0 + 256 * 0; label = 0; value = number (take k []) } ≡ no_node
      record_same zero = refl
      record_same (suc k) = refl

  beyond : (n i : ℕ) → (i < n → ⊥) → length bytes ≡ w * n → length bytes ≤ w * i
  beyond n i h e = let m = mul-le-mul_left w (let q : n ≤ i = omega arith in q) in omega arith

  node_same : (i : ℕ) → node_at w bytes i ≡ get_or (nodes_in second labels bytes) i no_node
  node_same i = go (dec_lt i (length (nodes_in second labels bytes)))
    where
      go : Dec (i < length (nodes_in second labels bytes)) → node_at w bytes i ≡ get_or (nodes_in second labels bytes) i no_node
      go (yes h) = ap (λ (k : ℕ). node_at k bytes i) same_stride ∙ sym (facts.are i h)
      go (no h) = none i (beyond _ i h count) ∙ sym (get_or-eq_default (nodes_in second labels bytes) no_node {n = i} (omega arith))

  pub file_table_lem : file_table bytes ≡ table_of (nodes_in second labels bytes)
  unfolding file_table table_of node_at w
  file_table_lem =
      let size = div-eq_of_eq-mul_right (let q : 0 < file_stride bytes = omega (arith, stride_least bytes) in q) count in
      λ i. record {
        size = size i;
        parent = λ n. ap (λ (x : Node). x.parent) (node_same n) i;
        label = λ n. ap (λ (x : Node). x.label) (node_same n) i;
        value = λ n. ap (λ (x : Node). x.value) (node_same n) i;
      }

  -- what the code over a tree asks of its bytes
  pub tree_bytes : GoodLabels labels → (classes : List ℕ) → length classes ≤ 256 → Tabled labels classes → TreeBytes classes bytes
  unfolding table_of w
  tree_bytes good classes small tabled =
      let same = class_same labels good classes small tabled in
      let t : IsTree (class_by classes) (file_table bytes) =
      subst (λ κ. IsTree κ (file_table bytes)) (sym same)
      (subst (λ (x : Table). IsTree (class_of labels) x) (sym file_table_lem) (tree_is_tree second labels good bytes accepted)) in
      let e : (file_table bytes).size ≡ length (nodes_in second labels bytes) = ap (λ (x : Table). x.size) file_table_lem in
      let few : length (nodes_in second labels bytes) ≤ 4096 = facts.few in
      record {
        whole = count ∙ ap (λ (k : ℕ). file_stride bytes * k) (sym e);
        some = t.some;
        few = omega arith;
        root = t.root;
        not_root = λ n p h. (t.rest n p h).not_root;
        above = λ n p h. (t.rest n p h).above;
        inside = λ n p h. (t.rest n p h).inside;
      }
