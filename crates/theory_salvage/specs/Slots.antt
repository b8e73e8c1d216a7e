-- Nodes written one behind the other: what is read of them, and how one more behind them is judged.
use Rattle.std.specs.Prelude.{ℕ, suc, ◌+◌, ◌*◌, ◌-◌, ◌<◌, ◌≤◌, ◌≡◌, Bool, cond, not, get_or, take}
use Rattle.std.proofs.Math.Path.{refl, ap}
use Rattle.std.proofs.Common.{sym, ◌∙◌, subst, arith, mul-le-mul_left, length-append, length-drop, take-append-drop, get_or-take, length-take-le, take_at, drop_at, take_all}
use Rattle.std.proofs.Math.Bool.{true}
use mathlib.Core.List.{List, [], ◌∷◌, ◌++◌, map, flatten, append-nil}
use borrow.Author.Tests.{eq-eqb}
use Rattle.std.proofs.Math.ListN.{length, drop}
use Rattle.std.proofs.lemmas.List.{take-append-le, drop-append-le}
use Rattle.meaning.specs.Lists.{is_empty}
use Rattle.meaning.specs.Paths.{Label, class_of, singles}
use Rattle.meaning.specs.Trees.{Node}
use Rattle.meaning.specs.Records.{word, word_bytes, number, number_bytes, value_bytes, record_length, record_kind, record_body, record_bytes, read_node, node_bytes}
use Rattle.meaning.specs.Refusals.{first_of, whole, good_root, good_below, repeated, tree_tests}
use Rattle.theory_records.specs.Bytes.{number_length}
use Rattle.theory_records.specs.Heads.{written_length, written_kind, written_body, written_rest}
use Rattle.theory_records.specs.Encodings.{IsNodeKind, node_ends, kind_small, value_small, written_whole, node_read}
use Rattle.theory_records.specs.Judged.{room_left}
use Rattle.theory_records.specs.Profiles.{flat_more, length_more}
use Rattle.theory_records.specs.TreeFiles.{stride, stride_least, node_at, TreeAt, tree_kept, tree_none}
use Rattle.theory_records.specs.Written.{NodeFits}
use Rattle.theory_records.specs.WrittenInputs.{nodes_size}

-- a node stands within its own bytes
node_same : (w i m : ℕ) (a b : List ℕ) → 7 ≤ w → w * i + w ≤ m → m ≤ length a → m ≤ length b → take m a ≡ take m b → node_at w a i ≡ node_at w b i
unfolding node_at word
node_same w i m a b seven h fa fb e =
    λ k.
    record {
      parent = byte (w * i + 4) (omega arith) k + 256 * byte (w * i + 4 + 1) (omega arith) k;
      label = byte (w * i + 6) (omega arith) k;
      value = number (rest k);
    }
  where
    byte : (j : ℕ) → j < m → get_or a j 0 ≡ get_or b j 0
    byte j g = sym (get_or-take m a j 0 g) ∙ (ap (λ (l : List ℕ). get_or l j 0) e ∙ get_or-take m b j 0 g)

    part : (l : List ℕ) → m ≤ length l → take (w - 7) (drop (w * i + 7) l) ≡ take (w - 7) (drop (w * i + 7) (take m l))
    part l g =
        let long = length-take-le m l g in
        let left = length-drop (w * i + 7) (take m l) in
        ap (λ (x : List ℕ). take (w - 7) (drop (w * i + 7) x)) (sym (take-append-drop m l))
        ∙ (ap (take (w - 7)) (drop-append-le (w * i + 7) (take m l) (drop m l) (omega arith))
        ∙ take-append-le (w - 7) (drop (w * i + 7) (take m l)) (drop m l) (omega arith))

    rest : take (w - 7) (drop (w * i + 7) a) ≡ take (w - 7) (drop (w * i + 7) b)
    rest = part a fa ∙ (ap (λ (x : List ℕ). take (w - 7) (drop (w * i + 7) x)) e ∙ sym (part b fb))

-- what stands behind the nodes may change
pub slot : {second : Bool} {kind : ℕ} {labels : List Label} {a : List ℕ} {n : ℕ} {nodes : List Node} {l : List ℕ} → TreeAt second kind labels a n nodes l
    → (b : List ℕ) → take (stride kind * length nodes) a ≡ take (stride kind * length nodes) b → stride kind * length nodes ≤ length b
    → TreeAt second kind labels b n nodes (drop (stride kind * length nodes) b)
slot {kind = kind} {a = a} {nodes = nodes} t b e h =
    record {
      counted = t.counted;
      left = refl;
      within = h;
      few = t.few;
      are =
          λ i g.
          t.are i g
          ∙ node_same (stride kind) i (stride kind * length nodes) a b (stride_least kind)
          (let m = mul-le-mul_left (stride kind) (let q : suc i ≤ length nodes = omega arith in q) in omega arith)
          t.within h e;
      good = t.good;
      once = t.once;
    }

-- 8, then 16, of a node beside those before it
unfoldable pub body_tests : Bool → List Label → List Node → Node → List (ℕ × Bool)
body_tests second labels nodes x =
    (8, not (cond (is_empty nodes) (good_root x) (good_below labels nodes x))) ∷ (16, repeated (singles second (class_of labels)) nodes x) ∷ []

-- a node that is written is read back, whatever stands behind it
module _ {kind : ℕ} (is_node : IsNodeKind kind) (x : Node) (fits : NodeFits kind x) (rest : List ℕ) where
  body : List ℕ
  body = word_bytes x.parent ++ (x.label ∷ number_bytes (value_bytes kind) x.value)

  long : length body ≡ 3 + value_bytes kind
  unfolding body word_bytes
  long = omega (arith, number_length (value_bytes kind) x.value)

  small : 4 + length body < 65536
  small = omega (arith, long, value_small kind)

  pub node_back : read_node (record_body (node_bytes kind x ++ rest)) ≡ x
  unfolding node_bytes body
  node_back = ap read_node (written_body kind body rest small) ∙ node_read (value_bytes kind) x fits.parent fits.value

  pub node_long : record_length (node_bytes kind x ++ rest) ≡ stride kind
  unfolding node_bytes body stride
  node_long = let l = long in written_length kind body rest small ∙ (omega arith)

  pub node_behind : drop (stride kind) (node_bytes kind x ++ rest) ≡ rest
  unfolding node_bytes body stride
  node_behind = let e : 7 + value_bytes kind ≡ 4 + length body = omega (arith, long) in ap (λ (k : ℕ). drop k (record_bytes kind body ++ rest)) e ∙ written_rest kind body rest

  pub node_tests : (second : Bool) (labels : List Label) (nodes : List Node) → length nodes < 4096
      → first_of (tree_tests second kind labels nodes (node_bytes kind x ++ rest)) ≡ first_of (body_tests second labels nodes x)
  unfolding tree_tests first_of body_tests
  node_tests second labels nodes room =
      rw (room_left kind 4096 (length nodes) (node_bytes kind x ++ rest) room, is_whole_lem, is_kind, eq-eqb kind kind refl, node_back)
    where
      is_whole_lem : whole (node_bytes kind x ++ rest) ≡ true
      is_whole_lem = unfold node_bytes body in (written_whole kind body rest small (kind_small is_node) ∙ node_ends is_node body long)

      is_kind : record_kind (node_bytes kind x ++ rest) ≡ kind
      is_kind = unfold node_bytes body in written_kind kind body rest (kind_small is_node)

-- one node behind those written
pub slot_more : (second : Bool) {kind : ℕ} → IsNodeKind kind → (labels : List Label) (nodes : List Node) (x : Node) → NodeFits kind x → length nodes < 4096
    → TreeAt second kind labels (flatten (map (node_bytes kind) nodes)) (length nodes) nodes [] → first_of (body_tests second labels nodes x) ≡ 0
    → TreeAt second kind labels (flatten (map (node_bytes kind) (nodes ++ (x ∷ [])))) (length (nodes ++ (x ∷ []))) (nodes ++ (x ∷ [])) []
slot_more second {kind} is_node labels nodes x fits room t e =
    let size = nodes_size labels kind nodes in
    let more : List ℕ = flatten (map (node_bytes kind) nodes) ++ (node_bytes kind x ++ []) in
    let stands : drop (stride kind * length nodes) more ≡ node_bytes kind x ++ [] = drop_at (flatten (map (node_bytes kind) nodes)) (node_bytes kind x ++ []) (stride kind * length nodes) size in
    let here : TreeAt second kind labels more (length nodes) nodes (node_bytes kind x ++ []) =
    subst (TreeAt second kind labels more (length nodes) nodes) stands
    (slot t more
    (take_all (stride kind * length nodes) (flatten (map (node_bytes kind) nodes)) (omega arith) ∙ sym (take_at (flatten (map (node_bytes kind) nodes)) (node_bytes kind x ++ []) (stride kind * length nodes) size))
    (let l = length-append (flatten (map (node_bytes kind) nodes)) (node_bytes kind x ++ []) in omega arith)) in
    let passes = node_tests is_node x fits [] second labels nodes room ∙ e in
    let some : 0 < length (node_bytes kind x ++ []) = go in
    subst (λ (b : List ℕ). TreeAt second kind labels b (length (nodes ++ (x ∷ []))) (nodes ++ (x ∷ [])) [])
    (ap (λ (l : List ℕ). flatten (map (node_bytes kind) nodes) ++ l) (append-nil (node_bytes kind x)) ∙ sym (flat_more (node_bytes kind) nodes x))
    (subst (λ (n : ℕ). TreeAt second kind labels more n (nodes ++ (x ∷ [])) []) (sym (length_more nodes x))
    (subst (λ (l : List ℕ). TreeAt second kind labels more (suc (length nodes)) (nodes ++ (x ∷ [])) l)
    (ap (λ (k : ℕ). drop k (node_bytes kind x ++ [])) (node_long is_node x fits []) ∙ node_behind is_node x fits [])
    (subst (λ (y : Node). TreeAt second kind labels more (suc (length nodes)) (nodes ++ (y ∷ [])) (drop (record_length (node_bytes kind x ++ [])) (node_bytes kind x ++ [])))
    (node_back is_node x fits []) (tree_kept second is_node labels more (length nodes) nodes (node_bytes kind x ++ []) here some passes))))
  where
    go : 0 < length (node_bytes kind x ++ [])
    go = unfold node_bytes record_bytes word_bytes in (omega arith)

-- before the first
pub slot_none : (second : Bool) (kind : ℕ) (labels : List Label) → TreeAt second kind labels (flatten (map (node_bytes kind) [])) 0 [] []
unfolding flatten
slot_none second kind labels = tree_none second kind labels []
