-- An accepted tree file: as many bytes to a node as its kind says, what each node says, and that it is a tree.
use Rattle.std.specs.Prelude.{ℕ, zero, suc, ◌+◌, ◌*◌, ◌-◌, ◌≤◌, ◌<◌, ◌≡◌, ◌≢◌, Bool, true, false, cond, not, ◌&&◌, ◌||◌, T, leb, eqb, length, get_or}
use Rattle.std.proofs.Math.Path.{refl, sym, subst, ap}
use Rattle.std.proofs.Common.{◌∙◌, inl, inr, ⊎_elim, eq-or-lt_of_le, ltb-true, eqb-true, length-drop, get_or-drop, get_or-take}
use mathlib.Core.List.{List, [], ◌∷◌, ◌++◌, map, flatten, append-nil}
use native.Mathlib.Omega.{arith}
use Rattle.std.proofs.Math.Decide.{dec_lt}
use Rattle.std.proofs.Math.ListN.{drop, take, get_or-append}
use Rattle.std.proofs.Math.Seq.{drop-drop, get_or-append_seam}
use Rattle.meaning.specs.Lists.{is_empty, any}
use Rattle.meaning.specs.Paths.{Class, Label, element, attribute, text, is_element, class_of, singles, is_label, declared}
use Rattle.meaning.specs.Trees.{Node, no_node, table_of, IsTree, Child, Once}
use Rattle.meaning.specs.Records.{word, number, value_bytes, record_length, record_kind, record_body, read_node, node_bytes}
use Rattle.meaning.specs.Refusals.{sound, first_of, good_root, good_below, repeated, node_kind_in, tree_tests, tree_walked, nodes_in, tree_refusal}
use Rattle.theory_lists.specs.Bools
use Rattle.theory_lists.specs.Bools.{of_true, true_of, eqb_of, or_left, or_right}
use Rattle.theory_paths.specs.Good.{GoodLabels, declared_between}
use Rattle.theory_records.specs.Tests.{both, either, never}
use Rattle.theory_records.specs.Walks.{Stopped, walk_keeps}
use Rattle.theory_records.specs.Bytes.{Bytes, bytes_drop}
use Rattle.theory_records.specs.Heads.{Whole, body_length}
use Rattle.theory_records.specs.Encodings.{IsNodeKind, ends_node, node_written}
use Rattle.theory_records.specs.Judged.{node_accepted}
use Rattle.theory_records.specs.Profiles.{one_more_lem, length_more, refusal_none}

drop_take : {A : Type 0} (m n : ℕ) (l : List A) → drop m (take n l) ≡ take (n - m) (drop m l)
drop_take zero n l = ap (λ (k : ℕ). take k l) (let q : n ≡ n - 0 = omega arith in q)
drop_take (suc m) zero l = ap (λ (k : ℕ). take k (drop (suc m) l)) (let q : 0 ≡ 0 - suc m = omega arith in q)
drop_take {A} (suc m) (suc n) [] = none (suc n - suc m)
  where
    none : (k : ℕ) → ◌≡◌ {A = List A} [] (take k [])
    none zero = refl
    none (suc k) = refl
drop_take (suc m) (suc n) (x ∷ l) = drop_take m n l ∙ ap (λ (k : ℕ). take k (drop m l)) (let q : n - m ≡ suc n - suc m = omega arith in q)

-- how many bytes a node record of the kind has: 9, or 11
unfoldable pub stride : ℕ → ℕ
stride kind = 7 + value_bytes kind

-- node i of the bytes, of so many bytes each
unfoldable pub node_at : ℕ → List ℕ → ℕ → Node
node_at w bytes i =
    record { parent = word bytes (w * i + 4); label = get_or bytes (w * i + 6) 0; value = number (take (w - 7) (drop (w * i + 7) bytes)) }

pub body_at : (l : List ℕ) (i : ℕ) → i < record_length l - 4 → get_or (record_body l) i 0 ≡ get_or l (4 + i) 0
unfolding record_body
body_at l i h = get_or-take (record_length l - 4) (drop 4 l) i 0 h ∙ get_or-drop 4 l i 0

-- "Every record: length of the whole record": a node's is its kind's
pub node_length : {kind : ℕ} → IsNodeKind kind → (l : List ℕ) → Whole l → record_kind l ≡ kind → record_length l ≡ stride kind
unfolding stride
node_length n l w k = omega (arith, w.long, body_length l w.within, ends_node n l w k)

read_node_at : (w : ℕ) → 7 ≤ w → (bytes : List ℕ) (i : ℕ) (l : List ℕ) → l ≡ drop (w * i) bytes → record_length l ≡ w
    → read_node (record_body l) ≡ node_at w bytes i
unfolding read_node node_at word
read_node_at w seven bytes i l e long =
    λ k.
    record {
      parent = byte 0 (w * i + 4) (omega arith) (omega arith) k + 256 * byte 1 (w * i + 4 + 1) (omega arith) (omega arith) k;
      label = byte 2 (w * i + 6) (omega arith) (omega arith) k;
      value = number (rest k);
    }
  where
    byte : (j m : ℕ) → j < 3 → m ≡ w * i + (4 + j) → get_or (record_body l) j 0 ≡ get_or bytes m 0
    byte j m h q =
        let inside : j < record_length l - 4 = omega arith in
        body_at l j inside
        ∙ (ap (λ (x : List ℕ). get_or x (4 + j) 0) e ∙ (get_or-drop (w * i) bytes (4 + j) 0 ∙ ap (λ (x : ℕ). get_or bytes x 0) (sym q)))

    rest : drop 3 (record_body l) ≡ take (w - 7) (drop (w * i + 7) bytes)
    rest =
        unfold record_body in
        ap (λ (n : ℕ). drop 3 (take (n - 4) (drop 4 l))) long
        ∙ (drop_take 3 (w - 4) (drop 4 l)
        ∙ (ap (λ (n : ℕ). take n (drop 3 (drop 4 l))) (let q : w - 4 - 3 ≡ w - 7 = omega arith in q)
        ∙ ap (take (w - 7)) (drop-drop 3 4 l ∙ (ap (drop 7) e ∙ drop-drop 7 (w * i) bytes))))

-- What acceptance says of a node below the root: "A node's parent has a smaller number", "parent is attribute or text", "An element's value is 0"
pub record NodeBelow (labels : List Label) (nodes : List Node) (i : ℕ) : Type 0 where
  pub above : (get_or nodes i no_node).parent < i
  pub inside : is_element (class_of labels (get_or nodes (get_or nodes i no_node).parent no_node).label) ≡ true
  pub known : is_label labels (get_or nodes i no_node).label ≡ true
  pub value : not (is_element (class_of labels (get_or nodes i no_node).label)) || eqb (get_or nodes i no_node).value 0 ≡ true

-- "the root is node 0 with parent 65535"
pub record NodesGood (labels : List Label) (nodes : List Node) : Type 0 where
  pub root : 0 < length nodes → good_root (get_or nodes 0 no_node) ≡ true
  pub below : (i : ℕ) → 0 < i → i < length nodes → NodeBelow labels nodes i

below_says : (labels : List Label) (nodes : List Node) (x : Node) → good_below labels nodes x ≡ true
    → NodeBelow labels (nodes ++ (x ∷ [])) (length nodes)
unfolding good_below
below_says labels nodes x e =
    let c = both _ _ e in
    let b = both _ _ c.0 in
    let a = both _ _ b.0 in
    let up : x.parent < length nodes = ltb-true _ _ a.0 in
    let last : get_or (nodes ++ (x ∷ [])) (length nodes) no_node ≡ x = get_or-append_seam nodes x [] no_node in
    let old : get_or (nodes ++ (x ∷ [])) x.parent no_node ≡ get_or nodes x.parent no_node =
    get_or-append nodes (x ∷ []) no_node x.parent up in
    record {
      above = rw last up;
      inside = rw (last, old) a.1;
      known = rw last b.1;
      value = rw last c.1;
    }

below_stays : (labels : List Label) (nodes : List Node) (x : Node) (i : ℕ) → i < length nodes → NodeBelow labels nodes i
    → NodeBelow labels (nodes ++ (x ∷ [])) i
below_stays labels nodes x i h g =
    let same : get_or (nodes ++ (x ∷ [])) i no_node ≡ get_or nodes i no_node = get_or-append nodes (x ∷ []) no_node i h in
    let up : (get_or nodes i no_node).parent < length nodes = omega (arith, g.above) in
    let old : get_or (nodes ++ (x ∷ [])) (get_or nodes i no_node).parent no_node ≡ get_or nodes (get_or nodes i no_node).parent no_node =
    get_or-append nodes (x ∷ []) no_node (get_or nodes i no_node).parent up in
    record { above = rw same g.above; inside = rw (same, old) g.inside; known = rw same g.known; value = rw same g.value }

good_more : (labels : List Label) (nodes : List Node) (x : Node) → NodesGood labels nodes
    → cond (is_empty nodes) (good_root x) (good_below labels nodes x) ≡ true → NodesGood labels (nodes ++ (x ∷ []))
unfolding is_empty
good_more labels [] x g e = record { root = λ h. e; below = λ i h k. absurd (omega arith) }
good_more labels (y ∷ nodes) x g e =
    record {
      root = λ h. g.root (omega arith);
      below =
          λ i h k.
          let small : i ≤ length (y ∷ nodes) = omega (arith, length_more (y ∷ nodes) x) in
          ⊎_elim
          (λ (q : i ≡ length (y ∷ nodes)). subst (λ (j : ℕ). NodeBelow labels (y ∷ nodes ++ (x ∷ [])) j) (sym q) (below_says labels (y ∷ nodes) x e))
          (λ (q : i < length (y ∷ nodes)). below_stays labels (y ∷ nodes) x i q (g.below i h q))
          (eq-or-lt_of_le small);
    }

-- "each attribute name at most once under an element"
pub record NodesOnce (single : ℕ → Bool) (nodes : List Node) : Type 0 where
  pub one : (i j : ℕ) → i < j → j < length nodes → T (single (get_or nodes j no_node).label)
      → (get_or nodes i no_node).parent ≡ (get_or nodes j no_node).parent → (get_or nodes i no_node).label ≡ (get_or nodes j no_node).label → ⊥

any_at : {A : Type 0} (f : A → Bool) (d : A) (xs : List A) (i : ℕ) → i < length xs → T (f (get_or xs i d)) → T (any f xs)
unfolding any
any_at f d [] i h t = absurd (omega arith)
any_at f d (x ∷ xs) zero h t = or_left (f x) (any f xs) t
any_at f d (x ∷ xs) (suc i) h t = or_right (f x) (any f xs) (any_at f d xs i (omega arith) t)

once_more : (single : ℕ → Bool) (nodes : List Node) (x : Node) → NodesOnce single nodes → repeated single nodes x ≡ false
    → NodesOnce single (nodes ++ (x ∷ []))
unfolding repeated
once_more single nodes x o e =
    record {
      one = λ i j h k t p q.
          ⊎_elim
          (λ (r : j ≡ length nodes). last i (omega arith) (at_old i (omega arith)) (at_new j r) t p q)
          (λ (r : j < length nodes). older i j h r (at_old i (omega arith)) (at_old j r) t p q)
          (eq-or-lt_of_le (at_most j _ _ (length_more nodes x) k));
    }
  where
    at_most : (i m k : ℕ) → m ≡ suc k → i < m → i ≤ k
    at_most i m k e h = omega arith

    at_old : (i : ℕ) → i < length nodes → get_or (nodes ++ (x ∷ [])) i no_node ≡ get_or nodes i no_node
    at_old i h = get_or-append nodes (x ∷ []) no_node i h

    at_new : (j : ℕ) → j ≡ length nodes → get_or (nodes ++ (x ∷ [])) j no_node ≡ x
    at_new j r = ap (λ (k : ℕ). get_or (nodes ++ (x ∷ [])) k no_node) r ∙ get_or-append_seam nodes x [] no_node

    last : (i : ℕ) → i < length nodes → {a b : Node} → a ≡ get_or nodes i no_node → b ≡ x → T (single b.label) → a.parent ≡ b.parent
        → a.label ≡ b.label → ⊥
    last i h {a} {b} ea eb t p q =
        never (single x.label && any test nodes)
        (true_of (single x.label && any test nodes)
        (Bools.both (single x.label) (any test nodes) (subst (λ (n : Node). T (single n.label)) eb t)
        (any_at test no_node nodes i h
        (Bools.both (eqb (get_or nodes i no_node).parent x.parent) (eqb (get_or nodes i no_node).label x.label)
        (eqb_of _ _ (sym (ap (λ (n : Node). n.parent) ea) ∙ p ∙ ap (λ (n : Node). n.parent) eb))
        (eqb_of _ _ (sym (ap (λ (n : Node). n.label) ea) ∙ q ∙ ap (λ (n : Node). n.label) eb))))))
        e
      where
        test : Node → Bool
        test m = eqb m.parent x.parent && eqb m.label x.label

    older : (i j : ℕ) → i < j → j < length nodes → {a b : Node} → a ≡ get_or nodes i no_node → b ≡ get_or nodes j no_node → T (single b.label)
        → a.parent ≡ b.parent → a.label ≡ b.label → ⊥
    older i j h r ea eb t p q =
        o.one i j h r (subst (λ (n : Node). T (single n.label)) eb t)
        (sym (ap (λ (n : Node). n.parent) ea) ∙ p ∙ ap (λ (n : Node). n.parent) eb)
        (sym (ap (λ (n : Node). n.label) ea) ∙ q ∙ ap (λ (n : Node). n.label) eb)

-- What holds of the nodes read so far
pub record TreeAt (second : Bool) (kind : ℕ) (labels : List Label) (bytes : List ℕ) (n : ℕ) (nodes : List Node) (rest : List ℕ) : Type 0 where
  pub counted : n ≡ length nodes
  pub left : rest ≡ drop (stride kind * length nodes) bytes
  pub within : stride kind * length nodes ≤ length bytes
  pub few : length nodes ≤ 4096
  pub are : (i : ℕ) → i < length nodes → get_or nodes i no_node ≡ node_at (stride kind) bytes i
  pub good : NodesGood labels nodes
  pub once : NodesOnce (singles second (class_of labels)) nodes

stride_more : (w k m : ℕ) → m ≡ suc k → w * k + w ≡ w * m
stride_more w k m e = ap (λ (n : ℕ). w * k + n) (omega arith) ∙ (let q : w * k + w ≡ w * suc k = omega arith in q) ∙ ap (λ (n : ℕ). w * n) (sym e)

pub stride_least : (kind : ℕ) → 7 ≤ stride kind
unfolding stride
stride_least kind = omega arith

at_most : (i m k : ℕ) → m ≡ suc k → i < m → i ≤ k
at_most i m k e h = omega arith

pub tree_kept : (second : Bool) {kind : ℕ} → IsNodeKind kind → (labels : List Label) (bytes : List ℕ) (n : ℕ) (nodes : List Node) (l : List ℕ)
    → TreeAt second kind labels bytes n nodes l → 0 < length l → first_of (tree_tests second kind labels nodes l) ≡ 0
    → TreeAt second kind labels bytes (suc n) (nodes ++ (read_node (record_body l) ∷ [])) (drop (record_length l) l)
tree_kept second {kind} is_node labels bytes n nodes l g h e =
    let w : ℕ = stride kind in
    let a = node_accepted second kind labels nodes l e in
    let long : record_length l ≡ w = node_length is_node l a.is_whole a.is_kind in
    let x : Node = read_node (record_body l) in
    let more : length (nodes ++ (x ∷ [])) ≡ suc (length nodes) = length_more nodes x in
    let on : w * length nodes + w ≡ w * length (nodes ++ (x ∷ [])) = stride_more w (length nodes) _ more in
    let size : length l ≡ length bytes - w * length nodes = ap length g.left ∙ length-drop (w * length nodes) bytes in
    record {
      counted = omega (arith, g.counted);
      left =
          ap (λ (k : ℕ). drop k l) long
          ∙ (ap (λ (r : List ℕ). drop w r) g.left
          ∙ (drop-drop w (w * length nodes) bytes ∙ ap (λ (k : ℕ). drop k bytes) on));
      within = omega (arith, a.is_whole.within, g.within, on);
      few = omega (arith, a.room);
      are =
          λ i k.
          ⊎_elim
          (λ (q : i ≡ length nodes).
          ap (λ (j : ℕ). get_or (nodes ++ (x ∷ [])) j no_node) q
          ∙ (get_or-append_seam nodes x [] no_node
          ∙ (read_node_at w (stride_least kind) bytes (length nodes) l g.left long ∙ ap (node_at w bytes) (sym q))))
          (λ (q : i < length nodes). get_or-append nodes (x ∷ []) no_node i q ∙ g.are i q)
          (eq-or-lt_of_le (at_most i _ _ more k));
      good = good_more labels nodes x g.good a.good;
      once = once_more (singles second (class_of labels)) nodes x g.once a.once;
    }

pub tree_long : (second : Bool) (kind : ℕ) (labels : List Label) (nodes : List Node) (l : List ℕ) → 0 < length l → first_of (tree_tests second kind labels nodes l) ≡ 0
    → 1 ≤ record_length l
tree_long second kind labels nodes l h e = omega (arith, (node_accepted second kind labels nodes l e).is_whole.long)

nothing : (w : ℕ) → w * 0 ≡ 0
nothing w = omega arith

pub tree_none : (second : Bool) (kind : ℕ) (labels : List Label) (bytes : List ℕ) → TreeAt second kind labels bytes 0 [] bytes
tree_none second kind labels bytes =
    record {
      counted = refl;
      left = ap (λ (k : ℕ). drop k bytes) (sym (nothing (stride kind)));
      within = omega arith;
      few = omega arith;
      are = λ i h. absurd (omega arith);
      good = record { root = λ h. absurd (omega arith); below = λ i h k. absurd (omega arith) };
      once = record { one = λ i j h k. absurd (omega arith) };
    }

-- the kind of a file's nodes is one
pub kind_in : (bytes : List ℕ) → IsNodeKind (node_kind_in bytes)
unfolding node_kind_in
kind_in bytes = go (leb 4 (length bytes) && eqb (record_kind bytes) 5)
  where
    go : (b : Bool) → IsNodeKind (cond b 5 3)
    go true = inr refl
    go false = inl refl

pub tree_stop : (second : Bool) (labels : List Label) (bytes : List ℕ)
    → Stopped (tree_tests second (node_kind_in bytes) labels) (TreeAt second (node_kind_in bytes) labels bytes) (tree_walked second labels bytes)
unfolding tree_walked
tree_stop second labels bytes =
    walk_keeps (tree_tests second (node_kind_in bytes) labels) _ (TreeAt second (node_kind_in bytes) labels bytes) (tree_long second (node_kind_in bytes) labels)
    (tree_kept second (kind_in bytes) labels bytes) 0 [] bytes (tree_none second (node_kind_in bytes) labels bytes)

-- What acceptance of a tree says
pub record TreeAccepted (second : Bool) (labels : List Label) (bytes : List ℕ) : Type 0 where
  pub size : length bytes ≡ stride (node_kind_in bytes) * length (nodes_in second labels bytes)
  pub some : 0 < length (nodes_in second labels bytes)
  pub few : length (nodes_in second labels bytes) ≤ 4096
  pub are : (i : ℕ) → i < length (nodes_in second labels bytes) → get_or (nodes_in second labels bytes) i no_node ≡ node_at (stride (node_kind_in bytes)) bytes i
  pub good : NodesGood labels (nodes_in second labels bytes)
  pub once : NodesOnce (singles second (class_of labels)) (nodes_in second labels bytes)

pub tree_accepts : (second : Bool) (labels : List Label) (bytes : List ℕ) → (tree_refusal second labels bytes).number ≡ 0 → TreeAccepted second labels bytes
unfolding tree_refusal nodes_in is_empty
tree_accepts second labels bytes e =
    let one = refusal_none _ _ e in
    let two = refusal_none _ _ one.1 in
    let three = refusal_none _ _ two.1 in
    let w = tree_stop second labels bytes in
    let m : ℕ = stride (node_kind_in bytes) * length (nodes_in second labels bytes) in
    let all : [] ≡ drop m bytes = sym (w.sound two.0) ∙ w.held.left in
    let none : 0 ≡ length bytes - m = ap length all ∙ length-drop m bytes in
    let size : length bytes ≡ m = omega (arith, w.held.within) in
    let any : 0 < length bytes = not_empty bytes three.0 in
    record { size = size; some = some_of (stride (node_kind_in bytes)) (length (nodes_in second labels bytes)) (omega arith); few = w.held.few; are = w.held.are; good = w.held.good; once = w.held.once }
  where
    not_empty : (l : List ℕ) → (cond (is_empty l) (record { number = 8; input = 3; place = 0 }) sound).number ≡ 0 → 0 < length l
    not_empty [] h = absurd (omega arith)
    not_empty (b ∷ l) h = omega arith

    some_of : (w n : ℕ) → 0 < w * n → 0 < n
    some_of w zero h = absurd (omega arith)
    some_of w (suc n) h = omega arith

-- A label of a file is not the root's, where the declared labels are "2 to 200"
pub label_not_root : (labels : List Label) → GoodLabels labels → (n : ℕ) → is_label labels n ≡ true → n ≢ 203
unfolding is_label
label_not_root labels g n e q =
    ⊎_elim
    (λ (x : eqb n 1 || declared labels n || eqb n 201 ≡ true).
    ⊎_elim
    (λ (y : eqb n 1 || declared labels n ≡ true).
    ⊎_elim (λ (z : eqb n 1 ≡ true). omega (arith, eqb-true n 1 z)) (λ (z : declared labels n ≡ true). omega (arith, (declared_between labels g n (of_true _ z)).1))
    (either _ _ y))
    (λ (y : eqb n 201 ≡ true). omega (arith, eqb-true n 201 y))
    (either _ _ x))
    (λ (x : eqb n 202 ≡ true). omega (arith, eqb-true n 202 x))
    (either _ _ e)

is_element_lem : (c : Class) → is_element c ≡ true → c ≡ element
unfolding is_element
is_element_lem element e = refl
is_element_lem attribute e = absurd (never _ e refl)
is_element_lem text e = absurd (never _ e refl)

pub root_says : (n : Node) → good_root n ≡ true → (n.parent ≡ 65535) × (n.label ≡ 203) × (n.value ≡ 0)
unfolding good_root
root_says n e =
    let b = both _ _ e in
    let a = both _ _ b.0 in
    (eqb-true _ _ a.0, eqb-true _ _ a.1, eqb-true _ _ b.1)

-- the file's table is a tree
pub nodes_tree : (labels : List Label) → GoodLabels labels → (nodes : List Node) → 0 < length nodes
    → NodesGood labels nodes → IsTree (class_of labels) (table_of nodes)
unfolding table_of
nodes_tree labels between nodes h g =
    record {
      some = h;
      root = (root_says (get_or nodes 0 no_node) (g.root h)).1;
      rest =
          λ n pos inside.
          let b = g.below n pos inside in
          record { above = b.above; inside = is_element_lem _ b.inside; not_root = label_not_root labels between _ b.known };
    }

pub tree_is_tree : (second : Bool) (labels : List Label) → GoodLabels labels → (bytes : List ℕ) → (tree_refusal second labels bytes).number ≡ 0
    → IsTree (class_of labels) (table_of (nodes_in second labels bytes))
tree_is_tree second labels between bytes e =
    let a = tree_accepts second labels bytes e in
    nodes_tree labels between (nodes_in second labels bytes) a.some a.good

-- and one of its edition
pub nodes_once : (single : ℕ → Bool) (nodes : List Node) → NodesOnce single nodes → Once single (table_of nodes)
unfolding table_of
nodes_once single nodes o =
    record { one = λ v x y a b t l. go x y a b t l (dec_lt x y) (dec_lt y x) }
  where
    go : (x y : ℕ) → {v : ℕ} → Child (table_of nodes) v x → Child (table_of nodes) v y → T (single (get_or nodes x no_node).label)
        → (get_or nodes x no_node).label ≡ (get_or nodes y no_node).label → Dec (x < y) → Dec (y < x) → x ≡ y
    go x y a b t l (yes h) d =
        absurd (o.one x y h b.inside (subst (λ (k : ℕ). T (single k)) l t) (a.below ∙ sym b.below) l)
    go x y a b t l (no n) (yes h) = absurd (o.one y x h a.inside t (b.below ∙ sym a.below) (sym l))
    go x y a b t l (no n) (no m) = omega arith

pub tree_once : (second : Bool) (labels : List Label) (bytes : List ℕ) → (tree_refusal second labels bytes).number ≡ 0
    → Once (singles second (class_of labels)) (table_of (nodes_in second labels bytes))
tree_once second labels bytes e = nodes_once _ _ (tree_accepts second labels bytes e).once

-- the bytes of a tree are the encodings of its nodes
pub record NodesBefore (kind : ℕ) (bytes : List ℕ) (n : ℕ) (nodes : List Node) (rest : List ℕ) : Type 0 where
  pub small : Bytes rest
  pub are : flatten (map (node_bytes kind) nodes) ++ rest ≡ bytes

tree_written_kept : (second : Bool) {kind : ℕ} → IsNodeKind kind → (labels : List Label) (bytes : List ℕ) (n : ℕ) (nodes : List Node) (l : List ℕ)
    → NodesBefore kind bytes n nodes l → 0 < length l → first_of (tree_tests second kind labels nodes l) ≡ 0
    → NodesBefore kind bytes (suc n) (nodes ++ (read_node (record_body l) ∷ [])) (drop (record_length l) l)
tree_written_kept second {kind} is_node labels bytes n nodes l g h e =
    let a = node_accepted second kind labels nodes l e in
    record {
      small = bytes_drop (record_length l) g.small;
      are =
          one_more_lem (node_bytes kind) nodes (read_node (record_body l)) (drop (record_length l) l) l bytes
          (node_written is_node l g.small a.is_whole a.is_kind) g.are;
    }

pub tree_written : (second : Bool) (labels : List Label) (bytes : List ℕ) → Bytes bytes → (tree_refusal second labels bytes).number ≡ 0
    → flatten (map (node_bytes (node_kind_in bytes)) (nodes_in second labels bytes)) ≡ bytes
unfolding tree_refusal nodes_in tree_walked
tree_written second labels bytes small e =
    let one = refusal_none _ _ e in
    let two = refusal_none _ _ one.1 in
    let w =
    walk_keeps (tree_tests second (node_kind_in bytes) labels) (λ (nodes : List Node) (l : List ℕ). nodes ++ (read_node (record_body l) ∷ []))
    (NodesBefore (node_kind_in bytes) bytes)
    (tree_long second (node_kind_in bytes) labels)
    (tree_written_kept second (kind_in bytes) labels bytes)
    0
    []
    bytes
    (record { small = small; are = unfold flatten in refl }) in
    sym (append-nil (flatten (map (node_bytes (node_kind_in bytes)) (nodes_in second labels bytes))))
    ∙ subst (λ (rest : List ℕ). flatten (map (node_bytes (node_kind_in bytes)) (nodes_in second labels bytes)) ++ rest ≡ bytes) (w.sound two.0) w.held.are
