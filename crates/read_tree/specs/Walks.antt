-- A tree judged from the front: the loop's state beside the walk of `meaning`, for any labels that the class table says.
use Prim.Native.Nat.{ℕ, zero, suc, ◌+◌, ◌*◌, ◌-◌, ◌≤◌, ◌<◌}
use Rattle.std.specs.Prelude.{◌≡◌, Bool, cond, ◌&&◌, ◌||◌, take, drop}
use Rattle.std.proofs.Math.Path.{refl, subst, ap, ap₂}
use Rattle.std.proofs.Common.{sym, ◌∙◌, mul-le-mul_left, add-one, length-drop}
use Rattle.std.proofs.Math.Bool.{true, false, not}
use mathlib.Core.List.{List, [], ◌∷◌, ◌++◌}
use native.Mathlib.Omega.{arith}
use borrow.Author.Tests.{ltb-true, lt-ltb, le-ltb, ne_eqb}
use borrow.Author.Rules.{part_to_end}
use Rattle.std.proofs.Math.Dec.{ltb, eqb, eqb-suc-zero}
use Rattle.std.proofs.Math.ListN.{length, get_or}
use Rattle.meaning.specs.Lists.{any, is_empty}
use Rattle.meaning.specs.Paths.{Label, is_element, is_attribute, class_of, is_label, singles}
use Rattle.meaning.specs.Trees.{Node, no_node}
use Rattle.meaning.specs.Records.{word, record_length, record_kind, record_body, read_node}
use Rattle.meaning.specs.Refusals.{sound, first_refusal, oversize, walk, first_of, too_many, whole, good_root, good_below, node_kind_in, tree_limit, repeated, tree_tests, tree_walked, tree_refusal}
use Rattle.read_record.specs.Classes.{Tabled, class_by, class_tabled, label_tabled}
use Rattle.theory_records.specs.HeadTests.{head_tests, head_passed}
use Rattle.theory_records.specs.Bytes.{Bytes, bytes_at, bytes_drop}
use Rattle.theory_records.specs.Encodings.{IsNodeKind, bytes_body}
use Rattle.theory_records.specs.Tests.{both}
use Rattle.theory_records.specs.Walks.{walk_step, walk_stop, walk_end}
use Rattle.theory_records.specs.Judged.{some_empty}
use Rattle.theory_records.specs.TreeFiles.{stride, stride_least, root_says, kind_in, TreeAt, node_at, tree_kept, tree_long, tree_none, node_length}
use Rattle.read_tree.specs.Nodes.{good_below_by, good_node_by, scan, is_twin, repeated_by, body_tests_by, node_tests_by}

empty_count : {A : Type 0} (l : List A) (n : ℕ) → n ≡ length l → eqb n 0 ≡ is_empty l
unfolding is_empty
empty_count [] n e = rw e
empty_count (x ∷ l) n e = ne_eqb n 0 (λ q. omega arith)

label_small : (l : List ℕ) → Bytes l → (read_node (record_body l)).label < 256
unfolding read_node
label_small l small = bytes_at (bytes_body l small) 2

-- a search over a list, by its numbers
scan_suc : (f : ℕ → Bool) (left i : ℕ) → scan f left (suc i) ≡ scan (λ (j : ℕ). f (suc j)) left i
unfolding scan
scan_suc f zero i = refl
scan_suc f (suc left) i = ap (λ (b : Bool). f (suc i) || b) (scan_suc f left (suc i))

any_scan : {A : Type 0} (f : A → Bool) (d : A) (xs : List A) → any f xs ≡ scan (λ (i : ℕ). f (get_or xs i d)) (length xs) 0
unfolding any scan
any_scan f d [] = refl
any_scan f d (x ∷ xs) = ap (λ (b : Bool). f x || b) (any_scan f d xs ∙ sym (scan_suc (λ (i : ℕ). f (get_or (x ∷ xs) i d)) (length xs) 0))

scan_same : (f g : ℕ → Bool) (left i : ℕ) → ((j : ℕ) → i ≤ j → j < i + left → f j ≡ g j) → scan f left i ≡ scan g left i
unfolding scan
scan_same f g zero i h = refl
scan_same f g (suc left) i h =
    ap₂ (λ (a b : Bool). a || b) (h i (omega arith) (omega arith)) (scan_same f g left (suc i) (λ j k l. h j (omega arith) (omega arith)))

scan_skip : (f : ℕ → Bool) (k left i : ℕ) → ((j : ℕ) → i ≤ j → j < i + k → f j ≡ false) → scan f (k + left) i ≡ scan f left (k + i)
unfolding scan
scan_skip f zero left i h = ap₂ (scan f) (let e : 0 + left ≡ left = omega arith in e) (let e : i ≡ 0 + i = omega arith in e)
scan_skip f (suc k) left i h =
    ap (λ (m : ℕ). scan f m i) (let e : suc k + left ≡ suc (k + left) = omega arith in e)
    ∙ ap (λ (b : Bool). b || scan f (k + left) (suc i)) (h i (omega arith) (omega arith))
    ∙ scan_skip f k left (suc i) (λ j l m. h j (omega arith) (omega arith))
    ∙ ap (scan f left) (let e : k + suc i ≡ suc k + i = omega arith in e)

-- 16 is asked where 8 does not hold
eight : (g h r q : Bool) → g ≡ h → (h ≡ true → r ≡ q) → first_of ((8, not g) ∷ (16, r) ∷ []) ≡ first_of ((8, not h) ∷ (16, q) ∷ [])
unfolding first_of
eight g true r q e f = ap₂ (λ (a b : Bool). first_of ((8, not a) ∷ (16, b) ∷ [])) e (f refl)
eight g false r q e f = ap (λ (a : Bool). first_of ((8, not a) ∷ (16, r) ∷ [])) e

-- the first that holds, behind the same head
head_same : (kind limit n : ℕ) (l : List ℕ) (ts us : List (ℕ × Bool)) → first_of ts ≡ first_of us
    → first_of ((7, too_many kind limit n l) ∷ (1, not (whole l)) ∷ (2, not (eqb (record_kind l) kind)) ∷ ts)
    ≡ first_of ((7, too_many kind limit n l) ∷ (1, not (whole l)) ∷ (2, not (eqb (record_kind l) kind)) ∷ us)
unfolding first_of
head_same kind limit n l ts us e = rw e

module _ {labels : List Label} {classes : List ℕ} (tabled : Tabled labels classes) {bytes : List ℕ} (small : Bytes bytes) {kind : ℕ} where
  -- a node judged by the table and the bytes is judged as by the labels and the nodes
  below_agrees : {second : Bool} {n : ℕ} {nodes : List Node} {l : List ℕ} → TreeAt second kind labels bytes n nodes l → (x : Node) → x.label < 256
      → good_below_by (stride kind) classes bytes n x ≡ good_below labels nodes x
  unfolding good_below_by good_below
  below_agrees {second} {n} {nodes} a x h =
      rw (a.counted, class_tabled tabled x.label h, label_tabled tabled x.label h) (go (ltb x.parent (length nodes)) refl)
    where
      go : (b : Bool) → ltb x.parent (length nodes) ≡ b
          → (b && is_element (class_by classes (get_or bytes (stride kind * x.parent + 6) 0)) && is_label labels x.label
          && (not (is_element (class_of labels x.label)) || eqb x.value 0))
          ≡ (b && is_element (class_of labels (get_or nodes x.parent no_node).label) && is_label labels x.label
          && (not (is_element (class_of labels x.label)) || eqb x.value 0))
      go true e =
          let its : (get_or nodes x.parent no_node).label ≡ get_or bytes (stride kind * x.parent + 6) 0 =
          unfold node_at in ap (λ (m : Node). m.label) (a.are x.parent (ltb-true _ _ e)) in
          rw (its, class_tabled tabled (get_or bytes (stride kind * x.parent + 6) 0) (bytes_at small (stride kind * x.parent + 6)))
      go false e = refl

  -- a repeated attribute likewise: a node of the parent stands behind it
  twin_agrees : {second : Bool} {n : ℕ} {nodes : List Node} {l : List ℕ} → TreeAt second kind labels bytes n nodes l → (x : Node) → x.label < 256
      → cond (is_empty nodes) (good_root x) (good_below labels nodes x) ≡ true
      → repeated_by (stride kind) second classes bytes n x ≡ repeated (singles second (class_of labels)) nodes x
  unfolding repeated_by repeated singles
  twin_agrees {second} {n} {nodes} a x h good =
      rw (a.counted, class_tabled tabled x.label h)
      (ap (λ (b : Bool). second && is_attribute (class_of labels x.label) && b) (go nodes refl good))
    where
      below_parent : (ns : List Node) → good_below labels ns x ≡ true → x.parent < length ns
      below_parent ns g = unfold good_below in ltb-true _ _ (both _ _ (both _ _ (both _ _ g).0).0).0

      test : Node → Bool
      test m = eqb m.parent x.parent && eqb m.label x.label

      at : ℕ → Bool
      at i = test (get_or nodes i no_node)

      same : (i : ℕ) → i < length nodes → is_twin (stride kind) bytes x.parent x.label i ≡ at i
      same i g = unfold is_twin node_at in ap test (sym (a.are i g))

      early : x.parent < length nodes → (i : ℕ) → i < suc x.parent → at i ≡ false
      early p zero g =
          let r = (root_says (get_or nodes 0 no_node) (a.good.root (omega arith))).0 in
          let f = a.few in
          rw (ne_eqb (get_or nodes 0 no_node).parent x.parent (λ q. omega arith))
      early p (suc i) g =
          let r = (a.good.below (suc i) (omega arith) (omega arith)).above in
          rw (ne_eqb (get_or nodes (suc i) no_node).parent x.parent (λ q. omega arith))

      later : x.parent < length nodes → scan (is_twin (stride kind) bytes x.parent x.label) (length nodes - suc x.parent) (suc x.parent) ≡ any test nodes
      later p =
          scan_same (is_twin (stride kind) bytes x.parent x.label) at (length nodes - suc x.parent) (suc x.parent) (λ i f g. same i (omega arith))
          ∙ ap (scan at (length nodes - suc x.parent)) (let q : suc x.parent ≡ suc x.parent + 0 = omega arith in q)
          ∙ sym (scan_skip at (suc x.parent) (length nodes - suc x.parent) 0 (λ i f g. early p i (omega arith)))
          ∙ ap (λ (k : ℕ). scan at k 0) (let q : suc x.parent + (length nodes - suc x.parent) ≡ length nodes = omega arith in q)
          ∙ sym (any_scan test no_node nodes)

      go : (ns : List Node) → nodes ≡ ns → cond (is_empty ns) (good_root x) (good_below labels ns x) ≡ true
          → scan (is_twin (stride kind) bytes x.parent x.label) (length nodes - suc x.parent) (suc x.parent) ≡ any test nodes
      go [] e g = rw e at_none
        where
          at_none : scan (is_twin (stride kind) bytes x.parent x.label) (0 - suc x.parent) (suc x.parent) ≡ any test []
          at_none =
              unfold scan any in
              ap (λ (k : ℕ). scan (is_twin (stride kind) bytes x.parent x.label) k (suc x.parent)) (let q : 0 - suc x.parent ≡ 0 = omega arith in q)
      go (y ∷ ns) e g = later (subst (λ (l : List Node). x.parent < length l) (sym e) (below_parent (y ∷ ns) (unfold is_empty in g)))

  node_agrees : {second : Bool} {n : ℕ} {nodes : List Node} {l : List ℕ} → TreeAt second kind labels bytes n nodes l → (x : Node) → x.label < 256
      → good_node_by (stride kind) classes bytes n x ≡ cond (is_empty nodes) (good_root x) (good_below labels nodes x)
  unfolding good_node_by
  node_agrees {second} {n} {nodes} a x h = rw (below_agrees a x h, empty_count nodes n a.counted)

  pub tests_agree : {second : Bool} {n : ℕ} {nodes : List Node} {l : List ℕ} → TreeAt second kind labels bytes n nodes l
      → first_of (node_tests_by second kind classes bytes n l) ≡ first_of (tree_tests second kind labels nodes l)
  unfolding node_tests_by head_tests body_tests_by tree_tests
  tests_agree {second} {n} {nodes} {l} a =
      let rest : Bytes l = subst Bytes (sym a.left) (bytes_drop (stride kind * length nodes) small) in
      let label : (read_node (record_body l)).label < 256 = label_small l rest in
      let x : Node = read_node (record_body l) in
      let good = node_agrees a x label in
      ap₂ (λ (m : ℕ) (ts : List (ℕ × Bool)). first_of ((7, too_many kind 4096 m l) ∷ (1, not (whole l)) ∷ (2, not (eqb (record_kind l) kind)) ∷ ts))
      a.counted refl
      ∙ head_same kind 4096 (length nodes) l _ _ (eight _ _ _ _ good (twin_agrees a x label))

-- what reading one node more does
abbrev pub next_node : List Node → List ℕ → List Node
next_node nodes l = nodes ++ (read_node (record_body l) ∷ [])

-- The loop stands after n nodes: the walk goes on as the whole walk does
pub record Going (second : Bool) (kind : ℕ) (labels : List Label) (bytes : List ℕ) (n : ℕ) (rest : List ℕ) : Type 0 where
  pub nodes : List Node
  pub here : TreeAt second kind labels bytes n nodes rest
  pub walks : walk (tree_tests second kind labels) next_node 0 n nodes rest ≡ tree_walked second labels bytes

pub record TreeLoop (second : Bool) (kind : ℕ) (classes bytes : List ℕ) (n : ℕ) (rest : List ℕ) : Type 0 where
  pub is_node : IsNodeKind kind
  pub in_file : kind ≡ node_kind_in bytes
  pub size : stride kind * n + length rest ≡ length bytes
  pub going : (labels : List Label) → Tabled labels classes → Going second kind labels bytes n rest

pub tree_start : (second : Bool) (kind : ℕ) (classes bytes : List ℕ) → kind ≡ node_kind_in bytes → TreeLoop second kind classes bytes 0 bytes
tree_start second kind classes bytes e =
    record {
      is_node = subst IsNodeKind (sym e) (kind_in bytes);
      in_file = e;
      size = omega arith;
      going = λ labels t.
          record {
            nodes = [];
            here = tree_none second kind labels bytes;
            walks = unfold tree_walked in ap (λ (k : ℕ). walk (tree_tests second k labels) next_node 0 0 [] bytes) e;
          };
    }

-- there are fewer nodes than bytes
pub loop_few : {second : Bool} {kind : ℕ} {classes bytes : List ℕ} {n : ℕ} {rest : List ℕ} → TreeLoop second kind classes bytes n rest → n + length rest ≤ length bytes
loop_few {kind = kind} {n = n} loop =
    let m = mul-le-mul_left n (let q : 1 ≤ stride kind = let s = stride_least kind in omega arith in q) in
    let s = loop.size in
    omega arith

-- an accepted record is as long as its kind says, by its own tests
pub record Long (kind : ℕ) (rest : List ℕ) : Type 0 where
  pub head : 4 ≤ length rest
  pub long : record_length rest ≡ stride kind
  pub some : 7 ≤ stride kind
  pub within : stride kind ≤ length rest

long_node : (second : Bool) {kind : ℕ} → IsNodeKind kind → (classes bytes : List ℕ) (n : ℕ) (rest : List ℕ) → first_of (node_tests_by second kind classes bytes n rest) ≡ 0
    → Long kind rest
unfolding node_tests_by
long_node second {kind} is_node classes bytes n rest e =
    let p = head_passed kind 4096 n rest _ e in
    let long : record_length rest ≡ stride kind = node_length is_node rest p.is_whole p.is_kind in
    record { head = p.is_whole.head; long = long; some = stride_least kind; within = omega (arith, p.is_whole.within) }

-- the same, as the code has it
pub record LongHere (kind : ℕ) (rest : List ℕ) : Type 0 where
  pub head : 4 ≤ length rest
  pub long : word rest 0 ≡ stride kind
  pub some : 7 ≤ stride kind
  pub within : stride kind ≤ length rest

pub long_here : {second : Bool} {kind : ℕ} {classes bytes : List ℕ} {n : ℕ} {rest : List ℕ} → TreeLoop second kind classes bytes n rest → {r : ℕ}
    → r ≡ first_of (node_tests_by second kind classes bytes n rest) → r ≡ 0 → LongHere kind rest
unfolding record_length
long_here {second} {kind} {classes} {bytes} {n} {rest} loop given e =
    let its = long_node second loop.is_node classes bytes n rest (sym given ∙ e) in
    record { head = its.head; long = its.long; some = its.some; within = its.within }

-- what the walk came to is what refuses
refused_by : (second : Bool) (labels : List Label) (bytes : List ℕ) (r n : ℕ) (nodes : List Node) → length bytes ≤ tree_limit (node_kind_in bytes)
    → tree_walked second labels bytes ≡ record { number = suc r; at = n; state = nodes }
    → record { number = suc r; input = 3; place = n } ≡ tree_refusal second labels bytes
unfolding tree_refusal first_refusal oversize
refused_by second labels bytes r n nodes within e = rw (le-ltb (tree_limit (node_kind_in bytes)) (length bytes) within, e, eqb-suc-zero r)

sound_by : (second : Bool) (labels : List Label) (bytes : List ℕ) (n : ℕ) (nodes : List Node) → length bytes ≤ tree_limit (node_kind_in bytes) → 0 < length bytes
    → tree_walked second labels bytes ≡ record { number = 0; at = n; state = nodes } → sound ≡ tree_refusal second labels bytes
unfolding tree_refusal first_refusal oversize
sound_by second labels bytes n nodes within some e = rw (le-ltb (tree_limit (node_kind_in bytes)) (length bytes) within, e, some_empty bytes some)

-- the limit of the file's kind
limit_in : {second : Bool} {kind : ℕ} {classes bytes : List ℕ} {n : ℕ} {rest : List ℕ} → TreeLoop second kind classes bytes n rest → {limit : ℕ} → limit ≡ tree_limit kind
    → length bytes ≤ limit → length bytes ≤ tree_limit (node_kind_in bytes)
limit_in {bytes = bytes} loop e h = subst (λ (k : ℕ). length bytes ≤ k) (e ∙ ap tree_limit loop.in_file) h

-- the number that was given, and whether it is 0
module _ {second : Bool} {kind : ℕ} {classes bytes : List ℕ} {n : ℕ} {rest : List ℕ} (loop : TreeLoop second kind classes bytes n rest) (small : Bytes bytes)
    {r : ℕ} (given : r ≡ first_of (node_tests_by second kind classes bytes n rest)) where
  tests_given : (labels : List Label) (tabled : Tabled labels classes) → first_of (tree_tests second kind labels (loop.going labels tabled).nodes rest) ≡ r
  tests_given labels tabled = sym (given ∙ tests_agree tabled small (loop.going labels tabled).here)

  pub tree_next : 0 < length rest → r ≡ 0 → {end : ℕ} → end ≡ word rest 0 → TreeLoop second kind classes bytes (n + 1) (take (length rest - end) (drop end rest))
  tree_next h e {end} q = rw (part_to_end rest end, q ∙ long, add-one) (record { is_node = loop.is_node; in_file = loop.in_file; size = less; going = onward })
    where
      long : word rest 0 ≡ record_length rest
      long = unfold record_length in refl

      its : Long kind rest
      its = long_node second loop.is_node classes bytes n rest (sym given ∙ e)

      less : stride kind * suc n + length (drop (record_length rest) rest) ≡ length bytes
      less = omega (arith, loop.size, its.long, its.within, length-drop (record_length rest) rest)

      onward : (labels : List Label) → Tabled labels classes → Going second kind labels bytes (suc n) (drop (record_length rest) rest)
      onward labels tabled =
          let g = loop.going labels tabled in
          let zero-given : first_of (tree_tests second kind labels g.nodes rest) ≡ 0 = tests_given labels tabled ∙ e in
          record {
            nodes = next_node g.nodes rest;
            here = tree_kept second loop.is_node labels bytes n g.nodes rest g.here h zero-given;
            walks =
                sym (walk_step (tree_tests second kind labels) next_node n g.nodes rest h zero-given (tree_long second kind labels g.nodes rest h zero-given)) ∙ g.walks;
          }

  pub tree_refused : {limit : ℕ} → limit ≡ tree_limit kind → length bytes ≤ limit → 0 < length rest → (r ≡ 0 → ⊥) → (labels : List Label) → Tabled labels classes
      → record { number = r; input = 3; place = n } ≡ tree_refusal second labels bytes
  tree_refused {limit} q within h e labels tabled = go r refl
    where
      q' : limit ≡ tree_limit kind
      q' = q

      go : (m : ℕ) → r ≡ m → record { number = r; input = 3; place = n } ≡ tree_refusal second labels bytes
      go zero q = absurd (e q)
      go (suc m) q =
          let g = loop.going labels tabled in
          ap (λ (k : ℕ). record { number = k; input = 3; place = n }) q
          ∙ refused_by second labels bytes m n g.nodes (limit_in loop q' within)
          (sym g.walks ∙ walk_stop (tree_tests second kind labels) next_node n m g.nodes rest h (tests_given labels tabled ∙ q))

pub tree_sound : {second : Bool} {kind : ℕ} {classes bytes : List ℕ} {n : ℕ} {rest : List ℕ} → TreeLoop second kind classes bytes n rest → {limit : ℕ} → limit ≡ tree_limit kind
    → length bytes ≤ limit → 0 < length bytes
    → length rest ≤ 0 → (labels : List Label) → Tabled labels classes → sound ≡ tree_refusal second labels bytes
tree_sound {second = second} {kind = kind} {bytes = bytes} {n = n} {rest = []} loop q within some none labels tabled =
    let g = loop.going labels tabled in
    sound_by second labels bytes n g.nodes (limit_in loop q within) some (sym g.walks ∙ walk_end (tree_tests second kind labels) next_node n g.nodes)
tree_sound {rest = b ∷ rest} loop q within some none labels tabled = absurd (omega arith)

pub tree_over : (second : Bool) (labels : List Label) (bytes : List ℕ) {kind limit : ℕ} → kind ≡ node_kind_in bytes → limit ≡ tree_limit kind → limit < length bytes → record { number = 7; input = 3; place = 0 } ≡ tree_refusal second labels bytes
unfolding tree_refusal first_refusal oversize
tree_over second labels bytes e q h = rw (lt-ltb (tree_limit (node_kind_in bytes)) (length bytes) (subst (λ (k : ℕ). k < length bytes) (q ∙ ap tree_limit e) h))

pub tree_empty : (second : Bool) (labels : List Label) (bytes : List ℕ) → length bytes ≡ 0 → record { number = 8; input = 3; place = 0 } ≡ tree_refusal second labels bytes
unfolding tree_refusal first_refusal oversize tree_walked walk is_empty node_kind_in tree_limit
tree_empty second labels [] e = refl
tree_empty second labels (b ∷ l) e = absurd (omega arith)

-- the limit, return by return
pub limit_wide : (kind : ℕ) → kind ≡ 5 → 45056 ≡ tree_limit kind
unfolding tree_limit
limit_wide kind e = rw e

pub limit_other : (kind : ℕ) → (kind ≡ 5 → ⊥) → 36864 ≡ tree_limit kind
unfolding tree_limit
limit_other kind n = rw (ne_eqb kind 5 n)
