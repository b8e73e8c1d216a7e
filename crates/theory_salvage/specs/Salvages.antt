-- Salvage: what comes out is a tree file, a sound file comes out the same, and salvaging twice changes nothing more.
use Prim.Native.Nat.{ℕ, zero, suc, ◌+◌, ◌*◌, ◌/◌, ◌%◌, ◌-◌, ◌^◌, ◌<◌, ◌≤◌}
use Rattle.std.specs.Prelude.{◌≡◌, Bool, true, false, not, eqb, get_or, drop}
use Rattle.std.proofs.Math.Path.{refl, ap, ap₂, subst}
use Rattle.std.proofs.Common.{sym, ◌∙◌, mul-le-mul_left, pow-suc, eqb-true, eq-eqb, ltb-true, le-leb}
use Rattle.std.proofs.Math.Bool.{cond}
use mathlib.Core.List.{List, [], ◌∷◌, ◌++◌, map, flatten, append-nil}
use native.Mathlib.Omega.{arith}
use Rattle.std.proofs.Math.Decide.{dec_lt}
use Rattle.std.proofs.Math.Nat.{pow-zero}
use Rattle.std.proofs.lemmas.Bool.{not-false}
use Rattle.std.proofs.Math.ListN.{length, length-drop}
use Rattle.meaning.specs.Limits.{no_number}
use Rattle.meaning.specs.Lists.{Each, end, also, is_empty, numbers}
use Rattle.meaning.specs.Paths.{Label, class_of, singles}
use Rattle.meaning.specs.Trees.{Node}
use Rattle.meaning.specs.Records.{word_bytes, number, number_bytes, value_bytes, record_length, record_kind, record_body, record_bytes, read_node, node_bytes}
use Rattle.meaning.specs.Refusals.{Refusal, sound, first_of, walk, whole, good_root, good_below, repeated, node_kind_in, tree_limit, tree_tests, tree_walked, nodes_in, tree_refusal}
use Rattle.meaning.specs.Salvage.{Salvaged, nothing_yet, moved, drop_tests, keep_or_drop, salvage_next, salvage_tests, salvage_walked, salvaged_nodes, salvaged_tree, salvage_refusal, reasons_in, drop_lines}
use Rattle.theory_records.specs.Tests.{both, never, first_none, first_fails, not_holds}
use Rattle.theory_records.specs.Bytes.{Bytes, bytes_drop, bytes_at}
use Rattle.theory_records.specs.Heads.{Whole, whole_says}
use Rattle.theory_records.specs.Encodings.{IsNodeKind, bytes_body, ends_node}
use Rattle.theory_records.specs.Walks.{Stopped, walk_keeps}
use Rattle.theory_records.specs.Judged.{node_accepted, some_empty}
use Rattle.theory_records.specs.Profiles.{refusal_none, length_more, within_size, each_more}
use Rattle.theory_records.specs.TreeFiles.{stride, stride_least, TreeAt, node_length, root_says, kind_in, tree_written}
use Rattle.theory_records.specs.Written.{NodeFits}
use Rattle.theory_records.specs.WrittenInputs.{tree_written_sound, nodes_in_written}
use Rattle.theory_salvage.specs.Slots.{body_tests, slot_more, slot_none}

pub whole_holds : (l : List ℕ) → Whole l → whole l ≡ true
unfolding whole
whole_holds l w = rw (le-leb 4 (length l) w.head, le-leb 4 (record_length l) w.long, le-leb (record_length l) (length l) w.within) w.ends

-- Two walks side by side: where the one passes, so does the other
module _ {S R : Type 0} (tests : S → List ℕ → List (ℕ × Bool)) (next : S → List ℕ → S) (tests' : R → List ℕ → List (ℕ × Bool)) (next' : R → List ℕ → R)
    (Same : S → R → Type 0)
    (along : (s : S) (r : R) (l : List ℕ) → Same s r → 0 < length l → first_of (tests s l) ≡ 0
    → (first_of (tests' r l) ≡ 0) × Same (next s l) (next' r l)) where
  pub walk_along : (k n : ℕ) (s : S) (r : R) (l : List ℕ) → Same s r → (walk tests next k n s l).number ≡ 0
      → ((walk tests' next' k n r l).number ≡ 0) × Same (walk tests next k n s l).state (walk tests' next' k n r l).state
  unfolding walk
  walk_along zero n s r [] h e = (refl, h)
  walk_along (suc k) n s r [] h e = (refl, h)
  walk_along (suc k) n s r (b ∷ l) h e = walk_along k n s r l h e
  walk_along zero n s r (b ∷ l) h e =
      go (first_of (tests s (b ∷ l))) refl
      (λ q f. walk_along (record_length (b ∷ l) - 1) (suc n) (next s (b ∷ l)) (next' r (b ∷ l)) l (along s r (b ∷ l) h (omega arith) q).1 f)
    where
      go : (m : ℕ) → first_of (tests s (b ∷ l)) ≡ m
          → ((q : first_of (tests s (b ∷ l)) ≡ 0) → (walk tests next (record_length (b ∷ l) - 1) (suc n) (next s (b ∷ l)) l).number ≡ 0
          → ((walk tests' next' (record_length (b ∷ l) - 1) (suc n) (next' r (b ∷ l)) l).number ≡ 0)
          × Same (walk tests next (record_length (b ∷ l) - 1) (suc n) (next s (b ∷ l)) l).state (walk tests' next' (record_length (b ∷ l) - 1) (suc n) (next' r (b ∷ l)) l).state)
          → ((walk tests' next' 0 n r (b ∷ l)).number ≡ 0) × Same (walk tests next 0 n s (b ∷ l)).state (walk tests' next' 0 n r (b ∷ l)).state
      go zero q more =
          let a = along s r (b ∷ l) h (omega arith) q in
          rw (walk, q, a.0) (more q (rw (walk, q) at e))
      go (suc m) q more = absurd (let f : suc m ≡ 0 = rw (walk, q) at e in omega arith)

-- reasons of kept records alone
unfoldable pub Zeros : List ℕ → Type 0
Zeros rs = Each (λ (r : ℕ). r ≡ 0) rs

zeros_more : (rs : List ℕ) → Zeros rs → Zeros (rs ++ (0 ∷ []))
unfolding Zeros
zeros_more [] end = also refl end
zeros_more (r ∷ rs) (also e z) = also e (zeros_more rs z)

zeros_lines : (n : ℕ) (rs : List ℕ) → Zeros rs → drop_lines n rs ≡ []
unfolding Zeros drop_lines
zeros_lines n [] end = refl
zeros_lines n (r ∷ rs) (also e z) = rw (eq-eqb r 0 e) (zeros_lines (suc n) rs z)

pub numbers_more : (k n : ℕ) → numbers k n ++ ((n + k) ∷ []) ≡ numbers (suc k) n
unfolding numbers
numbers_more zero n = ap (λ (m : ℕ). m ∷ []) (omega arith)
numbers_more (suc k) n =
    let e : n + suc k ≡ suc n + k = omega arith in
    ap (λ (l : List ℕ). n ∷ l) (ap (λ (m : ℕ). numbers k (suc n) ++ (m ∷ [])) e ∙ numbers_more k (suc n))

pub numbers_at : (k n i d : ℕ) → i < k → get_or (numbers k n) i d ≡ n + i
unfolding numbers
numbers_at zero n i d h = absurd (omega arith)
numbers_at (suc k) n zero d h = omega arith
numbers_at (suc k) n (suc i) d h = numbers_at k (suc n) i d (omega arith) ∙ (omega arith)

-- After the same records: the same nodes, each under its own number, nothing dropped
pub record Alike (nodes : List Node) (s : Salvaged) : Type 0 where
  pub are : s.nodes ≡ nodes
  pub places : s.places ≡ numbers (length nodes) 0
  pub none : Zeros s.reasons

-- what is whole
pub only_whole : (s : Salvaged) (l : List ℕ) → first_of (salvage_tests s l) ≡ 0 → Whole l
unfolding salvage_tests
only_whole s l e = whole_says l (not-false _ (first_none _ _ _ e).0)

pub only_long : (s : Salvaged) (l : List ℕ) → 0 < length l → first_of (salvage_tests s l) ≡ 0 → 1 ≤ record_length l
only_long s l h e = let w = (only_whole s l e).long in omega arith

pub whole_only : (s : Salvaged) (l : List ℕ) → whole l ≡ true → first_of (salvage_tests s l) ≡ 0
unfolding salvage_tests first_of
whole_only s l e = rw e

module _ (second : Bool) (labels : List Label) (kind : ℕ) where
  moved_same : (nodes : List Node) (n : Node) → cond (is_empty nodes) (good_root n) (good_below labels nodes n) ≡ true
      → moved (numbers (length nodes) 0) n ≡ n
  unfolding is_empty moved numbers good_below
  moved_same [] n e = let r = root_says n e in ap (λ (k : ℕ). record { parent = k; label = n.label; value = n.value }) (sym r.0)
  moved_same (x ∷ nodes) n e =
      let a = (both _ _ (both _ _ (both _ _ e).0).0).0 in
      ap (λ (k : ℕ). record { parent = k; label = n.label; value = n.value })
      (numbers_at (length (x ∷ nodes)) 0 n.parent no_number (ltb-true _ _ a) ∙ (omega arith))

  numbers_empty : (nodes : List Node) → is_empty (numbers (length nodes) 0) ≡ is_empty nodes
  unfolding is_empty numbers
  numbers_empty [] = refl
  numbers_empty (x ∷ nodes) = refl

  pub tests_pass : (nodes : List Node) (s : Salvaged) (l : List ℕ) → Alike nodes s → record_kind l ≡ kind
      → cond (is_empty nodes) (good_root (read_node (record_body l))) (good_below labels nodes (read_node (record_body l))) ≡ true
      → repeated (singles second (class_of labels)) nodes (read_node (record_body l)) ≡ false → first_of (drop_tests second kind labels s l) ≡ 0
  unfolding drop_tests first_of
  tests_pass nodes s l h k g o =
      rw (eq-eqb (record_kind l) kind k, h.are, h.places, numbers_empty nodes, moved_same nodes (read_node (record_body l)) g, g, o)

  along : (nodes : List Node) (s : Salvaged) (l : List ℕ) → Alike nodes s → 0 < length l → first_of (tree_tests second kind labels nodes l) ≡ 0
      → (first_of (salvage_tests s l) ≡ 0) × Alike (nodes ++ (read_node (record_body l) ∷ [])) (salvage_next second kind labels s l)
  unfolding salvage_next keep_or_drop
  along nodes s l h some e =
      let a = node_accepted second kind labels nodes l e in
      let t = tests_pass nodes s l h a.is_kind a.good a.once in
      let same = moved_same nodes (read_node (record_body l)) a.good in (
        whole_only s l (whole_holds l a.is_whole),
        rw (t) (record {
          are = ap₂ (λ (xs : List Node) (x : Node). xs ++ (x ∷ [])) h.are (ap (λ (ps : List ℕ). moved ps (read_node (record_body l))) h.places ∙ same);
          places = ap₂ (λ (ps : List ℕ) (k : ℕ). ps ++ (k ∷ [])) h.places (ap length h.are)
              ∙ (let m : 0 + length nodes ≡ length nodes = omega arith in ap (λ (k : ℕ). numbers (length nodes) 0 ++ (k ∷ [])) (sym m))
              ∙ numbers_more (length nodes) 0 ∙ ap (λ (k : ℕ). numbers k 0) (sym (length_more nodes (read_node (record_body l))));
          none = zeros_more s.reasons h.none;
        }),
      )

-- "A sound file comes out the same, with an empty list"
pub sound_same : (second : Bool) (labels : List Label) (bytes : List ℕ) → Bytes bytes → (tree_refusal second labels bytes).number ≡ 0
    → (salvaged_tree second labels bytes ≡ bytes) × (drop_lines 0 (reasons_in second labels bytes) ≡ [])
unfolding tree_refusal tree_walked nodes_in salvaged_tree salvaged_nodes salvage_walked reasons_in
sound_same second labels bytes small e =
    let one = refusal_none _ _ e in
    let two = refusal_none _ _ one.1 in
    let kind : ℕ = node_kind_in bytes in
    let w =
    walk_along (tree_tests second kind labels) (λ (nodes : List Node) (l : List ℕ). nodes ++ (read_node (record_body l) ∷ [])) salvage_tests (salvage_next second kind labels)
    Alike (along second labels kind) 0 0 []
    nothing_yet bytes (record { are = refl; places = unfold numbers in refl; none = unfold Zeros in end }) two.0 in (
      ap (λ (nodes : List Node). flatten (map (node_bytes kind) nodes)) w.1.are ∙ tree_written second labels bytes small e,
      rw w.0 (ap (drop_lines 0) (append-nil _) ∙ zeros_lines 0 _ w.1.none),
    )

-- What holds of the nodes kept so far: written one behind the other they are a tree
pub record SalvageAt (second : Bool) (kind : ℕ) (labels : List Label) (bytes : List ℕ) (n : ℕ) (s : Salvaged) (rest : List ℕ) : Type 0 where
  pub at : TreeAt second kind labels (flatten (map (node_bytes kind) s.nodes)) (length s.nodes) s.nodes []
  pub fits : Each (NodeFits kind) s.nodes
  pub labelled : Each (λ (x : Node). x.label < 256) s.nodes
  pub rooted : is_empty s.places ≡ true → s.nodes ≡ []
  pub low : Each (λ (k : ℕ). k < 65536) s.places
  pub room : stride kind * length s.nodes + length rest ≤ length bytes
  pub size : length bytes ≤ stride kind * 4096
  pub small : Bytes rest

-- before the first record
pub salvage_none : (second : Bool) (kind : ℕ) (labels : List Label) (bytes : List ℕ) → Bytes bytes → length bytes ≤ stride kind * 4096
    → SalvageAt second kind labels bytes 0 nothing_yet bytes
salvage_none second kind labels bytes small size =
    record {
      at = slot_none second kind labels;
      fits = end;
      labelled = end;
      rooted = λ z. refl;
      low = end;
      room = omega arith;
      size = size;
      small = small;
    }

-- the bytes of nodes whose labels are bytes
bytes_append : {xs ys : List ℕ} → Bytes xs → Bytes ys → Bytes (xs ++ ys)
bytes_append end b = b
bytes_append (also h a) b = also h (bytes_append a b)

low_byte : (n : ℕ) → n % 256 < 256
low_byte n = omega arith

word_bytes_lem : (n : ℕ) → Bytes (word_bytes n)
unfolding word_bytes
word_bytes_lem n = also (low_byte n) (also (low_byte (n / 256)) end)

value_bytes_lem : (width n : ℕ) → Bytes (number_bytes width n)
unfolding number_bytes
value_bytes_lem zero n = end
value_bytes_lem (suc width) n = also (low_byte n) (value_bytes_lem width (n / 256))

node_bytes_lem : (kind : ℕ) (n : Node) → n.label < 256 → Bytes (node_bytes kind n)
unfolding node_bytes record_bytes
node_bytes_lem kind n h =
    bytes_append (word_bytes_lem _) (bytes_append (word_bytes_lem kind) (bytes_append (word_bytes_lem n.parent) (also h (value_bytes_lem (value_bytes kind) n.value))))

nodes_bytes : (kind : ℕ) (nodes : List Node) → Each (λ (x : Node). x.label < 256) nodes → Bytes (flatten (map (node_bytes kind) nodes))
unfolding flatten
nodes_bytes kind [] end = end
nodes_bytes kind (x ∷ nodes) (also h hs) = bytes_append (node_bytes_lem kind x h) (nodes_bytes kind nodes hs)

low_at : (l : List ℕ) (i d : ℕ) → Each (λ (k : ℕ). k < 65536) l → d < 65536 → get_or l i d < 65536
low_at [] i d end h = h
low_at (x ∷ l) zero d (also p w) h = p
low_at (x ∷ l) (suc i) d (also p w) h = low_at l i d w h

number_low : (l : List ℕ) → Bytes l → number l < 256 ^ length l
unfolding number
number_low [] end = let p = pow-zero 256 in omega arith
number_low (b ∷ l) (also h bs) = let p = pow-suc 256 (length l) in let m = number_low l bs in omega arith

pub more_some : {A : Type 0} (l : List A) (x : A) → is_empty (l ++ (x ∷ [])) ≡ false
unfolding is_empty
more_some [] x = refl
more_some (y ∷ l) x = refl

-- so many records of w bytes fit where one more does
few_more : (w n m : ℕ) → 0 < w → w * n + w ≤ w * m → n < m
few_more w n m some h = go (dec_lt n m)
  where
    go : Dec (n < m) → n < m
    go (yes z) = z
    go (no z) = let k = mul-le-mul_left w (let q : m ≤ n = omega arith in q) in absurd (omega arith)

-- what a kept record has passed
pub record Passed (second : Bool) (kind : ℕ) (labels : List Label) (s : Salvaged) (l : List ℕ) : Type 0 where
  pub is_kind : record_kind l ≡ kind
  pub good : cond (is_empty s.places) (good_root (read_node (record_body l))) (good_below labels s.nodes (moved s.places (read_node (record_body l)))) ≡ true
  pub once : repeated (singles second (class_of labels)) s.nodes (moved s.places (read_node (record_body l))) ≡ false

pub passes : (second : Bool) (kind : ℕ) (labels : List Label) (s : Salvaged) (l : List ℕ) → first_of (drop_tests second kind labels s l) ≡ 0 → Passed second kind labels s l
unfolding drop_tests
passes second kind labels s l e =
    let two = first_none _ _ _ e in
    let eight = first_none _ _ _ two.1 in
    let sixteen = first_none _ _ _ eight.1 in
    record { is_kind = eqb-true _ _ (not-false _ two.0); good = not-false _ eight.0; once = sixteen.0 }

-- the root's parent stays
pub moved_root : (n : Node) → good_root n ≡ true → moved [] n ≡ n
unfolding moved
moved_root n e = ap (λ (k : ℕ). record { parent = k; label = n.label; value = n.value }) (sym (root_says n e).0)

-- a record of the kind is judged as its node with the new parent behind those kept, where the root is one
pub moved_tests : (second : Bool) (kind : ℕ) (labels : List Label) (s : Salvaged) (l : List ℕ) → record_kind l ≡ kind
    → (is_empty s.places ≡ true → (s.nodes ≡ []) × (good_root (read_node (record_body l)) ≡ true))
    → (is_empty s.places ≡ false → is_empty s.nodes ≡ false)
    → first_of (drop_tests second kind labels s l) ≡ first_of (body_tests second labels s.nodes (moved s.places (read_node (record_body l))))
unfolding drop_tests body_tests
moved_tests second kind labels s l k none some =
    first_fails 2 _ (not_holds (eq-eqb (record_kind l) kind k))
    ∙ ap (λ (b : Bool). first_of ((8, not b) ∷ (16, repeated (singles second (class_of labels)) s.nodes (moved s.places n)) ∷ []))
    (same s.places s.nodes none some)
  where
    n : Node
    n = read_node (record_body l)

    same : (places : List ℕ) (nodes : List Node) → (is_empty places ≡ true → (nodes ≡ []) × (good_root n ≡ true)) → (is_empty places ≡ false → is_empty nodes ≡ false)
        → cond (is_empty places) (good_root n) (good_below labels nodes (moved places n)) ≡ cond (is_empty nodes) (good_root (moved places n)) (good_below labels nodes (moved places n))
    same [] nodes f g =
        let h = f (unfold is_empty in refl) in
        unfold is_empty in
        (sym (ap good_root (moved_root n h.1))
        ∙ subst (λ (xs : List Node). good_root (moved [] n) ≡ cond (is_empty xs) (good_root (moved [] n)) (good_below labels xs (moved [] n))) (sym h.0) (unfold is_empty in refl))
    same (p ∷ places) nodes f g = let h = g (unfold is_empty in refl) in unfold is_empty in (rw h)

pub below_some : (labels : List Label) (nodes : List Node) (x : Node) → good_below labels nodes x ≡ true → is_empty nodes ≡ false
unfolding good_below
below_some labels nodes x e = some_empty nodes (let h = ltb-true x.parent (length nodes) (both _ _ (both _ _ (both _ _ e).0).0).0 in omega arith)

module _ (second : Bool) {kind : ℕ} (is_node : IsNodeKind kind) (labels : List Label) (bytes : List ℕ) where
  -- the node that is put behind those kept is good among them
  pub kept_passes : (n : ℕ) (s : Salvaged) (l : List ℕ) → SalvageAt second kind labels bytes n s l → first_of (drop_tests second kind labels s l) ≡ 0
      → first_of (body_tests second labels s.nodes (moved s.places (read_node (record_body l)))) ≡ 0
  kept_passes n s l g e =
      let a = passes second kind labels s l e in
      sym (moved_tests second kind labels s l a.is_kind
      (λ z. (g.rooted z, subst (λ (b : Bool). cond b (good_root (read_node (record_body l))) (good_below labels s.nodes (moved s.places (read_node (record_body l)))) ≡ true) z a.good))
      (λ z.
      below_some labels s.nodes _
      (subst (λ (b : Bool). cond b (good_root (read_node (record_body l))) (good_below labels s.nodes (moved s.places (read_node (record_body l)))) ≡ true) z a.good)))
      ∙ e

  -- a node of the kind fits its bytes
  pub moved_fits : (n : ℕ) (s : Salvaged) (l : List ℕ) → SalvageAt second kind labels bytes n s l → Whole l → record_kind l ≡ kind
      → NodeFits kind (moved s.places (read_node (record_body l)))
  unfolding moved read_node
  moved_fits n s l g w k =
      record {
        parent = low_at s.places (read_node (record_body l)).parent no_number g.low (omega arith);
        value =
            subst (λ (m : ℕ). number (drop 3 (record_body l)) < 256 ^ m)
            (let e = ends_node is_node l w k in let d = length-drop 3 (record_body l) in omega arith)
            (number_low (drop 3 (record_body l)) (bytes_drop 3 (bytes_body l g.small)));
      }

  pub room_more : (n : ℕ) (s : Salvaged) (l : List ℕ) → SalvageAt second kind labels bytes n s l → Whole l → record_kind l ≡ kind → length s.nodes < 4096
  room_more n s l g w k =
      let long = node_length is_node l w k in
      let within = w.within in
      let r = g.room in
      let z = g.size in
      let least = stride_least kind in
      few_more (stride kind) (length s.nodes) 4096 (omega arith) (omega arith)

  pub salvage_kept : (n : ℕ) (s : Salvaged) (l : List ℕ) → SalvageAt second kind labels bytes n s l → 0 < length l → first_of (salvage_tests s l) ≡ 0
      → SalvageAt second kind labels bytes (suc n) (salvage_next second kind labels s l) (drop (record_length l) l)
  unfolding salvage_next keep_or_drop
  salvage_kept n s l g h e = go (first_of (drop_tests second kind labels s l)) refl
    where
      is_whole_lem : Whole l
      is_whole_lem = only_whole s l e

      x : Node
      x = moved s.places (read_node (record_body l))

      go : (r : ℕ) → first_of (drop_tests second kind labels s l) ≡ r → SalvageAt second kind labels bytes (suc n) (keep_or_drop r s x) (drop (record_length l) l)
      go zero q =
          let a = passes second kind labels s l q in
          let long : record_length l ≡ stride kind = node_length is_node l is_whole_lem a.is_kind in
          let within = is_whole_lem.within in
          let m = length_more s.nodes x in
          let d = length-drop (record_length l) l in
          let r = g.room in
          let fits = moved_fits n s l g is_whole_lem a.is_kind in
          let room = room_more n s l g is_whole_lem a.is_kind in
          record {
            at = slot_more second is_node labels s.nodes x fits room g.at (kept_passes n s l g q);
            fits = each_more g.fits fits;
            labelled = each_more g.labelled (unfold moved read_node in bytes_at (bytes_body l g.small) 2);
            rooted = λ z. absurd (never _ z (more_some s.places (length s.nodes)));
            low = each_more g.low (omega arith);
            room = fit (stride kind) (length s.nodes) (length (s.nodes ++ (x ∷ []))) (length (drop (record_length l) l)) m (omega arith);
            size = g.size;
            small = bytes_drop (record_length l) g.small;
          }
        where
          fit : (w a b r : ℕ) → b ≡ suc a → w * a + w + r ≤ length bytes → w * b + r ≤ length bytes
          fit w a b r e h = subst (λ (k : ℕ). w * k + r ≤ length bytes) (sym e) (let q : w * suc a ≡ w * a + w = omega arith in omega arith)
      go (suc r) q =
          let d = length-drop (record_length l) l in
          let r = g.room in
          record {
            at = g.at;
            fits = g.fits;
            labelled = g.labelled;
            rooted = λ z. absurd (never _ z (more_some s.places no_number));
            low = each_more g.low (omega arith);
            room = omega arith;
            size = g.size;
            small = bytes_drop (record_length l) g.small;
          }

-- "still 4,096 nodes": they fill the limit of either kind
pub limit_nodes : (kind : ℕ) → tree_limit kind ≡ stride kind * 4096
unfolding tree_limit stride value_bytes
limit_nodes kind = go (eqb kind 5)
  where
    go : (b : Bool) → cond b 45056 36864 ≡ (7 + cond b 4 2) * 4096
    go true = refl
    go false = refl

module _ (second : Bool) (labels : List Label) (bytes : List ℕ) where
  -- where the walk stops
  pub salvage_stop : Bytes bytes → length bytes ≤ stride (node_kind_in bytes) * 4096
      → Stopped salvage_tests (SalvageAt second (node_kind_in bytes) labels bytes) (salvage_walked second labels bytes)
  unfolding salvage_walked
  salvage_stop small size =
      walk_keeps salvage_tests (salvage_next second (node_kind_in bytes) labels) (SalvageAt second (node_kind_in bytes) labels bytes)
      only_long (salvage_kept second (kind_in bytes) labels bytes) 0 nothing_yet bytes (salvage_none second (node_kind_in bytes) labels bytes small size)

  pub salvage_size : (salvage_refusal second labels bytes).number ≡ 0 → length bytes ≤ stride (node_kind_in bytes) * 4096
  unfolding salvage_refusal
  salvage_size e = subst (λ (k : ℕ). length bytes ≤ k) (limit_nodes (node_kind_in bytes)) (within_size 3 (tree_limit (node_kind_in bytes)) bytes (refusal_none _ _ e).0)

  -- a root is left
  pub salvage_some : (salvage_refusal second labels bytes).number ≡ 0 → 0 < length (salvaged_nodes second labels bytes)
  unfolding salvage_refusal is_empty
  salvage_some e = some (salvaged_nodes second labels bytes) (refusal_none _ _ (refusal_none _ _ e).1).0
    where
      some : (nodes : List Node) → (cond (is_empty nodes) (record { number = 8; input = 3; place = 0 }) sound).number ≡ 0 → 0 < length nodes
      some [] f = absurd (omega arith)
      some (x ∷ nodes) f = omega arith

  -- what comes out is a tree file, and says the nodes kept
  pub salvaged_good : Bytes bytes → (salvage_refusal second labels bytes).number ≡ 0
      → ((tree_refusal second labels (salvaged_tree second labels bytes)).number ≡ 0)
      × (nodes_in second labels (salvaged_tree second labels bytes) ≡ salvaged_nodes second labels bytes)
  unfolding salvaged_tree salvaged_nodes
  salvaged_good small e =
      let w = salvage_stop small (salvage_size e) in
      let nodes = salvaged_nodes second labels bytes in
      let some = salvage_some e in (
        ap (λ (x : Refusal). x.number)
            (tree_written_sound labels second (kind_in bytes) nodes w.held.at.good w.held.at.once w.held.fits w.held.at.few some),
        nodes_in_written labels second (kind_in bytes) nodes w.held.at.good w.held.at.once w.held.fits w.held.at.few some,
      )

  -- what comes out are bytes
  pub salvaged_bytes : Bytes bytes → (salvage_refusal second labels bytes).number ≡ 0 → Bytes (salvaged_tree second labels bytes)
  unfolding salvaged_tree salvaged_nodes
  salvaged_bytes small e = nodes_bytes (node_kind_in bytes) (salvaged_nodes second labels bytes) (salvage_stop small (salvage_size e)).held.labelled

  -- "salvaging twice changes nothing more"
  pub twice : Bytes bytes → (salvage_refusal second labels bytes).number ≡ 0
      → (salvaged_tree second labels (salvaged_tree second labels bytes) ≡ salvaged_tree second labels bytes)
      × (drop_lines 0 (reasons_in second labels (salvaged_tree second labels bytes)) ≡ [])
  twice small e = sound_same second labels (salvaged_tree second labels bytes) (salvaged_bytes small e) (salvaged_good small e).0
