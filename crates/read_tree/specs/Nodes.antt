-- A node record judged by the class table and the bytes of the nodes before it, return by return; and the same by the labels.
use Prim.Native.Nat.{ℕ, zero, suc, ◌+◌, ◌*◌, ◌-◌, ◌≤◌, ◌<◌}
use Rattle.std.specs.Prelude.{◌≡◌, Bool, true, false, cond, ◌&&◌, ◌||◌, not, ltb, eqb, length, get_or, take, drop}
use Rattle.std.proofs.Math.Path.{sym, ap, ap₂}
use Rattle.std.proofs.Common.{subst, ◌∙◌, mul-le-mul_left, add-one}
use mathlib.Core.List.{List, [], ◌∷◌}
use native.Mathlib.Omega.{arith}
use borrow.Author.Tests.{lt-ltb, le-ltb, eq-eqb, ne_eqb, not-true, not-false}
use Rattle.meaning.specs.Paths.{is_element, is_attribute}
use Rattle.meaning.specs.Trees.{Node}
use Rattle.meaning.specs.Records.{word, record_length, record_kind, record_body, value_bytes, read_node}
use Rattle.meaning.specs.Refusals.{first_of, too_many, whole, good_root}
use Rattle.read_record.specs.Classes.{class_by, is_label_by}
use Rattle.theory_records.specs.Tests.{first_holds, first_fails, not_holds, not_fails}
use Rattle.theory_records.specs.HeadTests.{head_tests, head_many, head_torn, head_other, head_more, body_part}
use Rattle.theory_records.specs.Heads.{whole_says}
use Rattle.theory_records.specs.Encodings.{IsNodeKind, value_small, ends_node}
use Rattle.theory_records.specs.TreeFiles.{stride}

-- 8 of a node below the root: the parent's label stands in the parent's record, w bytes to a record
unfoldable pub good_below_by : ℕ → List ℕ → List ℕ → ℕ → Node → Bool
good_below_by w classes bytes n x =
    ltb x.parent n && is_element (class_by classes (get_or bytes (w * x.parent + 6) 0)) && is_label_by classes x.label
    && (not (is_element (class_by classes x.label)) || eqb x.value 0)

unfoldable pub good_node_by : ℕ → List ℕ → List ℕ → ℕ → Node → Bool
good_node_by w classes bytes n x = cond (eqb n 0) (good_root x) (good_below_by w classes bytes n x)

-- one of so many numbers from i on passes the test
unfoldable pub scan : (ℕ → Bool) → ℕ → ℕ → Bool
scan f zero i = false
scan f (suc left) i = f i || scan f left (suc i)

-- 16: a node of the parent, so one behind it, has the name
unfoldable pub is_twin : ℕ → List ℕ → ℕ → ℕ → ℕ → Bool
is_twin w bytes p k i = eqb (word bytes (w * i + 4)) p && eqb (get_or bytes (w * i + 6) 0) k

unfoldable pub repeated_by : ℕ → Bool → List ℕ → List ℕ → ℕ → Node → Bool
repeated_by w second classes bytes n x =
    second && is_attribute (class_by classes x.label) && scan (is_twin w bytes x.parent x.label) (n - suc x.parent) (suc x.parent)

unfoldable pub body_tests_by : ℕ → Bool → List ℕ → List ℕ → ℕ → Node → List (ℕ × Bool)
body_tests_by w second classes bytes n x = (8, not (good_node_by w classes bytes n x)) ∷ (16, repeated_by w second classes bytes n x) ∷ []

-- the tests of node n, which stands at the front of l
unfoldable pub node_tests_by : Bool → ℕ → List ℕ → List ℕ → ℕ → List ℕ → List (ℕ × Bool)
node_tests_by second kind classes bytes n l = head_tests kind 4096 n l (body_tests_by (stride kind) second classes bytes n (read_node (record_body l)))

-- A node below the root, return by return: p is the parent's number as the code has it
module _ (w : ℕ) (classes bytes : List ℕ) (n : ℕ) (x : Node) {p : ℕ} (e : p ≡ x.parent) where
  pub below_order : n ≤ p → false ≡ good_below_by w classes bytes n x
  unfolding good_below_by
  below_order h = rw (le-ltb x.parent n (omega arith))

  module _ (h : p < n) {y : ℕ} (its : y ≡ get_or bytes (w * p + 6) 0) {a : Bool} (above : a ≡ is_element (class_by classes y)) where
    inside : {b : Bool} → a ≡ b → is_element (class_by classes (get_or bytes (w * x.parent + 6) 0)) ≡ b
    inside t =
        sym (ap (λ (k : ℕ). is_element (class_by classes k)) (its ∙ ap (λ (k : ℕ). get_or bytes (w * k + 6) 0) e)) ∙ (sym above ∙ t)

    pub below_parent : not a ≡ true → false ≡ good_below_by w classes bytes n x
    unfolding good_below_by
    below_parent t = rw (lt-ltb x.parent n (omega arith), inside (not-true _ t))

    module _ (t : not a ≡ false) {l : ℕ} (label : l ≡ x.label) {k : Bool} (is_known : k ≡ is_label_by classes l) where
      known : k ≡ is_label_by classes x.label
      known = is_known ∙ ap (is_label_by classes) label

      pub below_label : not k ≡ true → false ≡ good_below_by w classes bytes n x
      unfolding good_below_by
      below_label u = rw (lt-ltb x.parent n (omega arith), inside (not-false _ t), sym known ∙ not-true _ u)

      module _ (u : not k ≡ false) {v : Bool} (is_elem : v ≡ is_element (class_by classes l)) where
        kind : v ≡ is_element (class_by classes x.label)
        kind = is_elem ∙ ap (λ (m : ℕ). is_element (class_by classes m)) label

        pub below_leaf : not v ≡ true → true ≡ good_below_by w classes bytes n x
        unfolding good_below_by
        below_leaf q = rw (lt-ltb x.parent n (omega arith), inside (not-false _ t), sym known ∙ not-false _ u, sym kind ∙ not-true _ q)

        pub below_value : not v ≡ false → {y : ℕ} → y ≡ x.value → eqb y 0 ≡ good_below_by w classes bytes n x
        unfolding good_below_by
        below_value z q =
            rw (lt-ltb x.parent n (omega arith), inside (not-false _ t), sym known ∙ not-false _ u, sym kind ∙ not-false _ z, ← q)

-- The root, return by return
module _ (x : Node) {p : ℕ} (e : p ≡ x.parent) where
  pub root_parent : (p ≡ 65535 → ⊥) → false ≡ good_root x
  unfolding good_root
  root_parent h = rw (ne_eqb x.parent 65535 (λ q. h (e ∙ q)))

  module _ (h : p ≡ 65535) {k : ℕ} (q : k ≡ x.label) where
    pub root_label : (k ≡ 203 → ⊥) → false ≡ good_root x
    unfolding good_root
    root_label g = rw (eq-eqb x.parent 65535 (sym e ∙ h), ne_eqb x.label 203 (λ u. g (q ∙ u)))

    pub root_value : k ≡ 203 → {v : ℕ} → v ≡ x.value → eqb v 0 ≡ good_root x
    unfolding good_root
    root_value g u = rw (eq-eqb x.parent 65535 (sym e ∙ h), eq-eqb x.label 203 (sym q ∙ g), u)

-- The tests of a node record, return by return
module _ (second : Bool) (kind : ℕ) (classes bytes : List ℕ) (n : ℕ) (l : List ℕ) {a : Bool} (many : a ≡ too_many kind 4096 n l) where
  pub node_many : a ≡ true → 7 ≡ first_of (node_tests_by second kind classes bytes n l)
  unfolding node_tests_by
  node_many t = head_many kind 4096 n l _ many t

  module _ (t : a ≡ false) {b : Bool} (is_whole : b ≡ whole l) where
    pub node_torn : not b ≡ true → 1 ≡ first_of (node_tests_by second kind classes bytes n l)
    unfolding node_tests_by
    node_torn u = head_torn kind 4096 n l _ many t is_whole u

    module _ (u : not b ≡ false) {k : ℕ} (its : k ≡ word l 2) where
      pub node_other : (k ≡ kind → ⊥) → 2 ≡ first_of (node_tests_by second kind classes bytes n l)
      unfolding node_tests_by
      node_other h = head_other kind 4096 n l _ many t is_whole u its h

      pub node_rest : k ≡ kind → {end : ℕ} → end ≡ word l 0 → {w : ℕ} → w ≡ 7 + value_bytes kind → {r : ℕ}
          → r ≡ first_of (body_tests_by w second classes bytes n (read_node (take (end - 4) (drop 4 l)))) → r ≡ first_of (node_tests_by second kind classes bytes n l)
      unfolding node_tests_by stride
      node_rest h long told given =
          given
          ∙ ap₂ (λ (m : ℕ) (body : List ℕ). first_of (body_tests_by m second classes bytes n (read_node body))) told (body_part l long)
          ∙ head_more kind 4096 n l _ many t is_whole u its h

and_first : (s a r : Bool) → s ≡ false → (s && a && r) ≡ false
and_first s a r e = ap (λ (b : Bool). b && a && r) e

and_second : (s a r : Bool) → s ≡ true → a ≡ false → (s && a && r) ≡ false
and_second s a r e f = ap₂ (λ (b c : Bool). b && c && r) e f

and_third : (s a r : Bool) → s ≡ true → a ≡ true → (s && a && r) ≡ r
and_third s a r e f = ap₂ (λ (b c : Bool). b && c && r) e f

-- 8 and 16, return by return
module _ (w : ℕ) (second : Bool) (classes bytes : List ℕ) (n : ℕ) (x : Node) {g : Bool} (good : g ≡ good_node_by w classes bytes n x) where
  pub body_bad : not g ≡ true → 8 ≡ first_of (body_tests_by w second classes bytes n x)
  unfolding body_tests_by
  body_bad t = sym (first_holds 8 _ (not_fails (sym good ∙ not-true _ t)))

  module _ (t : not g ≡ false) where
    sixteen : first_of ((16, repeated_by w second classes bytes n x) ∷ []) ≡ first_of (body_tests_by w second classes bytes n x)
    unfolding body_tests_by
    sixteen = sym (first_fails 8 _ (not_holds (sym good ∙ not-false _ t)))

    single : repeated_by w second classes bytes n x ≡ false → 0 ≡ first_of (body_tests_by w second classes bytes n x)
    unfolding first_of
    single e = sym (first_fails 16 [] e) ∙ sixteen

    pub body_first : not second ≡ true → 0 ≡ first_of (body_tests_by w second classes bytes n x)
    unfolding repeated_by
    body_first e = single (and_first second _ _ (not-true second e))

    module _ (e : not second ≡ false) {k : ℕ} (label : k ≡ x.label) {a : Bool} (attribute : a ≡ is_attribute (class_by classes k)) where
      its_class : is_attribute (class_by classes x.label) ≡ a
      its_class = sym (attribute ∙ ap (λ (m : ℕ). is_attribute (class_by classes m)) label)

      pub body_other : not a ≡ true → 0 ≡ first_of (body_tests_by w second classes bytes n x)
      unfolding repeated_by
      body_other f = single (and_second second _ _ (not-false second e) (its_class ∙ not-true a f))

      module _ (f : not a ≡ false) {p : ℕ} (parent : p ≡ x.parent) {r : Bool} (told : r ≡ scan (is_twin w bytes p k) (n - suc p) (suc p)) where
        its_twin : {c : Bool} → r ≡ c → repeated_by w second classes bytes n x ≡ c
        unfolding repeated_by
        its_twin q =
            and_third second _ _ (not-false second e) (its_class ∙ not-false a f)
            ∙ (sym (told ∙ ap₂ (λ (m l : ℕ). scan (is_twin w bytes m l) (n - suc m) (suc m)) parent label) ∙ q)

        pub body_repeated : r ≡ true → 16 ≡ first_of (body_tests_by w second classes bytes n x)
        body_repeated q = sym (first_holds 16 [] (its_twin q)) ∙ sixteen

        pub body_once : r ≡ false → 0 ≡ first_of (body_tests_by w second classes bytes n x)
        body_once q = single (its_twin q)

-- The search for a node of the parent with the name: from number i on it comes to what the whole comes to
pub record Seeking (f : ℕ → Bool) (n start i : ℕ) : Type 0 where
  pub same : scan f (n - start) start ≡ scan f (n - i) i

module _ {f : ℕ → Bool} {n start i : ℕ} (s : Seeking f n start i) where
  turn : i < n → scan f (n - i) i ≡ (f i || scan f (n - (i + 1)) (i + 1))
  unfolding scan
  turn h =
      let e : n - i ≡ suc (n - (i + 1)) = omega arith in
      ap (λ (m : ℕ). scan f m i) e ∙ ap (λ (m : ℕ). f i || scan f (n - (i + 1)) m) (sym (add-one i))

  pub seeking_found : i < n → f i ≡ true → true ≡ scan f (n - start) start
  seeking_found h e = sym (s.same ∙ turn h ∙ ap (λ (b : Bool). b || scan f (n - (i + 1)) (i + 1)) e)

  pub seeking_next : i < n → f i ≡ false → Seeking f n start (i + 1)
  seeking_next h e = record { same = s.same ∙ turn h ∙ ap (λ (b : Bool). b || scan f (n - (i + 1)) (i + 1)) e }

  pub seeking_none : n ≤ i → false ≡ scan f (n - start) start
  unfolding scan
  seeking_none h = sym (s.same ∙ ap (λ (m : ℕ). scan f m i) (let e : n - i ≡ 0 = omega arith in e))

pub seeking_start : (f : ℕ → Bool) (n start i : ℕ) → i ≡ start → Seeking f n start i
seeking_start f n start i e = record { same = ap (λ (k : ℕ). scan f (n - k) k) (sym e) }

-- whether node i is such a one, return by return
module _ (w : ℕ) (bytes : List ℕ) (p k i : ℕ) {a : ℕ} (above : a ≡ word bytes (w * i + 4)) where
  pub twin_parent : (a ≡ p → ⊥) → false ≡ is_twin w bytes p k i
  unfolding is_twin
  twin_parent h = rw (ne_eqb (word bytes (w * i + 4)) p (λ q. h (above ∙ q)))

  pub twin_label : a ≡ p → {l : ℕ} → l ≡ get_or bytes (w * i + 6) 0 → eqb l k ≡ is_twin w bytes p k i
  unfolding is_twin
  twin_label h label = rw (eq-eqb (word bytes (w * i + 4)) p (sym above ∙ h), label)

-- a number of nodes is at most their bytes
pub count_fits : (w n m : ℕ) → 9 ≤ w → w * n ≤ m → n ≤ m
count_fits w n m h g = let k = mul-le-mul_left n (let q : 1 ≤ w = omega arith in q) in omega arith

-- the body of a whole node record
pub node_body : {kind : ℕ} → IsNodeKind kind → (l : List ℕ) {b : Bool} → b ≡ whole l → not b ≡ false → {k : ℕ} → k ≡ word l 2 → k ≡ kind → {end : ℕ} → end ≡ word l 0
    → (3 ≤ length (take (end - 4) (drop 4 l))) × (length (take (end - 4) (drop 4 l)) ≤ 7)
unfolding record_kind record_body record_length
node_body {kind} is_node l e t k h q =
    let w = whole_says l (sym e ∙ not-false _ t) in
    let b = ends_node is_node l w (sym k ∙ h) in
    let v = value_small kind in
    rw q (omega arith, omega arith)

pub node_first : (w : ℕ) (classes bytes : List ℕ) (n : ℕ) (x : Node) → n ≡ 0 → good_root x ≡ good_node_by w classes bytes n x
unfolding good_node_by
node_first w classes bytes n x e = rw e

pub node_later : (w : ℕ) (classes bytes : List ℕ) (n : ℕ) (x : Node) → (n ≡ 0 → ⊥) → good_below_by w classes bytes n x ≡ good_node_by w classes bytes n x
unfolding good_node_by
node_later w classes bytes n x h = rw (ne_eqb n 0 h)

-- the parent's record stands before the bytes' end
pub parent_fits : (w p n : ℕ) → p < n → w * p + w ≤ w * n
parent_fits w p n h = let m = mul-le-mul_left w (let q : suc p ≤ n = omega arith in q) in omega arith

pub stride_told : (kind w n m : ℕ) → w ≡ 7 + value_bytes kind → stride kind * n ≤ m → w * n ≤ m
unfolding stride
stride_told kind w n m e h = subst (λ (k : ℕ). k * n ≤ m) (sym e) h
