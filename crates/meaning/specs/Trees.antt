-- Trees as node tables, reach and value equality: document 01, "Trees, paths and keys".
use Rattle.std.specs.Prelude.{ℕ, ◌<◌, ◌-◌, ◌≡◌, ◌≢◌, Bool, ◌&&◌, not, T, eqb, length, get_or}
use mathlib.Core.List.{List, [], ◌∷◌, Permᴰ}
use Rattle.meaning.specs.Limits.{root_label}
use Rattle.meaning.specs.Lists.{keep, numbers}
use Rattle.meaning.specs.Paths.{Class, element, is_element, is_attribute, member}

-- "A node has a parent, a label and, if attribute or text, a value." Nodes are numbers below the size
pub record Table : Type 0 where
  pub size : ℕ
  pub parent : ℕ → ℕ
  pub label : ℕ → ℕ
  pub value : ℕ → ℕ

-- A node record's three numbers, and the table that a list of them says
pub record Node : Type 0 where
  pub parent : ℕ
  pub label : ℕ
  pub value : ℕ

abbrev pub no_node : Node
no_node = record { parent = 0; label = 0; value = 0 }

unfoldable pub table_of : List Node → Table
table_of nodes =
    record {
      size = length nodes;
      parent = λ n. (get_or nodes n no_node).parent;
      label = λ n. (get_or nodes n no_node).label;
      value = λ n. (get_or nodes n no_node).value;
    }

-- "A node's parent has a smaller number"; "Attributes and text have no children"; "203 at the root alone"
pub record Placed (κ : ℕ → Class) (t : Table) (n : ℕ) : Type 0 where
  pub above : t.parent n < n
  pub inside : κ (t.label (t.parent n)) ≡ element
  pub not_root : t.label n ≢ root_label

-- A table is a tree: "the root is node 0", and each other node has its place
pub record IsTree (κ : ℕ → Class) (t : Table) : Type 0 where
  pub some : 0 < t.size
  pub root : t.label 0 ≡ root_label
  pub rest : (n : ℕ) → 0 < n → n < t.size → Placed κ t n

-- x is a child of v
pub record Child (t : Table) (v x : ℕ) : Type 0 where
  pub not_root : 0 < x
  pub inside : x < t.size
  pub below : t.parent x ≡ v

-- "In edition 2 the trees .. have each attribute name at most once under an element": of the single labels
pub record Once (single : ℕ → Bool) (t : Table) : Type 0 where
  pub one : (v x y : ℕ) → Child t v x → Child t v y → T (single (t.label x)) → t.label x ≡ t.label y → x ≡ y

-- "the labels below v down to and including w": w lies below v by this run of labels
pub data Down (t : Table) : ℕ → List ℕ → ℕ → Type 0 where
  here : {v w : ℕ} → v ≡ w → Down t v [] w
  step : {v l : ℕ} {ls : List ℕ} {w : ℕ} (x : ℕ) → Child t v x → t.label x ≡ l → Down t x ls w → Down t v (l ∷ ls) w

-- "Node w is reached from v by a path if the labels below v down to and including w form a word of it. The empty path reaches v."
pub record Reached (t : Table) (v : ℕ) (path : List ℕ) (w : ℕ) : Type 0 where
  pub run : List ℕ
  pub down : Down t v run w
  pub word : T (member path run)

-- "Children stand in the order of their numbers": the attributes of a node, and its other children, "in table order"
unfoldable pub attributes : (ℕ → Class) → Table → ℕ → List ℕ
attributes κ t v = keep (λ (x : ℕ). eqb (t.parent x) v && is_attribute (κ (t.label x))) (numbers (t.size - 1) 1)

unfoldable pub others : (ℕ → Class) → Table → ℕ → List ℕ
others κ t v = keep (λ (x : ℕ). eqb (t.parent x) v && not (is_attribute (κ (t.label x)))) (numbers (t.size - 1) 1)

-- "Two nodes are value-equal if the labels are equal and, for attribute or text, the values are equal; for elements, the attributes are
-- pairwise value-equal .., equally many, and likewise the other children." 02: "attributes are value-equal when some one-to-one pairing
-- makes them so, a name that occurs twice included. Elements and text keep their order."
mutual
  pub data Equal (κ : ℕ → Class) (t : Table) : ℕ → ℕ → Type 0 where
    leaves : {x y : ℕ} → t.label x ≡ t.label y → T (not (is_element (κ (t.label x)))) → t.value x ≡ t.value y → Equal κ t x y
    elements : {x y : ℕ} → t.label x ≡ t.label y → T (is_element (κ (t.label x)))
        → EqualSets κ t (attributes κ t x) (attributes κ t y) → EqualLists κ t (others κ t x) (others κ t y) → Equal κ t x y

  -- "some one-to-one pairing": the second list, put into some order, is pairwise equal to the first
  pub data EqualSets (κ : ℕ → Class) (t : Table) : List ℕ → List ℕ → Type 0 where
    matched : {xs ys zs : List ℕ} → Permᴰ ys zs → EqualLists κ t xs zs → EqualSets κ t xs ys

  pub data EqualLists (κ : ℕ → Class) (t : Table) : List ℕ → List ℕ → Type 0 where
    ended : EqualLists κ t [] []
    paired : {x y : ℕ} {xs ys : List ℕ} → Equal κ t x y → EqualLists κ t xs ys → EqualLists κ t (x ∷ xs) (y ∷ ys)
