-- Labels, paths and words: document 01, "Trees, paths and keys", and 001, section 2.2.
use Rattle.std.specs.Prelude.{ℕ, zero, suc, ◌<◌, ◌≡◌, Bool, true, false, cond, ◌&&◌, ◌||◌, not, List, [], ◌∷◌, ◌++◌, T, eqb}
use Rattle.meaning.specs.Limits.{text_label, filler_element, filler_attribute, root_label, attribute_class}
use Rattle.meaning.specs.Lists.{every, any, is_empty}

-- "Labels are numbers. Label 1 is text. Labels 2 to 200 are declared as element or attribute."
pub data Class : Type 0 where
  element attribute text : Class

unfoldable pub is_element : Class → Bool
is_element element = true
is_element attribute = false
is_element text = false

unfoldable pub is_attribute : Class → Bool
is_attribute element = false
is_attribute attribute = true
is_attribute text = false

-- A label record: number, class (1 element, 2 attribute), name
pub record Label : Type 0 where
  pub number : ℕ
  pub class : ℕ
  pub name : List ℕ

unfoldable pub declared : List Label → ℕ → Bool
declared labels n = any (λ (l : Label). eqb l.number n) labels

unfoldable pub declared_class : List Label → ℕ → Class
declared_class [] n = element
declared_class (l ∷ ls) n = cond (eqb l.number n) (cond (eqb l.class attribute_class) attribute element) (declared_class ls n)

-- The class of each label that a profile's files can hold; the fillers and the root as 01 says, every other label an element
unfoldable pub class_of : List Label → ℕ → Class
class_of labels n = cond (eqb n text_label) text (cond (eqb n filler_attribute) attribute (declared_class labels n))

-- "A tree file holds only these three, 1 and declared labels." The fillers are "201 and 202"
unfoldable pub is_label : List Label → ℕ → Bool
is_label labels n = eqb n text_label || declared labels n || eqb n filler_element || eqb n filler_attribute

-- Labels that stand at most once under an element: in edition 2 each attribute name, in edition 1 none
unfoldable pub singles : Bool → (ℕ → Class) → ℕ → Bool
singles second κ n = second && is_attribute (κ n)

-- A class function on all labels agrees with a profile: on text, the declared labels, the fillers and the root
unfoldable pub Agrees : List Label → (ℕ → Class) → Type 0
Agrees labels κ = (n : ℕ) → T (is_label labels n || eqb n root_label) → κ n ≡ class_of labels n

-- "Symbol 0 in a path is the any-path (written `_*`), a possibly empty run of labels."
-- Some end of the run satisfies f: the any-path has taken what stands before it
unfoldable pub any_end : (List ℕ → Bool) → List ℕ → Bool
any_end f [] = f []
any_end f (x ∷ run) = f (x ∷ run) || any_end f run

-- One symbol of a path, in front of what f says of the rest
unfoldable pub front : ℕ → (List ℕ → Bool) → List ℕ → Bool
front zero f run = any_end f run
front (suc a) f [] = false
front (suc a) f (x ∷ run) = eqb x (suc a) && f run

-- The run of labels is a word of the path
unfoldable pub member : List ℕ → List ℕ → Bool
member [] run = is_empty run
member (s ∷ path) run = front s (member path) run

-- "A path is in normal form if no two 0 stand together."
unfoldable pub normal : List ℕ → Bool
normal [] = true
normal (suc a ∷ p) = normal p
normal (zero ∷ []) = true
normal (zero ∷ zero ∷ p) = false
normal (zero ∷ suc a ∷ p) = normal p

-- "Joining two paths removes doubled 0."
unfoldable pub norm : List ℕ → List ℕ
norm [] = []
norm (suc a ∷ p) = suc a ∷ norm p
norm (zero ∷ []) = zero ∷ []
norm (zero ∷ zero ∷ p) = norm (zero ∷ p)
norm (zero ∷ suc a ∷ p) = zero ∷ suc a ∷ norm p

-- "Joined with `.` below, always in normal form."
unfoldable pub join : List ℕ → List ℕ → List ℕ
join p q = norm (p ++ q)

-- 001: a path is simple if the any-path does not occur in it
unfoldable pub simple : List ℕ → Bool
simple p = every (λ (s : ℕ). not (eqb s 0)) p

-- "A path is valid if an attribute or text label stands only last." A word is held to the same
unfoldable pub valid : (ℕ → Class) → List ℕ → Bool
valid κ [] = true
valid κ (s ∷ []) = true
valid κ (s ∷ t ∷ p) = (eqb s 0 || is_element (κ s)) && valid κ (t ∷ p)

-- "P is included in Q if every valid word of P, over all labels with 201 and 202, is a word of Q."
unfoldable pub Included : List Label → List ℕ → List ℕ → Type 0
Included labels P Q = (word : List ℕ) → T (every (is_label labels) word) → T (valid (class_of labels) word) → T (member P word) → T (member Q word)

-- 02, request 13: "two valid paths .. have the same words". A word is a run of labels, and 0 is no label; only valid words are asked
unfoldable pub SameWords : (ℕ → Class) → List ℕ → List ℕ → Type 0
SameWords κ P Q = (word : List ℕ) → T (simple word) → T (valid κ word) → member P word ≡ member Q word

-- "with labels taken without end, so that some element label is in neither path"
pub record ElementBeyond (κ : ℕ → Class) (n : ℕ) : Type 0 where
  pub label : ℕ
  pub beyond : n < label
  pub is_its_class : κ label ≡ element

unfoldable pub Endless : (ℕ → Class) → Type 0
Endless κ = (n : ℕ) → ElementBeyond κ n
