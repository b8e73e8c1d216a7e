-- The class table of a profile (0: not declared, 1: element, 2: attribute) and what `meaning` asks of labels, asked of the table.
use Rattle.std.specs.Prelude.{ℕ, ◌<◌, ◌≡◌, refl, Bool, true, false, cond, ◌&&◌, ◌||◌, not, List, [], ◌∷◌, leb, eqb, length, get_or}
use Rattle.std.proofs.Common.{sym, arith}
use Rattle.meaning.specs.Limits.{KeyLimits, text_label, filler_element, filler_attribute, element_class, attribute_class}
use Rattle.meaning.specs.Lists.{every, any}
use Rattle.meaning.specs.Paths.{Label, Class, element, attribute, text, is_attribute, declared, declared_class, class_of, is_label, normal, simple, join, valid}
use Rattle.meaning.specs.Keys.{Key}
use Rattle.meaning.specs.Refusals.{is_symbol, good_set}

unfoldable pub declared_by : List ℕ → ℕ → Bool
declared_by classes n = not (eqb (get_or classes n 0) 0)

unfoldable pub class_by : List ℕ → ℕ → Class
class_by classes n =
    cond (eqb n text_label) text
    (cond (eqb n filler_attribute) attribute (cond (eqb (get_or classes n 0) attribute_class) attribute element))

unfoldable pub is_label_by : List ℕ → ℕ → Bool
is_label_by classes n = eqb n text_label || declared_by classes n || eqb n filler_element || eqb n filler_attribute

unfoldable pub is_symbol_by : List ℕ → ℕ → Bool
is_symbol_by classes s = eqb s 0 || eqb s text_label || declared_by classes s

unfoldable pub good_path_by : List ℕ → ℕ → List ℕ → Bool
good_path_by classes limit p = every (is_symbol_by classes) p && normal p && leb (length p) limit

unfoldable pub good_symbols_by : List ℕ → KeyLimits → Key → Bool
good_symbols_by classes limits k =
    good_path_by classes limits.symbols k.context && good_path_by classes limits.symbols k.target
    && every (λ (p : List ℕ). good_path_by classes limits.path_symbols p && simple p) k.paths

unfoldable pub all_valid_by : List ℕ → Key → Bool
all_valid_by classes k = every (λ (p : List ℕ). valid (class_by classes) (join (join k.context k.target) p)) k.paths

unfoldable pub key_tests_by : List ℕ → KeyLimits → Key → List (ℕ × Bool)
key_tests_by classes limits k =
    (4, not (good_symbols_by classes limits k)) ∷ (5, not (good_set limits k)) ∷ (6, not (all_valid_by classes k)) ∷ []

-- The entry of a label: 0 if the profile does not declare it, else its class's number
unfoldable pub entry_of : List Label → ℕ → ℕ
entry_of labels n = cond (declared labels n) (cond (is_attribute (declared_class labels n)) attribute_class element_class) 0

-- The table says what the labels say
pub record Tabled (labels : List Label) (classes : List ℕ) : Type 0 where
  pub entry : (n : ℕ) → n < 256 → get_or classes n 0 ≡ entry_of labels n

-- Each member is a byte: what a slice's rule says of its elements
abbrev pub ByteAt : List ℕ → Type 0
ByteAt l = (i : ℕ) → get_or l i 0 < 256

-- a declared label is an element or an attribute, and one that is not declared counts as an element
pick : Bool → Class
pick is_one = cond is_one attribute element

class_two : (labels : List Label) (n : ℕ) → pick (is_attribute (declared_class labels n)) ≡ declared_class labels n
unfolding pick is_attribute declared_class
class_two [] n = refl
class_two (l ∷ ls) n = go (eqb l.number n) (eqb l.class attribute_class) (class_two ls n)
  where
    go : (b c : Bool) → pick (is_attribute (declared_class ls n)) ≡ declared_class ls n
        → pick (is_attribute (cond b (cond c attribute element) (declared_class ls n))) ≡ cond b (cond c attribute element) (declared_class ls n)
    go true true h = refl
    go true false h = refl
    go false c h = h

undeclared : (labels : List Label) (n : ℕ) → declared labels n ≡ false → declared_class labels n ≡ element
unfolding declared declared_class any
undeclared [] n e = refl
undeclared (l ∷ ls) n e = go (eqb l.number n) (undeclared ls n) e
  where
    go : (b : Bool) → (declared ls n ≡ false → declared_class ls n ≡ element) → (b || declared ls n) ≡ false
        → cond b (cond (eqb l.class attribute_class) attribute element) (declared_class ls n) ≡ element
    go true h t = absurd (let z : ◌≡◌ {A = ℕ} 0 1 = cc in omega arith)
    go false h t = h t

entry_class : (labels : List Label) (n : ℕ) → pick (eqb (entry_of labels n) attribute_class) ≡ declared_class labels n
unfolding entry_of pick is_attribute
entry_class labels n = go (declared labels n) refl (declared_class labels n) (class_two labels n) (undeclared labels n)
  where
    go : (b : Bool) → declared labels n ≡ b → (k : Class) → pick (is_attribute k) ≡ k → (declared labels n ≡ false → k ≡ element)
        → pick (eqb (cond b (cond (is_attribute k) attribute_class element_class) 0) attribute_class) ≡ k
    go true e element t u = refl
    go true e attribute t u = refl
    go true e text t u = t
    go false e k t u = sym (u e)

entry_declared : (labels : List Label) (n : ℕ) → not (eqb (entry_of labels n) 0) ≡ declared labels n
unfolding entry_of is_attribute
entry_declared labels n = go (declared labels n) (declared_class labels n)
  where
    go : (b : Bool) (k : Class) → not (eqb (cond b (cond (is_attribute k) attribute_class element_class) 0) 0) ≡ b
    go true element = refl
    go true attribute = refl
    go true text = refl
    go false k = refl

-- each test of a byte by the table is the test by the labels
module _ {labels : List Label} {classes : List ℕ} (tabled : Tabled labels classes) where
  pub declared_tabled : (n : ℕ) → n < 256 → declared_by classes n ≡ declared labels n
  unfolding declared_by
  declared_tabled n h = rw (tabled.entry n h) (entry_declared labels n)

  pub class_tabled : (n : ℕ) → n < 256 → class_by classes n ≡ class_of labels n
  unfolding class_by class_of pick
  class_tabled n h = rw (tabled.entry n h, ← entry_class labels n)

  pub symbol_tabled : (s : ℕ) → s < 256 → is_symbol_by classes s ≡ is_symbol labels s
  unfolding is_symbol_by is_symbol
  symbol_tabled s h = rw (declared_tabled s h)

  pub label_tabled : (n : ℕ) → n < 256 → is_label_by classes n ≡ is_label labels n
  unfolding is_label_by is_label
  label_tabled n h = rw (declared_tabled n h)
