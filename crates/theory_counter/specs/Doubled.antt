-- A pattern drawn as a table, and the tree that is written from it: every node of the tree is a pattern node or its filler attribute, of the
-- first or of the second copy. What stands here of such a tree is all that the rest of ARGUMENT §6 uses.
use Rattle.std.specs.Prelude.{ℕ, ◌+◌, ◌≤◌, ◌<◌, ◌≡◌, ◌≢◌, Bool, true, false, cond, ◌&&◌, not, T}
use Rattle.meaning.specs.Limits.{filler_attribute, root_label}
use Rattle.meaning.specs.Paths.{Class, attribute, is_element}
use Rattle.meaning.specs.Trees.{Table, Child, here}

-- The pattern: a tree of labels other than the filler attribute's, in which what lies below a marked node is marked
pub record Drawn (κ : ℕ → Class) (p : Table) (mark : ℕ → Bool) (u : ℕ) : Type 0 where
  pub trunk : u < p.size
  pub root : p.label 0 ≡ root_label
  pub above : (x : ℕ) → 0 < x → x < p.size → p.parent x < x
  pub inside : (x : ℕ) → 0 < x → x < p.size → T (is_element (κ (p.label (p.parent x))))
  pub no_filler : (x : ℕ) → x < p.size → p.label x ≢ filler_attribute
  pub no_root : (x : ℕ) → 0 < x → x < p.size → p.label x ≢ root_label
  pub closed : (z x : ℕ) → T (mark z) → Child p z x → T (mark x)
  pub filler : κ filler_attribute ≡ attribute

-- "Each element is followed at once by a filler attribute": x is a pattern node, and has a filler where one is meant
pub record Stands (κ : ℕ → Class) (p : Table) (x : ℕ) (filler : Bool) : Type 0 where
  pub inside : x < p.size
  pub owner : T filler → T (is_element (κ (p.label x)))

-- Node n of the tree: of which copy, of which pattern node, and whether it is that node's filler
pub record Spot (κ : ℕ → Class) (p : Table) (number : Bool → ℕ → Bool → ℕ) (n : ℕ) : Type 0 where
  pub second : Bool
  pub node : ℕ
  pub filler : Bool
  pub stands : Stands κ p node filler
  pub here : n ≡ number second node filler

-- The tree: "the pattern's nodes from root to u once; then all the others .. as a first copy, then as a second copy". `number` gives the
-- node's number; nodes from the root to u have the same number in both copies
pub record Written (κ : ℕ → Class) (p : Table) (mark : ℕ → Bool) (u : ℕ) (w : Table) : Type 0 where
  pub number : Bool → ℕ → Bool → ℕ
  pub spot : (n : ℕ) → n < w.size → Spot κ p number n
  pub within : (s : Bool) {x : ℕ} {f : Bool} → Stands κ p x f → number s x f < w.size
  pub zeroth : (s : Bool) → number s 0 false ≡ 0
  pub labels : (s : Bool) {x : ℕ} {f : Bool} → Stands κ p x f → w.label (number s x f) ≡ cond f filler_attribute (p.label x)
  pub parent_own : (s : Bool) (x : ℕ) → 0 < x → x < p.size → w.parent (number s x false) ≡ number s (p.parent x) false
  pub parent_filler : (s : Bool) (x : ℕ) → Stands κ p x true → w.parent (number s x true) ≡ number s x false
  pub value_leaf : (s : Bool) {x : ℕ} {f : Bool} → Stands κ p x f → T (not (is_element (κ (w.label (number s x f)))))
      → w.value (number s x f) ≡ number (s && not (mark x)) x f
  pub apart : {s s' : Bool} {x x' : ℕ} {f f' : Bool} → Stands κ p x f → Stands κ p x' f' → number s x f ≡ number s' x' f'
      → (x ≡ x') × (f ≡ f') × (u < x → s ≡ s')
  pub trunk_once : (s s' : Bool) (x : ℕ) (f : Bool) → x ≤ u → number s x f ≡ number s' x f
  pub above_own : (s : Bool) (x y : ℕ) (f g : Bool) → x < y → Stands κ p x f → Stands κ p y g → number s x f < number s y g
  pub above_filler : (s : Bool) (x : ℕ) → Stands κ p x true → number s x false < number s x true
  -- the second copy stands `gap` numbers behind the first, which begins at `cut`
  pub cut : ℕ
  pub gap : ℕ
  pub sizes : w.size ≡ cut + gap + gap
  pub trunk_before : (s : Bool) {x : ℕ} {f : Bool} → Stands κ p x f → x ≤ u → number s x f < cut
  pub first_copy : {x : ℕ} {f : Bool} → Stands κ p x f → u < x → (cut ≤ number false x f) × (number false x f < cut + gap)
  pub second_copy : {x : ℕ} {f : Bool} → Stands κ p x f → u < x → number true x f ≡ number false x f + gap
