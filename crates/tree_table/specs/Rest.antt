-- The children of a node that pass a test, from a number on: what is left of `attributes` and `others` at a link.
use Prim.Native.Nat.{ℕ, zero, suc, ◌+◌, ◌-◌, ◌<◌, ◌≤◌}
use Rattle.std.specs.Prelude.{◌≡◌, Bool, ◌&&◌, not, eqb}
use Rattle.std.proofs.Math.Path.{refl, ap, subst}
use Rattle.std.proofs.Common.{sym, ◌∙◌, eq-eqb, ne_eqb}
use Rattle.std.proofs.Math.Bool.{true, false}
use mathlib.Core.List.{List, [], ◌∷◌}
use native.Mathlib.Omega.{arith}
use Rattle.std.proofs.Math.Decide.{dec_lt}
use Rattle.meaning.specs.Lists.{keep, numbers}
use Rattle.meaning.specs.Paths.{Class, is_attribute}
use Rattle.meaning.specs.Trees.{Table, attributes, others}
use Rattle.tree_table.specs.Links.{LeastChild}

-- the numbers of the table from i on that pass the test
unfoldable pub kept : (ℕ → Bool) → ℕ → ℕ → List ℕ
kept f size i = keep f (numbers (size - i) i)

module _ (f : ℕ → Bool) (size : ℕ) where
  pub kept_end : (i : ℕ) → size ≤ i → kept f size i ≡ []
  unfolding kept keep numbers
  kept_end i h = let e : size - i ≡ 0 = omega arith in rw e

  pub kept_yes : (i : ℕ) → i < size → f i ≡ true → kept f size i ≡ i ∷ kept f size (i + 1)
  unfolding kept keep numbers
  kept_yes i h e =
      let s : size - i ≡ suc (size - suc i) = omega arith in
      let o : i + 1 ≡ suc i = omega arith in
      rw (s, o, e)

  pub kept_no : (i : ℕ) → i < size → f i ≡ false → kept f size i ≡ kept f size (i + 1)
  unfolding kept keep numbers
  kept_no i h e =
      let s : size - i ≡ suc (size - suc i) = omega arith in
      let o : i + 1 ≡ suc i = omega arith in
      rw (s, o, e)

  -- numbers that fail the test are passed over
  pub kept_skip : (left i : ℕ) → ((k : ℕ) → i ≤ k → k < i + left → k < size → f k ≡ false) → kept f size i ≡ kept f size (i + left)
  kept_skip zero i h = ap (kept f size) (omega arith)
  kept_skip (suc left) i h = go (dec_lt i size) (kept_skip left (i + 1) (λ k g l b. h k (omega arith) (omega arith) b))
    where
      go : Dec (i < size) → kept f size (i + 1) ≡ kept f size (i + 1 + left) → kept f size i ≡ kept f size (i + suc left)
      go (yes b) r =
          let e : i + 1 + left ≡ i + suc left = omega arith in
          kept_no i b (h i (omega arith) (omega arith) b) ∙ r ∙ ap (kept f size) e
      go (no n) r = kept_end i (omega arith) ∙ sym (kept_end (i + suc left) (omega arith))

-- "the attributes", or "the other children": node x is a child of v of that kind
unfoldable pub same_kind : Bool → Bool → Bool
same_kind true b = b
same_kind false b = not b

unfoldable pub of_kind : (ℕ → Class) → Table → Bool → ℕ → ℕ → Bool
of_kind κ t attribute v x = eqb (t.parent x) v && same_kind attribute (is_attribute (κ (t.label x)))

unfoldable pub list_of : (ℕ → Class) → Table → Bool → ℕ → List ℕ
list_of κ t true v = attributes κ t v
list_of κ t false v = others κ t v

-- what is left of those of v at a link: nothing at 0
unfoldable pub rest : (ℕ → Class) → Table → Bool → ℕ → ℕ → List ℕ
rest κ t attribute v zero = []
rest κ t attribute v (suc i) = kept (of_kind κ t attribute v) t.size (suc i)

-- A child's kind is the one asked for
unfoldable pub IsKind : (ℕ → Class) → Table → Bool → ℕ → Type 0
IsKind κ t attribute x = is_attribute (κ (t.label x)) ≡ attribute

module _ (κ : ℕ → Class) (t : Table) (attribute : Bool) where
  pub list_kept : (v : ℕ) → list_of κ t attribute v ≡ kept (of_kind κ t attribute v) t.size 1
  unfolding list_of kept of_kind same_kind attributes others
  list_kept v = go attribute
    where
      go : (b : Bool) → list_of κ t b v ≡ kept (of_kind κ t b v) t.size 1
      go true = refl
      go false = refl

  same_kind_lem : (b : Bool) → b ≡ attribute → same_kind attribute b ≡ true
  unfolding same_kind
  same_kind_lem b e = subst (λ (c : Bool). same_kind c b ≡ true) e (go b)
    where
      go : (c : Bool) → same_kind c c ≡ true
      go true = refl
      go false = refl

  other_kind : (b : Bool) → (b ≡ attribute → ⊥) → same_kind attribute b ≡ false
  unfolding same_kind
  other_kind b n = go attribute b n
    where
      go : (c b : Bool) → (b ≡ c → ⊥) → same_kind c b ≡ false
      go true true n = absurd (n refl)
      go true false n = refl
      go false true n = refl
      go false false n = absurd (n refl)

  pub kind_yes : (v x : ℕ) → t.parent x ≡ v → IsKind κ t attribute x → of_kind κ t attribute v x ≡ true
  unfolding of_kind IsKind
  kind_yes v x p k = rw (eq-eqb (t.parent x) v p, same_kind_lem (is_attribute (κ (t.label x))) k)

  pub kind_other : (v x : ℕ) → (t.parent x ≡ v → ⊥) → of_kind κ t attribute v x ≡ false
  unfolding of_kind
  kind_other v x n = rw (ne_eqb (t.parent x) v n)

  pub kind_no : (v x : ℕ) → (IsKind κ t attribute x → ⊥) → of_kind κ t attribute v x ≡ false
  unfolding of_kind IsKind
  kind_no v x n = rw (other_kind (is_attribute (κ (t.label x))) n) (go (eqb (t.parent x) v))
    where
      go : (b : Bool) → (b && false) ≡ false
      go true = refl
      go false = refl

  -- a link leads over nothing of the list
  pub linked_rest : (v i r : ℕ) → 0 < i → LeastChild t v i r → kept (of_kind κ t attribute v) t.size i ≡ rest κ t attribute v r
  unfolding rest
  linked_rest v i zero p l =
      kept_skip (of_kind κ t attribute v) t.size t.size i
      (λ k g h b. kind_other v k (λ e. let s = l.skipped k g (record { not_root = omega arith; inside = b; below = e }) in omega arith))
      ∙ kept_end (of_kind κ t attribute v) t.size (i + t.size) (omega arith)
  linked_rest v i (suc r) p l =
      let c = l.child (omega arith) in
      let e : i + (suc r - i) ≡ suc r = omega arith in
      kept_skip (of_kind κ t attribute v) t.size (suc r - i) i
      (λ k g h b. kind_other v k (λ e. let s = l.skipped k g (record { not_root = omega arith; inside = b; below = e }) in omega arith))
      ∙ ap (kept (of_kind κ t attribute v) t.size) e

  -- a child of the kind is the first of what is left; one of the other kind is not in it
  pub rest_yes : (v i r : ℕ) → 0 < i → i < t.size → t.parent i ≡ v → IsKind κ t attribute i → LeastChild t v (i + 1) r
      → rest κ t attribute v i ≡ i ∷ rest κ t attribute v r
  unfolding rest
  rest_yes v zero r p b e k l = absurd (omega arith)
  rest_yes v (suc i) r p b e k l =
      kept_yes (of_kind κ t attribute v) t.size (suc i) b (kind_yes v (suc i) e k) ∙ ap (λ (w : List ℕ). suc i ∷ w) (linked_rest v (suc i + 1) r (omega arith) l)

  pub rest_no : (v i r : ℕ) → 0 < i → i < t.size → (IsKind κ t attribute i → ⊥) → LeastChild t v (i + 1) r
      → rest κ t attribute v i ≡ rest κ t attribute v r
  unfolding rest
  rest_no v zero r p b k l = absurd (omega arith)
  rest_no v (suc i) r p b k l =
      kept_no (of_kind κ t attribute v) t.size (suc i) b (kind_no v (suc i) k) ∙ linked_rest v (suc i + 1) r (omega arith) l
