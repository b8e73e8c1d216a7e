-- The children of a node folded into one number, from the back: the sum of their weights, and the order of those that are no attributes.
use Prim.Native.Nat.{ℕ, zero, suc, ◌+◌, ◌-◌, ◌*◌, ◌/◌, ◌%◌, ◌<◌, ◌≤◌}
use Rattle.std.specs.Prelude.{◌≡◌, Bool, cond, ◌&&◌, length, get_or, set}
use Rattle.std.proofs.Math.Path.{refl, ap, ap₂}
use Rattle.std.proofs.Common.{sym, ◌∙◌, get_or-set_same, get_or-set_other, eq-eqb, ne_eqb}
use Rattle.std.proofs.Math.Bool.{true, false, not}
use mathlib.Core.List.{List, [], ◌∷◌, Permᴰ}
use native.Mathlib.Omega.{arith}
use Rattle.std.proofs.Math.Dec.{eqb}
use Rattle.meaning.specs.Lists.{keep, numbers}
use Rattle.meaning.specs.Paths.{Class, is_attribute}
use Rattle.meaning.specs.Trees.{Table, attributes, others}

-- a weight in front of what is folded, if it passed the test
unfoldable pub pass : (ℕ → ℕ → ℕ) → Bool → ℕ → ℕ → ℕ
pass step true w a = step w a
pass step false w a = a

-- of those among `left` numbers from i on that pass the test
unfoldable pub folded : (ℕ → ℕ → ℕ) → (ℕ → Bool) → List ℕ → ℕ → ℕ → ℕ
folded step f weight zero i = 0
folded step f weight (suc left) i = pass step (f i) (get_or weight i 0) (folded step f weight left (suc i))

unfoldable pub fold_of : (ℕ → ℕ → ℕ) → List ℕ → List ℕ → ℕ
fold_of step weight [] = 0
fold_of step weight (x ∷ xs) = step (get_or weight x 0) (fold_of step weight xs)

unfoldable pub plus : ℕ → ℕ → ℕ
plus w a = w + a

-- an order of 16 bits, of the upper parts of the weights
unfoldable pub ordered : ℕ → ℕ → ℕ
ordered w a = (a * 31 + w / 4096) % 65536

-- a sum is the same in any order
pub sum_order : (weight : List ℕ) {xs ys : List ℕ} → Permᴰ xs ys → fold_of plus weight xs ≡ fold_of plus weight ys
unfolding fold_of plus
sum_order weight Permᴰ.nil = refl
sum_order weight (Permᴰ.cons e d) = ap₂ (λ (x n : ℕ). get_or weight x 0 + n) e (sum_order weight d)
sum_order weight (Permᴰ.swap {a = a} {b = b} {a' = c} {b' = d} {l = l} e f) =
    let p = ap (λ (x : ℕ). get_or weight x 0) e in
    let q = ap (λ (x : ℕ). get_or weight x 0) f in
    omega arith
sum_order weight (Permᴰ.trans d e) = sum_order weight d ∙ sum_order weight e

module _ (step : ℕ → ℕ → ℕ) (f : ℕ → Bool) where
  -- a weight before them does not count
  folded_set : (weight : List ℕ) (j w left i : ℕ) → j < i → folded step f (set weight j w) left i ≡ folded step f weight left i
  unfolding folded
  folded_set weight j w zero i h = refl
  folded_set weight j w (suc left) i h =
      ap₂ (pass step (f i)) (get_or-set_other weight j i w 0 (λ e. omega arith)) (folded_set weight j w left (suc i) (omega arith))

  folded_list : (weight : List ℕ) (left i : ℕ) → folded step f weight left i ≡ fold_of step weight (keep f (numbers left i))
  unfolding folded pass fold_of keep numbers
  folded_list weight zero i = refl
  folded_list weight (suc left) i = go (f i) (folded_list weight left (suc i))
    where
      go : (b : Bool) → folded step f weight left (suc i) ≡ fold_of step weight (keep f (numbers left (suc i)))
          → pass step b (get_or weight i 0) (folded step f weight left (suc i))
          ≡ fold_of step weight (cond b (i ∷ keep f (numbers left (suc i))) (keep f (numbers left (suc i))))
      go true e = ap (step (get_or weight i 0)) e
      go false e = e

  -- one node more, from the back
  folded_back : (size : ℕ) (weight : List ℕ) (j w : ℕ) → 1 < j → j ≤ size → size ≤ length weight
      → folded step f (set weight (j - 1) w) (size - (j - 1)) (j - 1) ≡ pass step (f (j - 1)) w (folded step f weight (size - j) j)
  unfolding folded
  folded_back size weight j w low high fits =
      let e : size - (j - 1) ≡ suc (size - j) = omega arith in
      let s : suc (j - 1) ≡ j = omega arith in
      ap (λ (n : ℕ). folded step f (set weight (j - 1) w) n (j - 1)) e
      ∙ ap₂ (pass step (f (j - 1))) (get_or-set_same weight (j - 1) w 0 (omega arith))
      (ap (folded step f (set weight (j - 1) w) (size - j)) s ∙ folded_set weight (j - 1) w (size - j) j (omega arith))

-- one list in two: those that pass a second test, and the others
sum_split : (weight : List ℕ) (f g : ℕ → Bool) (xs : List ℕ)
    → fold_of plus weight (keep f xs) ≡ fold_of plus weight (keep (λ (x : ℕ). f x && g x) xs) + fold_of plus weight (keep (λ (x : ℕ). f x && not (g x)) xs)
unfolding fold_of plus keep
sum_split weight f g [] = refl
sum_split weight f g (x ∷ xs) = go (f x) (g x) (sum_split weight f g xs)
  where
    A : ℕ
    A = fold_of plus weight (keep (λ (x : ℕ). f x && g x) xs)

    B : ℕ
    B = fold_of plus weight (keep (λ (x : ℕ). f x && not (g x)) xs)

    go : (b c : Bool) → fold_of plus weight (keep f xs) ≡ A + B
        → fold_of plus weight (cond b (x ∷ keep f xs) (keep f xs))
        ≡ fold_of plus weight (cond (b && c) (x ∷ keep (λ (x : ℕ). f x && g x) xs) (keep (λ (x : ℕ). f x && g x) xs))
        + fold_of plus weight (cond (b && not c) (x ∷ keep (λ (x : ℕ). f x && not (g x)) xs) (keep (λ (x : ℕ). f x && not (g x)) xs))
    go true true e = omega arith
    go true false e = omega arith
    go false true e = omega arith
    go false false e = omega arith

-- x is a child of v, by its parent
unfoldable pub child_of : Table → ℕ → ℕ → Bool
child_of t v x = eqb (t.parent x) v

-- .. and no attribute
unfoldable pub other_of : (ℕ → Class) → Table → ℕ → ℕ → Bool
other_of κ t v x = eqb (t.parent x) v && not (is_attribute (κ (t.label x)))

-- the order so far, with x in front; an attribute has no place in it
unfoldable pub unless_attribute : (ℕ → Class) → Table → ℕ → ℕ → ℕ → ℕ
unless_attribute κ t x w a = pass ordered (not (is_attribute (κ (t.label x)))) w a

module _ (κ : ℕ → Class) (t : Table) where
  pub children_split : (weight : List ℕ) (v : ℕ)
      → folded plus (child_of t v) weight (t.size - 1) 1 ≡ fold_of plus weight (attributes κ t v) + fold_of plus weight (others κ t v)
  unfolding child_of attributes others
  children_split weight v =
      folded_list plus (λ (x : ℕ). eqb (t.parent x) v) weight (t.size - 1) 1
      ∙ sum_split weight (λ (x : ℕ). eqb (t.parent x) v) (λ (x : ℕ). is_attribute (κ (t.label x))) (numbers (t.size - 1) 1)

  pub others_ordered : (weight : List ℕ) (v : ℕ) → folded ordered (other_of κ t v) weight (t.size - 1) 1 ≡ fold_of ordered weight (others κ t v)
  unfolding other_of others
  others_ordered weight v = folded_list ordered (λ (x : ℕ). eqb (t.parent x) v && not (is_attribute (κ (t.label x)))) weight (t.size - 1) 1

  module _ (weight : List ℕ) (j w v : ℕ) (low : 1 < j) (high : j ≤ t.size) (fits : t.size ≤ length weight) where
    pub sum_more : t.parent (j - 1) ≡ v
        → folded plus (child_of t v) (set weight (j - 1) w) (t.size - (j - 1)) (j - 1) ≡ w + folded plus (child_of t v) weight (t.size - j) j
    unfolding child_of pass plus
    sum_more e =
        folded_back plus (child_of t v) t.size weight j w low high fits
        ∙ ap (λ (b : Bool). pass plus b w (folded plus (child_of t v) weight (t.size - j) j)) (eq-eqb (t.parent (j - 1)) v e)

    pub sum_other : (t.parent (j - 1) ≡ v → ⊥)
        → folded plus (child_of t v) (set weight (j - 1) w) (t.size - (j - 1)) (j - 1) ≡ folded plus (child_of t v) weight (t.size - j) j
    unfolding child_of pass
    sum_other n =
        folded_back plus (child_of t v) t.size weight j w low high fits
        ∙ ap (λ (b : Bool). pass plus b w (folded plus (child_of t v) weight (t.size - j) j)) (ne_eqb (t.parent (j - 1)) v n)

    pub order_more : t.parent (j - 1) ≡ v
        → folded ordered (other_of κ t v) (set weight (j - 1) w) (t.size - (j - 1)) (j - 1)
        ≡ unless_attribute κ t (j - 1) w (folded ordered (other_of κ t v) weight (t.size - j) j)
    unfolding other_of unless_attribute
    order_more e =
        folded_back ordered (other_of κ t v) t.size weight j w low high fits
        ∙ ap (λ (b : Bool). pass ordered (b && not (is_attribute (κ (t.label (j - 1))))) w (folded ordered (other_of κ t v) weight (t.size - j) j))
        (eq-eqb (t.parent (j - 1)) v e)

    pub order_other : (t.parent (j - 1) ≡ v → ⊥)
        → folded ordered (other_of κ t v) (set weight (j - 1) w) (t.size - (j - 1)) (j - 1) ≡ folded ordered (other_of κ t v) weight (t.size - j) j
    unfolding other_of pass
    order_other n =
        folded_back ordered (other_of κ t v) t.size weight j w low high fits
        ∙ ap (λ (b : Bool). pass ordered (b && not (is_attribute (κ (t.label (j - 1))))) w (folded ordered (other_of κ t v) weight (t.size - j) j))
        (ne_eqb (t.parent (j - 1)) v n)

-- one law for each return of `with_child`
module _ (κ : ℕ → Class) (t : Table) (x w a k : ℕ) (b : Bool) (e : k ≡ t.label x) (f : b ≡ is_attribute (κ k)) where
  pub child_passed : b ≡ true → a ≡ unless_attribute κ t x w a
  unfolding unless_attribute pass
  child_passed h = ap (λ (c : Bool). pass ordered (not c) w a) (sym h ∙ f ∙ ap (λ (n : ℕ). is_attribute (κ n)) e)

  pub child_ordered : b ≡ false → ordered w a ≡ unless_attribute κ t x w a
  unfolding unless_attribute pass
  child_ordered h = ap (λ (c : Bool). pass ordered (not c) w a) (sym h ∙ f ∙ ap (λ (n : ℕ). is_attribute (κ n)) e)
