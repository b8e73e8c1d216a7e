-- Weights: label, value, the sum of the children's weights and the order of those that are no attributes, mixed into 32 bits. One law for each way of
-- the code.
use Rattle.std.specs.Prelude.{ℕ, ◌+◌, ◌-◌, ◌*◌, ◌/◌, ◌%◌, ◌<◌, ◌≤◌, ◌≡◌, Bool, not, length, get_or, set}
use Rattle.std.proofs.Math.Path.{refl, sym, ap, ap₂}
use Rattle.std.proofs.Common.{◌∙◌, subst, mul-le-mul_left, le_of_lt, get_or-set_same, get_or-set_other}
use Rattle.std.proofs.Math.Bool.{true, false, cond}
use mathlib.Core.List.Permᴰ
use mathlib.Core.List.{List, Memᴰ}
use native.Mathlib.Omega.{arith}
use Rattle.std.proofs.Math.Decide.{ℕ_discrete}
use Rattle.std.proofs.Math.Dec.{T}
use Rattle.meaning.specs.Paths.{Class, is_element}
use Rattle.meaning.specs.Trees.{Table, IsTree, attributes, others, Equal, leaves, elements, EqualSets, matched, EqualLists, ended, paired}
use Rattle.theory_trees.specs.Children.{attribute_child, other_child}
use Rattle.theory_trees.specs.Laws.{equal_label}
use Rattle.theory_trees.specs.Matching.{perm_mem}
use Rattle.tree_weights.specs.Sums.{
  folded,
  fold_of,
  plus,
  ordered,
  sum_order,
  child_of,
  other_of,
  unless_attribute,
  children_split,
  others_ordered,
  sum_more,
  sum_other,
  order_more,
  order_other,
}

-- Value-equal nodes have equal weights
pub record Weighed (κ : ℕ → Class) (t : Table) (weight : List ℕ) : Type 0 where
  pub equal : (x y : ℕ) → x < t.size → y < t.size → Equal κ t x y → get_or weight x 0 ≡ get_or weight y 0

abbrev pub range : ℕ
range = 4294967296

-- label, value and sum in one number, spread by a product that is not linear, so that values exchanged between labels weigh otherwise
unfoldable pub spread : ℕ → ℕ → ℕ → ℕ
spread label value sum = (label * 65536 + value + sum) % range * ((label * 65536 + value + sum) % range % 65536 + 40503) % range

-- its low part gives way to the count of the nodes from there down
unfoldable pub mix : ℕ → ℕ → ℕ → ℕ
mix label value sum = spread label value sum / 4096 * 4096 + (sum + 1) % 4096

-- an element weighs by its children, attribute and text by the value
unfoldable pub weight_of : (ℕ → Class) → Table → ℕ → ℕ → ℕ → ℕ
weight_of κ t sum order x = cond (is_element (κ (t.label x))) (mix (t.label x) order sum) (mix (t.label x) (t.value x) 0)

pub record WeighedFrom (κ : ℕ → Class) (t : Table) (i : ℕ) (weight sums orders : List ℕ) : Type 0 where
  pub summed : (v : ℕ) → v < t.size → get_or sums v 0 ≡ folded plus (child_of t v) weight (t.size - i) i % range
  pub placed : (v : ℕ) → v < t.size → get_or orders v 0 ≡ folded ordered (other_of κ t v) weight (t.size - i) i
  pub each : (x : ℕ) → i ≤ x → x < t.size → get_or weight x 0 ≡ weight_of κ t (get_or sums x 0) (get_or orders x 0) x

module _ (κ : ℕ → Class) (t : Table) where
  pub weighed_none : (n : ℕ) (weight sums orders : List ℕ) → n ≡ t.size → ((v : ℕ) → get_or sums v 0 ≡ 0) → ((v : ℕ) → get_or orders v 0 ≡ 0)
      → WeighedFrom κ t n weight sums orders
  unfolding folded
  weighed_none n weight sums orders e zeros none =
      let z : t.size - n ≡ 0 = omega arith in
      record {
        summed = λ v h. zeros v ∙ sym (ap (λ (k : ℕ). folded plus (child_of t v) weight k n % range) z);
        placed = λ v h. none v ∙ sym (ap (λ (k : ℕ). folded ordered (other_of κ t v) weight k n) z);
        each = λ x h g. absurd (omega arith);
      }

  module _ (weight sums orders : List ℕ) (j p w s o : ℕ) (low : 1 < j) (high : j ≤ t.size) (fits : t.size ≤ length weight)
      (fits' : t.size ≤ length sums) (fits'' : t.size ≤ length orders) (above : t.parent (j - 1) < j - 1) (e : p ≡ t.parent (j - 1))
      (is : w ≡ weight_of κ t (get_or sums (j - 1) 0) (get_or orders (j - 1) 0) (j - 1)) (added : s ≡ (get_or sums p 0 + w) % range)
      (next : o ≡ unless_attribute κ t (j - 1) w (get_or orders p 0)) (l : WeighedFrom κ t j weight sums orders) where
    pub weighed_step : WeighedFrom κ t (j - 1) (set weight (j - 1) w) (set sums p s) (set orders p o)
    weighed_step =
        record {
          summed = λ v h. sum v h (ℕ_discrete v p);
          placed = λ v h. order v h (ℕ_discrete v p);
          each = λ x h g. one x h g (ℕ_discrete x (j - 1));
        }
      where
        sum : (v : ℕ) → v < t.size → Dec (v ≡ p)
            → get_or (set sums p s) v 0 ≡ folded plus (child_of t v) (set weight (j - 1) w) (t.size - (j - 1)) (j - 1) % range
        sum v h (yes z) =
            let b = l.summed v h in
            let m = sum_more κ t weight j w v low high fits (sym e ∙ sym z) in
            let g = get_or-set_same sums p s 0 (omega arith) in
            let k = ap (λ (n : ℕ). get_or (set sums p s) n 0) z in
            let c = ap (λ (n : ℕ). get_or sums n 0) z in
            omega arith
        sum v h (no n) =
            get_or-set_other sums p v s 0 n ∙ l.summed v h
            ∙ sym (ap (λ (k : ℕ). k % range) (sum_other κ t weight j w v low high fits (λ z. n (sym z ∙ sym e))))

        order : (v : ℕ) → v < t.size → Dec (v ≡ p)
            → get_or (set orders p o) v 0 ≡ folded ordered (other_of κ t v) (set weight (j - 1) w) (t.size - (j - 1)) (j - 1)
        order v h (yes z) =
            ap (λ (n : ℕ). get_or (set orders p o) n 0) z ∙ get_or-set_same orders p o 0 (omega arith) ∙ next
            ∙ ap (unless_attribute κ t (j - 1) w) (sym (ap (λ (n : ℕ). get_or orders n 0) z) ∙ l.placed v h)
            ∙ sym (order_more κ t weight j w v low high fits (sym e ∙ sym z))
        order v h (no n) =
            get_or-set_other orders p v o 0 n ∙ l.placed v h ∙ sym (order_other κ t weight j w v low high fits (λ z. n (sym z ∙ sym e)))

        one : (x : ℕ) → j - 1 ≤ x → x < t.size → Dec (x ≡ j - 1)
            → get_or (set weight (j - 1) w) x 0 ≡ weight_of κ t (get_or (set sums p s) x 0) (get_or (set orders p o) x 0) x
        one x h g (yes z) =
            subst (λ (n : ℕ). get_or (set weight (j - 1) w) n 0 ≡ weight_of κ t (get_or (set sums p s) n 0) (get_or (set orders p o) n 0) n) (sym z)
            (get_or-set_same weight (j - 1) w 0 (omega arith) ∙ is
            ∙ sym (ap₂ (λ (a b : ℕ). weight_of κ t a b (j - 1)) (get_or-set_other sums p (j - 1) s 0 (λ c. omega arith))
            (get_or-set_other orders p (j - 1) o 0 (λ c. omega arith))))
        one x h g (no n) =
            get_or-set_other weight (j - 1) x w 0 n ∙ l.each x (omega arith) g
            ∙ sym (ap₂ (λ (a b : ℕ). weight_of κ t a b x) (get_or-set_other sums p x s 0 (λ c. omega arith)) (get_or-set_other orders p x o 0 (λ c. omega arith)))

  -- the code's two ways to weigh
  pub weigh_element : (x k sum order w : ℕ) (b : Bool) → k ≡ t.label x → b ≡ is_element (κ k) → b ≡ true → w ≡ mix k order sum
      → w ≡ weight_of κ t sum order x
  unfolding weight_of
  weigh_element x k sum order w b e f g h =
      h ∙ ap (λ (n : ℕ). mix n order sum) e
      ∙ sym (ap (λ (c : Bool). cond c (mix (t.label x) order sum) (mix (t.label x) (t.value x) 0))
      (sym (ap (λ (n : ℕ). is_element (κ n)) e) ∙ sym f ∙ g))

  pub weigh_leaf : (x k v sum order w : ℕ) (b : Bool) → k ≡ t.label x → v ≡ t.value x → b ≡ is_element (κ k) → b ≡ false → w ≡ mix k v 0
      → w ≡ weight_of κ t sum order x
  unfolding weight_of
  weigh_leaf x k v sum order w b e i f g h =
      h ∙ ap₂ (λ (n m : ℕ). mix n m 0) e i
      ∙ sym (ap (λ (c : Bool). cond c (mix (t.label x) order sum) (mix (t.label x) (t.value x) 0))
      (sym (ap (λ (n : ℕ). is_element (κ n)) e) ∙ sym f ∙ g))

-- value-equal nodes have equal weights
module _ (κ : ℕ → Class) (t : Table) (weight sums orders : List ℕ) (l : WeighedFrom κ t 1 weight sums orders) where
  Inside : List ℕ → Type 0
  Inside xs = (x : ℕ) → Memᴰ x xs → (0 < x) × (x < t.size)

  element_weight : (x : ℕ) → 0 < x → x < t.size → T (is_element (κ (t.label x)))
      → get_or weight x 0
      ≡ mix (t.label x) (fold_of ordered weight (others κ t x)) ((fold_of plus weight (attributes κ t x) + fold_of plus weight (others κ t x)) % range)
  unfolding weight_of
  element_weight x p h e =
      l.each x p h ∙ go (is_element (κ (t.label x))) e
      ∙ ap₂ (mix (t.label x)) (l.placed x h ∙ others_ordered κ t weight x)
      (l.summed x h ∙ ap (λ (k : ℕ). k % range) (children_split κ t weight x))
    where
      go : (b : Bool) → T b
          → cond b (mix (t.label x) (get_or orders x 0) (get_or sums x 0)) (mix (t.label x) (t.value x) 0) ≡ mix (t.label x) (get_or orders x 0) (get_or sums x 0)
      go true e = refl
      go false e = absurd e

  leaf_weight : (x : ℕ) → 0 < x → x < t.size → T (not (is_element (κ (t.label x)))) → get_or weight x 0 ≡ mix (t.label x) (t.value x) 0
  unfolding weight_of
  leaf_weight x p h e = l.each x p h ∙ go (is_element (κ (t.label x))) e
    where
      go : (b : Bool) → T (not b) → cond b (mix (t.label x) (get_or orders x 0) (get_or sums x 0)) (mix (t.label x) (t.value x) 0) ≡ mix (t.label x) (t.value x) 0
      go true e = absurd e
      go false e = refl

  attributes_inside : (v : ℕ) → Inside (attributes κ t v)
  unfolding Inside
  attributes_inside v x m = let c = (attribute_child κ t m).0 in (c.not_root, c.inside)

  others_inside : (v : ℕ) → Inside (others κ t v)
  unfolding Inside
  others_inside v x m = let c = (other_child κ t m).0 in (c.not_root, c.inside)

  mutual
    unfolding Inside fold_of

    equal_weight : {x y : ℕ} → Equal κ t x y → 0 < x → x < t.size → 0 < y → y < t.size → get_or weight x 0 ≡ get_or weight y 0
    equal_weight {x} {y} (leaves e n v) p h q g =
        leaf_weight x p h n ∙ ap₂ (λ (a b : ℕ). mix a b 0) e v
        ∙ sym (leaf_weight y q g (subst (λ (k : ℕ). T (not (is_element (κ k)))) e n))
    equal_weight {x} {y} (elements e n a o) p h q g =
        element_weight x p h n
        ∙ ap₂ (λ (k d : ℕ). mix k d ((fold_of plus weight (attributes κ t x) + fold_of plus weight (others κ t x)) % range)) e
        (lists_weight o ordered (others_inside x) (others_inside y))
        ∙ ap₂ (λ (c d : ℕ). mix (t.label y) (fold_of ordered weight (others κ t y)) ((c + d) % range))
        (sets_weight a (attributes_inside x) (attributes_inside y)) (lists_weight o plus (others_inside x) (others_inside y))
        ∙ sym (element_weight y q g (subst (λ (k : ℕ). T (is_element (κ k))) e n))

    sets_weight : {xs ys : List ℕ} → EqualSets κ t xs ys → Inside xs → Inside ys → fold_of plus weight xs ≡ fold_of plus weight ys
    sets_weight (matched p e) h g = lists_weight e plus h (λ z m. g z (perm_mem (Permᴰ.symm p) m)) ∙ sym (sum_order weight p)

    lists_weight : {xs ys : List ℕ} → EqualLists κ t xs ys → (step : ℕ → ℕ → ℕ) → Inside xs → Inside ys → fold_of step weight xs ≡ fold_of step weight ys
    lists_weight ended step h g = refl
    lists_weight (paired {x} {y} e r) step h g =
        let i = h x (Memᴰ.head refl) in
        let j = g y (Memᴰ.head refl) in
        ap₂ step (equal_weight e i.0 i.1 j.0 j.1)
        (lists_weight r step (λ z m. h z (Memᴰ.tail m)) (λ z m. g z (Memᴰ.tail m)))

  pub weighed_all : IsTree κ t → Weighed κ t weight
  weighed_all tree = record { equal = λ x y h g e. go x y h g e (ℕ_discrete x 0) (ℕ_discrete y 0) }
    where
      go : (x y : ℕ) → x < t.size → y < t.size → Equal κ t x y → Dec (x ≡ 0) → Dec (y ≡ 0) → get_or weight x 0 ≡ get_or weight y 0
      go x y h g e (yes z) (yes w) = ap (λ (n : ℕ). get_or weight n 0) (z ∙ sym w)
      go x y h g e (yes z) (no m) =
          absurd ((tree.rest y (omega arith) g).not_root (sym (equal_label e) ∙ ap (λ (k : ℕ). t.label k) z ∙ tree.root))
      go x y h g e (no n) (yes w) =
          absurd ((tree.rest x (omega arith) h).not_root (equal_label e ∙ ap (λ (k : ℕ). t.label k) w ∙ tree.root))
      go x y h g e (no n) (no m) = equal_weight e (omega arith) h (omega arith) g

-- the product in `mixed` fits 64 bits
pub product_fits : (a b : ℕ) → a < range → b < 131072 → a * b < 18446744073709551616
product_fits a b h g = let m = mul-le-mul_left a (le_of_lt g) in omega arith

-- the last step of the loop
pub weighed_end : (κ : ℕ → Class) (t : Table) (i : ℕ) (weight sums orders : List ℕ) → i ≤ 1 → 0 < i → IsTree κ t → WeighedFrom κ t i weight sums orders
    → Weighed κ t weight
weighed_end κ t i weight sums orders h p tree l =
    let e : i ≡ 1 = omega arith in weighed_all κ t weight sums orders (subst (λ (k : ℕ). WeighedFrom κ t k weight sums orders) e l) tree
