-- Value equality as a computation. With `Laws`, the only place that knows the definition's text.
use Prim.Native.Nat.{ℕ, zero, suc, ◌<◌, ◌≤◌, ◌+◌}
use Rattle.std.specs.Prelude.{◌≡◌, Bool, not}
use Rattle.std.proofs.Math.Path.{refl}
use Rattle.std.proofs.Common.{sym, subst, arith, eqb→eq}
use Rattle.std.proofs.Math.Bool.{true, false}
use mathlib.Core.List.{List, [], ◌∷◌, Memᴰ}
use Rattle.std.proofs.Math.Decide.{map_dec}
use Rattle.std.proofs.Math.Dec.{T, eqb}
use Rattle.meaning.specs.Paths.{Class, is_element}
use Rattle.meaning.specs.Trees.{Table, Child, attributes, others, Equal, leaves, elements, EqualLists, ended, paired}
use Rattle.theory_lists.specs.Bools.{eqb_of}
use Rattle.theory_trees.specs.Below.{ParentsSmaller, child_greater}
use Rattle.theory_trees.specs.Children.{attribute_child, other_child}
use Rattle.theory_trees.specs.Counting.{same_counts, counts_sets, sets_counts}
use Rattle.theory_trees.specs.Climb.{T-dec}

-- two lists of nodes, pair by pair
unfoldable pub same_pairs : (ℕ → ℕ → Bool) → List ℕ → List ℕ → Bool
same_pairs f [] [] = true
same_pairs f [] (y ∷ ys) = false
same_pairs f (x ∷ xs) [] = false
same_pairs f (x ∷ xs) (y ∷ ys) = elim (f x y) [ true ↦ same_pairs f xs ys | false ↦ false ]

-- two nodes, so many levels down. (By `elim`, so that nothing is computed past the first difference)
unfoldable pub same_down : (ℕ → Class) → Table → ℕ → ℕ → ℕ → Bool
same_down κ t zero x y = false
same_down κ t (suc left) x y =
    elim (eqb (t.label x) (t.label y)) [
      | true ↦ elim (is_element (κ (t.label x))) [
        | true ↦ elim (same_counts t (attributes κ t x) (attributes κ t y)) [
          | true ↦ same_pairs (same_down κ t left) (others κ t x) (others κ t y)
          | false ↦ false
        ]
        | false ↦ eqb (t.value x) (t.value y)
      ]
      | false ↦ false
    ]

-- "Two nodes are value-equal": children have greater numbers, so no branch is longer than the table
unfoldable pub same_nodes : (ℕ → Class) → Table → ℕ → ℕ → Bool
same_nodes κ t x y = same_down κ t (suc t.size) x y

module _ {κ : ℕ → Class} {t : Table} where
  pairs_sound : (f : ℕ → ℕ → Bool) → ((x y : ℕ) → T (f x y) → Equal κ t x y) → (xs ys : List ℕ) → T (same_pairs f xs ys) → EqualLists κ t xs ys
  unfolding same_pairs
  pairs_sound f h [] [] s = ended
  pairs_sound f h [] (y ∷ ys) s = absurd s
  pairs_sound f h (x ∷ xs) [] s = absurd s
  pairs_sound f h (x ∷ xs) (y ∷ ys) s = go (f x y) refl s (pairs_sound f h xs ys)
    where
      go : (b : Bool) → f x y ≡ b → T (elim b [ true ↦ same_pairs f xs ys | false ↦ false ])
          → (T (same_pairs f xs ys) → EqualLists κ t xs ys) → EqualLists κ t (x ∷ xs) (y ∷ ys)
      go true e s r = paired (h x y (subst T (sym e) tt)) (r s)
      go false e s r = absurd s

  pairs_complete : (f : ℕ → ℕ → Bool) {xs ys : List ℕ} → EqualLists κ t xs ys
      → ((x y : ℕ) → Memᴰ x xs → Equal κ t x y → T (f x y)) → T (same_pairs f xs ys)
  unfolding same_pairs
  pairs_complete f ended h = tt
  pairs_complete f (paired {x = x} {y = y} {xs = xs} {ys = ys} e r) h =
      go (f x y) (h x y (Memᴰ.head refl) e) (pairs_complete f r (λ a b m. h a b (Memᴰ.tail m)))
    where
      go : (b : Bool) → T b → T (same_pairs f xs ys) → T (elim b [ true ↦ same_pairs f xs ys | false ↦ false ])
      go true s k = k
      go false s k = s

  down_sound : (left x y : ℕ) → T (same_down κ t left x y) → Equal κ t x y
  unfolding same_down
  down_sound zero x y h = absurd h
  down_sound (suc left) x y h =
      go (eqb (t.label x) (t.label y)) refl (is_element (κ (t.label x))) refl
      (same_counts t (attributes κ t x) (attributes κ t y)) refl
      (pairs_sound (same_down κ t left) (down_sound left)) h
    where
      go : (a : Bool) → eqb (t.label x) (t.label y) ≡ a → (b : Bool) → is_element (κ (t.label x)) ≡ b
          → (c : Bool) → same_counts t (attributes κ t x) (attributes κ t y) ≡ c
          → ((xs ys : List ℕ) → T (same_pairs (same_down κ t left) xs ys) → EqualLists κ t xs ys)
          → T (elim a [
            | true ↦ elim b [
              | true ↦ elim c [ true ↦ same_pairs (same_down κ t left) (others κ t x) (others κ t y) | false ↦ false ]
              | false ↦ eqb (t.value x) (t.value y)
            ]
            | false ↦ false
          ])
          → Equal κ t x y
      go true e true f true g r h =
          elements (eqb→eq (t.label x) (t.label y) (subst T (sym e) tt)) (subst T (sym f) tt)
          (counts_sets κ t (attributes κ t x) (attributes κ t y) (λ z m. (attribute_child κ t m).1) (subst T (sym g) tt))
          (r (others κ t x) (others κ t y) h)
      go true e true f false g r h = absurd h
      go true e false f c g r h =
          leaves (eqb→eq (t.label x) (t.label y) (subst T (sym e) tt)) (subst (λ (b : Bool). T (not b)) (sym f) tt)
          (eqb→eq (t.value x) (t.value y) h)
      go false e b f c g r h = absurd h

  down_complete : ParentsSmaller t → (left x y : ℕ) → 0 < left → t.size ≤ x + left → Equal κ t x y → T (same_down κ t left x y)
  unfolding same_down
  down_complete small zero x y positive enough h = absurd (omega arith)
  down_complete small (suc left) x y positive enough (leaves l n v) =
      go (eqb (t.label x) (t.label y)) (eqb_of (t.label x) (t.label y) l) (is_element (κ (t.label x))) n _
    where
      go : (a : Bool) → T a → (b : Bool) → T (not b) → (c : Bool)
          → T (elim a [ true ↦ elim b [ true ↦ c | false ↦ eqb (t.value x) (t.value y) ] | false ↦ false ])
      go true s true k c = absurd k
      go true s false k c = eqb_of (t.value x) (t.value y) v
      go false s b k c = s
  down_complete small (suc left) x y positive enough (elements l e ats os) =
      let deeper : (z w : ℕ) → Child t x z → Equal κ t z w → T (same_down κ t left z w) =
      λ z w c q. let g = child_greater small c in let i = c.inside in down_complete small left z w (omega arith) (omega arith) q in
      go (eqb (t.label x) (t.label y)) (eqb_of (t.label x) (t.label y) l) (is_element (κ (t.label x))) e
      (same_counts t (attributes κ t x) (attributes κ t y))
      (sets_counts κ t (attributes κ t x) (attributes κ t y) (λ z m. (attribute_child κ t m).1) ats)
      (same_pairs (same_down κ t left) (others κ t x) (others κ t y))
      (pairs_complete (same_down κ t left) os (λ z w m q. deeper z w (other_child κ t m).0 q))
    where
      go : (a : Bool) → T a → (b : Bool) → T b → (c : Bool) → T c → (d : Bool) → T d
          → T (elim a [ true ↦ elim b [ true ↦ elim c [ true ↦ d | false ↦ false ] | false ↦ eqb (t.value x) (t.value y) ] | false ↦ false ])
      go true s true k true m d n = n
      go true s true k false m d n = m
      go true s false k c m d n = absurd k
      go false s b k c m d n = s

  pub same_sound : (x y : ℕ) → T (same_nodes κ t x y) → Equal κ t x y
  unfolding same_nodes
  same_sound x y h = down_sound (suc t.size) x y h

  pub same_complete : ParentsSmaller t → (x y : ℕ) → Equal κ t x y → T (same_nodes κ t x y)
  unfolding same_nodes
  same_complete small x y h = down_complete small (suc t.size) x y (omega arith) (omega arith) h

  pub equal? : ParentsSmaller t → (x y : ℕ) → Dec (Equal κ t x y)
  equal? small x y = map_dec (same_sound x y) (same_complete small x y) (T-dec (same_nodes κ t x y))
