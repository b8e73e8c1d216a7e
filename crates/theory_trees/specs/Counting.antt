-- Attributes are leaves, so a one-to-one pairing of two lists of them is there exactly when each name with its value stands equally often in both.
use Prim.Native.Nat.{ℕ, suc, ◌+◌}
use Rattle.std.specs.Prelude.{◌≡◌, ◌&&◌, not, T}
use Rattle.std.proofs.Math.Path.{refl, sym, ap, ap₂}
use Rattle.std.proofs.Common.{◌∙◌, arith, T_not}
use Rattle.std.proofs.Math.Bool.{Bool}
use mathlib.Core.List.Permᴰ
use mathlib.Core.List.{List, [], ◌∷◌, Memᴰ}
use Rattle.std.proofs.Math.Dec.{eqb, eqb→eq, eqb_refl}
use Rattle.std.proofs.Math.ListN.{length}
use Rattle.meaning.specs.Lists.{every}
use Rattle.meaning.specs.Paths.{Class, element, attribute, text, is_element, is_attribute}
use Rattle.meaning.specs.Trees.{Table, Equal, leaves, elements, EqualSets, matched, EqualLists, ended, paired}
use Rattle.theory_lists.specs.Bools.{and_left, and_right, both, eqb_of, true_of, every_each, each_every}
use Rattle.theory_trees.specs.Matching.{one_if, count_of, perm_count, perm_length, Picked, pick}

-- two leaves of one label and one value
unfoldable pub same_leaf : Table → ℕ → ℕ → Bool
same_leaf t x y = eqb (t.label x) (t.label y) && eqb (t.value x) (t.value y)

-- each leaf of the first list stands equally often in both, and they are equally long
unfoldable pub same_counts : Table → List ℕ → List ℕ → Bool
same_counts t xs ys = eqb (length xs) (length ys) && every (λ (x : ℕ). eqb (count_of (same_leaf t x) xs) (count_of (same_leaf t x) ys)) xs

pub attribute_leaf : (k : Class) → T (is_attribute k) → T (not (is_element k))
unfolding is_attribute is_element
attribute_leaf element h = h
attribute_leaf attribute h = tt
attribute_leaf text h = tt

module _ (κ : ℕ → Class) (t : Table) where
  -- the members of a list are attributes
  abbrev pub Leaves : List ℕ → Type 0
  Leaves xs = (x : ℕ) → Memᴰ x xs → T (is_attribute (κ (t.label x)))

  pub leaf_equal : {x y : ℕ} → T (is_attribute (κ (t.label x))) → T (same_leaf t x y) → Equal κ t x y
  unfolding same_leaf
  leaf_equal {x} {y} a h =
      leaves (eqb→eq _ _ (and_left (eqb (t.label x) (t.label y)) _ h)) (attribute_leaf (κ (t.label x)) a)
      (eqb→eq _ _ (and_right (eqb (t.label x) (t.label y)) _ h))

  pub equal_leaf : {x y : ℕ} → T (is_attribute (κ (t.label x))) → Equal κ t x y → T (same_leaf t x y)
  unfolding same_leaf
  equal_leaf {x} {y} a (leaves l n v) = both (eqb (t.label x) (t.label y)) (eqb (t.value x) (t.value y)) (eqb_of _ _ l) (eqb_of _ _ v)
  equal_leaf {x} a (elements l e ats os) = absurd (T_not (is_element (κ (t.label x))) (attribute_leaf (κ (t.label x)) a) e)

  same_self : (x : ℕ) → T (same_leaf t x x)
  unfolding same_leaf
  same_self x = both (eqb (t.label x) (t.label x)) (eqb (t.value x) (t.value x)) (eqb_refl (t.label x)) (eqb_refl (t.value x))

  -- a leaf is the same as both of two that are the same, or as none of them
  pub same_either : (z a b : ℕ) → T (same_leaf t a b) → same_leaf t z a ≡ same_leaf t z b
  unfolding same_leaf
  same_either z a b h =
      ap₂ (λ (k v : ℕ). eqb (t.label z) k && eqb (t.value z) v) (eqb→eq _ _ (and_left (eqb (t.label a) (t.label b)) _ h))
      (eqb→eq _ _ (and_right (eqb (t.label a) (t.label b)) _ h))

  counts_match : (xs ys : List ℕ) → Leaves xs → length xs ≡ length ys
      → ((x : ℕ) → Memᴰ x xs → count_of (same_leaf t x) xs ≡ count_of (same_leaf t x) ys) → EqualSets κ t xs ys
  unfolding count_of one_if
  counts_match [] [] at long h = matched Permᴰ.nil ended
  counts_match [] (y ∷ ys) at long h = absurd (omega arith)
  counts_match (x ∷ xs) ys at long h =
      let own = ap one_if (true_of (same_leaf t x x) (same_self x)) in
      let c = h x (Memᴰ.head refl) in
      found (pick (same_leaf t x) ys (omega arith)) (λ rest. counts_match xs rest (λ z m. at z (Memᴰ.tail m)))
    where
      found : (p : Picked (same_leaf t x) ys)
          → ((rest : List ℕ) → length xs ≡ length rest → ((z : ℕ) → Memᴰ z xs → count_of (same_leaf t z) xs ≡ count_of (same_leaf t z) rest) → EqualSets κ t xs rest)
          → EqualSets κ t (x ∷ xs) ys
      found p ih =
          let l = perm_length p.order in
          go
          (ih p.rest (omega arith)
          (λ z m.
          let c = h z (Memᴰ.tail m) in
          let d = perm_count (same_leaf t z) p.order in
          let e = ap one_if (same_either z x p.member p.passes) in
          omega arith))
        where
          go : EqualSets κ t xs p.rest → EqualSets κ t (x ∷ xs) ys
          go (matched q e) =
              matched (Permᴰ.trans p.order (Permᴰ.cons refl q)) (paired (leaf_equal (at x (Memᴰ.head refl)) p.passes) e)

  lists_count : (z : ℕ) {xs ys : List ℕ} → Leaves xs → EqualLists κ t xs ys → count_of (same_leaf t z) xs ≡ count_of (same_leaf t z) ys
  unfolding count_of
  lists_count z at ended = refl
  lists_count z at (paired {x = x} {y = y} e r) =
      ap₂ (λ (b : Bool) (n : ℕ). one_if b + n) (same_either z x y (equal_leaf (at x (Memᴰ.head refl)) e))
      (lists_count z (λ w m. at w (Memᴰ.tail m)) r)

  lists_length : {xs ys : List ℕ} → EqualLists κ t xs ys → length xs ≡ length ys
  lists_length ended = refl
  lists_length (paired e r) = ap suc (lists_length r)

  pub counts_sets : (xs ys : List ℕ) → Leaves xs → T (same_counts t xs ys) → EqualSets κ t xs ys
  unfolding same_counts
  counts_sets xs ys at h =
      counts_match xs ys at (eqb→eq _ _ (and_left (eqb (length xs) (length ys)) _ h))
      (λ x m. eqb→eq _ _ (every_each _ xs (and_right (eqb (length xs) (length ys)) _ h) x m))

  pub sets_counts : (xs ys : List ℕ) → Leaves xs → EqualSets κ t xs ys → T (same_counts t xs ys)
  unfolding same_counts
  sets_counts xs ys at (matched p e) =
      both (eqb (length xs) (length ys)) (every test xs) (eqb_of _ _ (lists_length e ∙ sym (perm_length p)))
      (each_every test xs (λ x m. eqb_of _ _ (lists_count x at e ∙ sym (perm_count (same_leaf t x) p))))
    where
      test : ℕ → Bool
      test x = eqb (count_of (same_leaf t x) xs) (count_of (same_leaf t x) ys)
