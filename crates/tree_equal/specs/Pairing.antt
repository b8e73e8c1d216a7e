-- "some one-to-one pairing makes them so", of nodes that have their families: it is there exactly when the two lists are equally long and
-- no family stands more often in the first than in the second.
use Rattle.std.specs.Prelude.{ℕ, ◌+◌, ◌<◌, ◌≤◌, ◌≡◌, Bool, eqb}
use Rattle.std.proofs.Math.Path.{refl, ap, ap₂}
use Rattle.std.proofs.Common.{sym, ◌∙◌, arith, eq-eqb}
use mathlib.Core.List.Permᴰ
use mathlib.Core.List.{
  List,
  [],
  ◌∷◌,
  Memᴰ,
}
use Rattle.std.proofs.Math.Dec.{eqb→eq}
use Rattle.std.proofs.Math.ListN.{length, get_or}
use Rattle.meaning.specs.Paths.{Class}
use Rattle.meaning.specs.Trees.{Table, Equal, EqualSets, matched, EqualLists, ended, paired}
use Rattle.theory_trees.specs.Matching.{one_if, count_of, perm_mem, perm_count, perm_length, Picked, pick}
use Rattle.tree_rows.specs.Families.{FamiliesFrom, families_tell}

-- node k is of family d
unfoldable pub is_of : List ℕ → ℕ → ℕ → Bool
is_of family d k = eqb (get_or family k 0) d

-- the nodes of a list have their families
abbrev pub Known : ℕ → ℕ → List ℕ → Type 0
Known from size xs = (x : ℕ) → Memᴰ x xs → (from ≤ x) × (x < size)

module _ (κ : ℕ → Class) (t : Table) (family : List ℕ) (from : ℕ) (c : FamiliesFrom κ t family from) where
  same_family : (x y : ℕ) → (from ≤ x) × (x < t.size) → (from ≤ y) × (y < t.size) → get_or family x 0 ≡ get_or family y 0 → Equal κ t x y
  same_family x y a b e =
      (families_tell κ t family from x y (get_or family x 0) (get_or family y 0) c a.0 a.1 b.0 b.1 refl refl).yes (eq-eqb (get_or family x 0) (get_or family y 0) e)

  pub families_match : (xs ys : List ℕ) → Known from t.size xs → Known from t.size ys → length xs ≡ length ys
      → ((d : ℕ) → count_of (is_of family d) xs ≤ count_of (is_of family d) ys) → EqualSets κ t xs ys
  unfolding count_of one_if is_of
  families_match [] [] a b long h = matched Permᴰ.nil ended
  families_match [] (y ∷ ys) a b long h = absurd (omega arith)
  families_match (x ∷ xs) ys a b long h =
      let own = ap one_if (eq-eqb (get_or family x 0) (get_or family x 0) refl) in
      let m = h (get_or family x 0) in
      found (pick (is_of family (get_or family x 0)) ys (omega arith)) (λ rest. families_match xs rest (λ z i. a z (Memᴰ.tail i)))
    where
      found : (p : Picked (is_of family (get_or family x 0)) ys)
          → ((rest : List ℕ) → Known from t.size rest → length xs ≡ length rest
          → ((d : ℕ) → count_of (is_of family d) xs ≤ count_of (is_of family d) rest) → EqualSets κ t xs rest)
          → EqualSets κ t (x ∷ xs) ys
      found p ih =
          let same : get_or family p.member 0 ≡ get_or family x 0 = eqb→eq _ _ p.passes in
          let l = perm_length p.order in
          go same
          (ih p.rest (λ z i. b z (perm_mem (Permᴰ.symm p.order) (Memᴰ.tail i))) (omega arith)
          (λ d.
          let g = h d in
          let n = perm_count (is_of family d) p.order in
          let e = ap (λ (k : ℕ). one_if (eqb k d)) same in
          omega arith))
        where
          go : get_or family p.member 0 ≡ get_or family x 0 → EqualSets κ t xs p.rest → EqualSets κ t (x ∷ xs) ys
          go same (matched q e) =
              matched (Permᴰ.trans p.order (Permᴰ.cons refl q))
              (paired
              (same_family x p.member (a x (Memᴰ.head refl)) (b p.member (perm_mem (Permᴰ.symm p.order) (Memᴰ.head refl))) (sym same)) e)

  lists_count : (d : ℕ) {xs ys : List ℕ} → Known from t.size xs → Known from t.size ys → EqualLists κ t xs ys
      → count_of (is_of family d) xs ≡ count_of (is_of family d) ys
  unfolding count_of is_of
  lists_count d a b ended = refl
  lists_count d a b (paired {x = x} {y = y} e r) =
      let i = a x (Memᴰ.head refl) in
      let j = b y (Memᴰ.head refl) in
      ap₂ (λ (k n : ℕ). one_if (eqb k d) + n) (c.one x y i.0 i.1 j.0 j.1 e)
      (lists_count d (λ z m. a z (Memᴰ.tail m)) (λ z m. b z (Memᴰ.tail m)) r)

  pub sets_count : (d : ℕ) {xs ys : List ℕ} → Known from t.size xs → Known from t.size ys → EqualSets κ t xs ys
      → count_of (is_of family d) xs ≡ count_of (is_of family d) ys
  sets_count d a b (matched p e) = lists_count d a (λ z m. b z (perm_mem (Permᴰ.symm p) m)) e ∙ sym (perm_count (is_of family d) p)
