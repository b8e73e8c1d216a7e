-- The attributes of a node, and its other children: being in those lists is being a child of that class.
use Rattle.std.specs.Prelude.{ℕ, zero, suc, ◌<◌, ◌≤◌, ◌+◌, ◌-◌, ◌≡◌, ◌⊎◌, Bool, cond, ◌&&◌, eqb}
use Rattle.std.proofs.Math.Path.{refl, subst}
use Rattle.std.proofs.Common.{sym, inl, inr, arith, eqb→eq}
use Rattle.std.proofs.Math.Logic.{⊎_elim}
use Rattle.std.proofs.Math.Bool.{true, false, not}
use mathlib.Core.List.Memᴰ
use mathlib.Core.List.{List, [], ◌∷◌, Memᴰ}
use Rattle.std.proofs.Math.Decide.{ℕ_discrete}
use Rattle.std.proofs.Math.Dec.{T, eqb_refl}
use Rattle.meaning.specs.Lists.{keep, numbers}
use Rattle.meaning.specs.Paths.{Class, is_attribute}
use Rattle.meaning.specs.Trees.{Table, Child, attributes, others}
use Rattle.theory_lists.specs.Bools.{and_left, and_right, both}

-- `keep` holds those members that pass the test
module _ {A : Type 0} (f : A → Bool) where
  pub keep_mem : {x : A} (xs : List A) → Memᴰ x (keep f xs) → Memᴰ x xs × T (f x)
  unfolding keep
  keep_mem [] m = elim m [ ]
  keep_mem {x} (y ∷ ys) m = go (f y) refl (keep_mem ys) m
    where
      go : (b : Bool) → f y ≡ b → (Memᴰ x (keep f ys) → Memᴰ x ys × T (f x)) → Memᴰ x (cond b (y ∷ keep f ys) (keep f ys))
          → Memᴰ x (y ∷ ys) × T (f x)
      go true e ih m =
          ⊎_elim (λ p. (Memᴰ.head p, subst (λ z. T (f z)) (sym p) (subst T (sym e) tt)))
          (λ r. (Memᴰ.tail (ih r).0, (ih r).1)) (Memᴰ.cases_cons m)
      go false e ih m = (Memᴰ.tail (ih m).0, (ih m).1)

  pub mem_keep : {x : A} (xs : List A) → Memᴰ x xs → T (f x) → Memᴰ x (keep f xs)
  unfolding keep
  mem_keep [] m h = elim m [ ]
  mem_keep {x} (y ∷ ys) m h = go (f y) refl (λ r. mem_keep ys r h) (Memᴰ.cases_cons m)
    where
      go : (b : Bool) → f y ≡ b → (Memᴰ x ys → Memᴰ x (keep f ys)) → (x ≡ y) ⊎ Memᴰ x ys
          → Memᴰ x (cond b (y ∷ keep f ys) (keep f ys))
      go true e ih (inl p) = Memᴰ.head p
      go true e ih (inr r) = Memᴰ.tail (ih r)
      go false e ih (inl p) = absurd (subst T e (subst (λ z. T (f z)) p h))
      go false e ih (inr r) = ih r

-- `numbers` holds each number of its range
pub numbers_mem : {x : ℕ} (count n : ℕ) → Memᴰ x (numbers count n) → (n ≤ x) × (x < n + count)
unfolding numbers
numbers_mem zero n m = elim m [ ]
numbers_mem {x} (suc count) n m =
    ⊎_elim {C = (n ≤ x) × (x < n + suc count)} (λ p. (omega arith, omega arith))
    (λ r. let h = numbers_mem count (suc n) r in (omega arith, omega arith)) (Memᴰ.cases_cons m)

pub mem_numbers : (x count n : ℕ) → n ≤ x → x < n + count → Memᴰ x (numbers count n)
unfolding numbers
mem_numbers x zero n low high = absurd (omega arith)
mem_numbers x (suc count) n low high = go (ℕ_discrete x n) (λ h. mem_numbers x count (suc n) h (omega arith))
  where
    go : Dec (x ≡ n) → (suc n ≤ x → Memᴰ x (numbers count (suc n))) → Memᴰ x (n ∷ numbers count (suc n))
    go (yes e) ih = Memᴰ.head e
    go (no h) ih = Memᴰ.tail (ih (omega arith))

-- the children of v, by a test of their numbers
module _ (t : Table) (v : ℕ) (f : ℕ → Bool) where
  tested_child : {x : ℕ} → Memᴰ x (keep (λ (x : ℕ). eqb (t.parent x) v && f x) (numbers (t.size - 1) 1)) → Child t v x × T (f x)
  tested_child {x} m =
      let k = keep_mem (λ (x : ℕ). eqb (t.parent x) v && f x) (numbers (t.size - 1) 1) m in
      let r = numbers_mem (t.size - 1) 1 k.0 in (
        record {
          not_root = omega arith;
          inside = omega arith;
          below = eqb→eq (t.parent x) v (and_left (eqb (t.parent x) v) (f x) k.1);
        },
        and_right (eqb (t.parent x) v) (f x) k.1,
      )

  child_tested : {x : ℕ} → Child t v x → T (f x) → Memᴰ x (keep (λ (x : ℕ). eqb (t.parent x) v && f x) (numbers (t.size - 1) 1))
  child_tested {x} c h =
      mem_keep (λ (x : ℕ). eqb (t.parent x) v && f x) (numbers (t.size - 1) 1)
      (mem_numbers x (t.size - 1) 1 c.not_root (let k = c.inside in omega arith))
      (both (eqb (t.parent x) v) (f x) (subst (λ (p : ℕ). T (eqb p v)) (sym c.below) (eqb_refl v)) h)

-- Membership in the two lists, both ways
module _ (κ : ℕ → Class) (t : Table) {v x : ℕ} where
  pub attribute_child : Memᴰ x (attributes κ t v) → Child t v x × T (is_attribute (κ (t.label x)))
  unfolding attributes
  attribute_child m = tested_child t v (λ x. is_attribute (κ (t.label x))) m

  pub child_attribute : Child t v x → T (is_attribute (κ (t.label x))) → Memᴰ x (attributes κ t v)
  unfolding attributes
  child_attribute c h = child_tested t v (λ x. is_attribute (κ (t.label x))) c h

  pub other_child : Memᴰ x (others κ t v) → Child t v x × T (not (is_attribute (κ (t.label x))))
  unfolding others
  other_child m = tested_child t v (λ x. not (is_attribute (κ (t.label x)))) m

  pub child_other : Child t v x → T (not (is_attribute (κ (t.label x)))) → Memᴰ x (others κ t v)
  unfolding others
  child_other c h = child_tested t v (λ x. not (is_attribute (κ (t.label x)))) c h
