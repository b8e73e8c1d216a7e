-- Small facts on numbers, on `Each` and on membership, of which the chapters below make use.
use Rattle.std.specs.Prelude.{ℕ, zero, suc, ◌+◌, ◌≤◌, ◌<◌, ◌≡◌, ◌⊎◌, T, ltb, length}
use Rattle.std.proofs.Common.{sym, ap, inl, inr, arith, ltb→lt, ltb-false}
use mathlib.Core.List.{List, [], ◌∷◌, ◌++◌, map, Memᴰ}
use Rattle.std.proofs.Math.Option.{some, none-ne-some, some-injective}
use Rattle.std.proofs.Math.ListN.{get_elem?}
use Rattle.meaning.specs.Lists.{Each, end, also}
use Rattle.theory_lists.specs.Bools.{T-cases, false_of}
pub use Rattle.theory_lists.specs.Lists.{get_or_mem}

-- of two numbers the first is smaller, or not
pub less_or : (m n : ℕ) → (m < n) ⊎ (n ≤ m)
less_or m n = go (T-cases (ltb m n))
  where
    go : T (ltb m n) ⊎ (T (ltb m n) → ⊥) → (m < n) ⊎ (n ≤ m)
    go (inl h) = inl (ltb→lt m n h)
    go (inr f) = inr (ltb-false m n (false_of (ltb m n) f))

module _ {A : Type 0} where
  pub each_imp : {P Q : A → Type 0} {xs : List A} → ((x : A) → P x → Q x) → Each P xs → Each Q xs
  each_imp f end = end
  each_imp f (also {x} p e) = also (f x p) (each_imp f e)

  pub each_both : {P Q R : A → Type 0} {xs : List A} → ((x : A) → P x → Q x → R x) → Each P xs → Each Q xs → Each R xs
  each_both f end end = end
  each_both f (also {x} p e) (also q d) = also (f x p q) (each_both f e d)

  -- a list that has a member is not empty
  pub mem_some : {x : A} {xs : List A} → Memᴰ x xs → 1 ≤ length xs
  mem_some (Memᴰ.head e) = omega arith
  mem_some (Memᴰ.tail m) = omega arith

  -- a number of a list is the place of a member
  pub found_mem : (xs : List A) (n : ℕ) {x : A} → get_elem? xs n ≡ some x → Memᴰ x xs
  found_mem [] n e = absurd (none-ne-some _ e)
  found_mem (y ∷ xs) zero e = Memᴰ.head (sym (some-injective _ _ e))
  found_mem (y ∷ xs) (suc n) e = Memᴰ.tail (found_mem xs n e)

  pub found_below : (xs : List A) (n : ℕ) {x : A} → get_elem? xs n ≡ some x → n < length xs
  found_below [] n e = absurd (none-ne-some _ e)
  found_below (y ∷ xs) zero e = omega arith
  found_below (y ∷ xs) (suc n) e = let h = found_below xs n e in omega arith

  -- what stands behind the first list, by its number there
  pub found_later : (xs ys : List A) (n m : ℕ) → n ≡ length xs + m → get_elem? (xs ++ ys) n ≡ get_elem? ys m
  found_later [] ys n m e = ap (get_elem? ys) (let z : n ≡ 0 + m = e in omega arith)
  found_later (x ∷ xs) ys zero m e = absurd (let z : 0 ≡ suc (length xs) + m = e in omega arith)
  found_later (x ∷ xs) ys (suc n) m e = found_later xs ys n m (let z : suc n ≡ suc (length xs) + m = e in omega arith)

  pub found_before : (xs ys : List A) (n : ℕ) {x : A} → get_elem? xs n ≡ some x → get_elem? (xs ++ ys) n ≡ some x
  found_before [] ys n e = absurd (none-ne-some _ e)
  found_before (x ∷ xs) ys zero e = e
  found_before (x ∷ xs) ys (suc n) e = found_before xs ys n e

module _ {A B : Type 0} where
  pub each_map : {Q : B → Type 0} (f : A → B) {xs : List A} → Each (λ x. Q (f x)) xs → Each Q (map f xs)
  each_map f end = end
  each_map f (also q e) = also q (each_map f e)
