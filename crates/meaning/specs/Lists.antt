-- The few functions on lists that the definitions use and the library lacks.
use Rattle.std.specs.Prelude.{ℕ, zero, suc, Bool, true, false, cond, ◌&&◌, ◌||◌, List, [], ◌∷◌, eqb, ltb, length}

-- Q holds of each member
pub data Each {A : Type 0} (Q : A → Type 0) : List A → Type 0 where
  end : Each Q []
  also : {x : A} {xs : List A} → Q x → Each Q xs → Each Q (x ∷ xs)

module _ {A : Type 0} where
  unfoldable pub every : (A → Bool) → List A → Bool
  every f [] = true
  every f (x ∷ xs) = f x && every f xs

  unfoldable pub any : (A → Bool) → List A → Bool
  any f [] = false
  any f (x ∷ xs) = f x || any f xs

  -- those members of which f is true, in their order
  unfoldable pub keep : (A → Bool) → List A → List A
  keep f [] = []
  keep f (x ∷ xs) = let rest = keep f xs in cond (f x) (x ∷ rest) rest

  unfoldable pub is_empty : List A → Bool
  is_empty [] = true
  is_empty (x ∷ xs) = false

-- n, n + 1, .. : as many numbers as the count says
unfoldable pub numbers : ℕ → ℕ → List ℕ
numbers zero n = []
numbers (suc count) n = n ∷ numbers count (suc n)

-- two runs of bytes are the same
unfoldable pub same : List ℕ → List ℕ → Bool
same [] [] = true
same [] (y ∷ ys) = false
same (x ∷ xs) [] = false
same (x ∷ xs) (y ∷ ys) = eqb x y && same xs ys

-- of two runs of equal length, the first stands before the second by bytes
unfoldable pub lower : List ℕ → List ℕ → Bool
lower [] ys = false
lower (x ∷ xs) [] = false
lower (x ∷ xs) (y ∷ ys) = ltb x y || (eqb x y && lower xs ys)

-- "Key paths stand shorter first, equal lengths by bytes"
unfoldable pub before : List ℕ → List ℕ → Bool
before p q = ltb (length p) (length q) || (eqb (length p) (length q) && lower p q)

-- ".., none twice": each stands before the next
unfoldable pub ascending : List (List ℕ) → Bool
ascending [] = true
ascending (p ∷ []) = true
ascending (p ∷ q ∷ ps) = before p q && ascending (q ∷ ps)
