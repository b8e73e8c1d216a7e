-- Which numbers a walk can refuse by: none beyond the greatest of its tests.
use Prim.Native.Nat.{ℕ, zero, suc, ◌-◌, ◌≤◌}
use Rattle.std.specs.Prelude.{◌≡◌, Bool, true, false, cond, eqb, ltb, length}
use Rattle.std.proofs.Math.Path.{refl}
use Rattle.std.proofs.Common.{subst}
use mathlib.Core.List.{List, [], ◌∷◌}
use native.Mathlib.Omega.{arith}
use Rattle.meaning.specs.Lists.{Each, end, also, is_empty}
use Rattle.meaning.specs.Paths.{Label}
use Rattle.meaning.specs.Trees.{Node}
use Rattle.meaning.specs.Records.{record_length}
use Rattle.meaning.specs.Refusals.{Refusal, sound, first_refusal, first_of, walk, oversize, node_kind_in, tree_limit, tree_tests, tree_walked, tree_refusal}

unfoldable pub NumberedTo : ℕ → List (ℕ × Bool) → Type 0
NumberedTo m ts = Each (λ (t : ℕ × Bool). t.0 ≤ m) ts

pub first_at_most : (m : ℕ) (ts : List (ℕ × Bool)) → NumberedTo m ts → first_of ts ≤ m
unfolding first_of NumberedTo
first_at_most m [] end = omega arith
first_at_most m (t ∷ ts) (also h hs) = go t.1 (first_at_most m ts hs)
  where
    go : (b : Bool) → first_of ts ≤ m → cond b t.0 (first_of ts) ≤ m
    go true k = h
    go false k = k

pub refusal_at_most : (m : ℕ) (rs : List Refusal) → Each (λ (r : Refusal). r.number ≤ m) rs → (first_refusal rs).number ≤ m
unfolding first_refusal
refusal_at_most m [] end = omega arith
refusal_at_most m (r ∷ rs) (also h hs) = go (eqb r.number 0) (refusal_at_most m rs hs)
  where
    go : (b : Bool) → (first_refusal rs).number ≤ m → (cond b (first_refusal rs) r).number ≤ m
    go true k = k
    go false k = h

module _ {S : Type 0} (tests : S → List ℕ → List (ℕ × Bool)) (next : S → List ℕ → S) (m : ℕ)
    (most : (s : S) (l : List ℕ) → NumberedTo m (tests s l)) where
  pub walk_at_most : (k n : ℕ) (s : S) (l : List ℕ) → (walk tests next k n s l).number ≤ m
  unfolding walk
  walk_at_most zero n s [] = omega arith
  walk_at_most (suc k) n s [] = omega arith
  walk_at_most (suc k) n s (b ∷ l) = walk_at_most k n s l
  walk_at_most zero n s (b ∷ l) =
      go (first_of (tests s (b ∷ l))) refl (first_at_most m (tests s (b ∷ l)) (most s (b ∷ l)))
      (walk_at_most (record_length (b ∷ l) - 1) (suc n) (next s (b ∷ l)) l)
    where
      go : (r : ℕ) → first_of (tests s (b ∷ l)) ≡ r → first_of (tests s (b ∷ l)) ≤ m → (walk tests next (record_length (b ∷ l) - 1) (suc n) (next s (b ∷ l)) l).number ≤ m
          → (walk tests next 0 n s (b ∷ l)).number ≤ m
      go zero e h more = rw (walk, e) more
      go (suc r) e h more = rw (walk, e) (subst (λ (x : ℕ). x ≤ m) e h)

pub numbered : (m n : ℕ) (b : Bool) (ts : List (ℕ × Bool)) → n ≤ m → NumberedTo m ts → NumberedTo m ((n, b) ∷ ts)
unfolding NumberedTo
numbered m n b ts h hs = also h hs

pub numbered_end : (m : ℕ) → NumberedTo m []
unfolding NumberedTo
numbered_end m = end

-- one line more for each test more
tree_tests_to : (second : Bool) (kind : ℕ) (labels : List Label) (nodes : List Node) (l : List ℕ) → NumberedTo 19 (tree_tests second kind labels nodes l)
unfolding tree_tests
tree_tests_to second kind labels nodes l =
    numbered 19 7 _ _ (omega arith)
    (numbered 19 1 _ _ (omega arith)
    (numbered 19 2 _ _ (omega arith) (numbered 19 8 _ _ (omega arith) (numbered 19 16 _ _ (omega arith) (numbered_end 19)))))

either_to : (m : ℕ) (b : Bool) (r s : Refusal) → r.number ≤ m → s.number ≤ m → (cond b r s).number ≤ m
either_to m true r s h k = h
either_to m false r s h k = k

-- a tree is refused by 1, 2, 7, 8 or 16
pub tree_number : (second : Bool) (labels : List Label) (bytes : List ℕ) → (tree_refusal second labels bytes).number ≤ 19
unfolding tree_refusal oversize tree_walked
tree_number second labels bytes =
    refusal_at_most 19 _
    (also (either_to 19 (ltb (tree_limit (node_kind_in bytes)) (length bytes)) (record { number = 7; input = 3; place = 0 }) sound (omega arith) (omega arith))
    (also (walk_at_most (tree_tests second (node_kind_in bytes) labels) _ 19 (tree_tests_to second (node_kind_in bytes) labels) 0 0 [] bytes)
    (also (either_to 19 (is_empty bytes) (record { number = 8; input = 3; place = 0 }) sound (omega arith) (omega arith)) end)))
