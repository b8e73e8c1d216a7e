-- Lists of nodes under their numbers: a law of each node, part by part.
use Rattle.std.specs.Prelude.{ℕ, zero, suc, ◌+◌, ◌≤◌, ◌<◌, ◌≡◌, List, [], ◌∷◌, ◌++◌, length, get_or}
use Rattle.std.proofs.Common.{ap, subst, arith}
use Rattle.meaning.specs.Trees.{Node, no_node}

-- Q holds of each node of the list, whose first has the number n
pub data Numbered (Q : ℕ → Node → Type 0) : ℕ → List Node → Type 0 where
  none : {n : ℕ} → Numbered Q n []
  next : {n : ℕ} {x : Node} {xs : List Node} → Q n x → Numbered Q (suc n) xs → Numbered Q n (x ∷ xs)

-- node m of the whole list is this one
unfoldable pub Is : List Node → ℕ → Node → Type 0
Is whole m x = get_or whole m no_node ≡ x

module _ {Q : ℕ → Node → Type 0} where
  pub numbered_append : {n : ℕ} {xs ys : List Node} (m : ℕ) → m ≡ n + length xs → Numbered Q n xs → Numbered Q m ys → Numbered Q n (xs ++ ys)
  numbered_append {ys = ys} m e none r = subst (λ (k : ℕ). Numbered Q k ys) (omega arith) r
  numbered_append m e (next q l) r = next q (numbered_append m (omega arith) l r)

  pub numbered_left : {n : ℕ} (xs ys : List Node) → Numbered Q n (xs ++ ys) → Numbered Q n xs
  numbered_left [] ys l = none
  numbered_left (x ∷ xs) ys (next q l) = next q (numbered_left xs ys l)

  pub numbered_right : {n : ℕ} (m : ℕ) (xs ys : List Node) → m ≡ n + length xs → Numbered Q n (xs ++ ys) → Numbered Q m ys
  numbered_right {n} m [] ys e l = subst (λ (k : ℕ). Numbered Q k ys) (omega arith) l
  numbered_right m (x ∷ xs) ys e (next q l) = numbered_right m xs ys (omega arith) l

  pub numbered_at : {n : ℕ} {xs : List Node} → Numbered Q n xs → (i m : ℕ) → m ≡ n + i → i < length xs → Q m (get_or xs i no_node)
  numbered_at none i m e h = absurd (omega arith)
  numbered_at {n} (next {x = x} q l) zero m e h = subst (λ (k : ℕ). Q k x) (omega arith) q
  numbered_at (next q l) (suc i) m e h = numbered_at l i m (omega arith) (omega arith)

  pub numbered_of : (n : ℕ) (xs : List Node) → ((i m : ℕ) → m ≡ n + i → i < length xs → Q m (get_or xs i no_node)) → Numbered Q n xs
  numbered_of n [] h = none
  numbered_of n (x ∷ xs) h = next (h 0 n (omega arith) (omega arith)) (numbered_of (suc n) xs (λ i m e l. h (suc i) m (omega arith) (omega arith)))

module _ {Q R : ℕ → Node → Type 0} where
  pub numbered_map : {n : ℕ} {xs : List Node} → ((m : ℕ) (x : Node) → n ≤ m → m < n + length xs → Q m x → R m x) → Numbered Q n xs → Numbered R n xs
  numbered_map f none = none
  numbered_map {n} f (next {x = x} q l) =
      next (f n x (omega arith) (omega arith) q) (numbered_map (λ m y a b p. f m y (omega arith) (omega arith) p) l)

  pub numbered_both : {n : ℕ} {xs : List Node} → Numbered Q n xs → Numbered R n xs → Numbered (λ (m : ℕ) (x : Node). Q m x × R m x) n xs
  numbered_both none none = none
  numbered_both (next q l) (next r k) = next (q, r) (numbered_both l k)

-- each node of the whole list is itself
pub numbered_whole : (whole : List Node) → Numbered (Is whole) 0 whole
unfolding Is
numbered_whole whole = numbered_of 0 whole (λ i m e h. ap (λ (k : ℕ). get_or whole k no_node) (go i m e))
  where
    go : (i m : ℕ) → m ≡ 0 + i → m ≡ i
    go i m e = omega arith
