-- A path that does not name a label loses nothing where that label stands last in a word: only an any-path at its end can have taken it.
use Rattle.std.specs.Prelude.{ℕ, zero, suc, ◌≡◌, refl, ◌⊎◌}
use Rattle.std.proofs.Common.{sym, ap, subst, ◌∙◌, inl, inr}
use mathlib.Core.List.{
  List,
  [],
  ◌∷◌,
  ◌++◌,
  append-nil,
  cons≢nil,
  nil≢cons,
  head-eq_of_cons-eq,
  tail-eq_of_cons-eq,
  Memᴰ,
}
use Rattle.theory_paths.specs.Words.{Word}

-- the path does not name this label
unfoldable pub Without : ℕ → List ℕ → Type 0
Without l P = Memᴰ l P → ⊥

-- the last label belongs to the second part, unless that is empty
last_of : (l : ℕ) (r u v : List ℕ) → r ++ (l ∷ []) ≡ u ++ v → (v ≡ []) ⊎ ((v' : List ℕ) × (v ≡ v' ++ (l ∷ [])) × (r ≡ u ++ v'))
last_of l r [] v e = inr (r, sym e, refl)
last_of l [] (x ∷ u) v e = inl (go u v (tail-eq_of_cons-eq e))
  where
    go : (u v : List ℕ) → [] ≡ u ++ v → v ≡ []
    go [] v e = sym e
    go (x ∷ u) v e = absurd (nil≢cons e)
last_of l (y ∷ r) (x ∷ u) v e = go (last_of l r u v (tail-eq_of_cons-eq e))
  where
    go : (v ≡ []) ⊎ ((v' : List ℕ) × (v ≡ v' ++ (l ∷ [])) × (r ≡ u ++ v'))
        → (v ≡ []) ⊎ ((v' : List ℕ) × (v ≡ v' ++ (l ∷ [])) × (y ∷ r ≡ x ∷ u ++ v'))
    go (inl q) = inl q
    go (inr q) =
        inr
        (q.0, q.1, ap (λ (k : ℕ). k ∷ r) (head-eq_of_cons-eq e) ∙ ap (λ (k : List ℕ). x ∷ k) q.2)

pub word_shorter : (l : ℕ) (P r : List ℕ) → Without l P → Word P (r ++ (l ∷ [])) → Word P r
unfolding Word Without
word_shorter l [] [] n h = absurd (cons≢nil h)
word_shorter l [] (x ∷ r) n h = absurd (cons≢nil h)
word_shorter l (zero ∷ P) r n h =
    go (last_of l r h.0 h.1 h.2) (λ v k. word_shorter l P v (λ m. n (Memᴰ.tail m)) k)
  where
    go : (h.1 ≡ []) ⊎ ((v' : List ℕ) × (h.1 ≡ v' ++ (l ∷ [])) × (r ≡ h.0 ++ v')) → ((v : List ℕ) → Word P (v ++ (l ∷ [])) → Word P v)
        → Word (zero ∷ P) r
    go (inl q) rest = (r, [], sym (append-nil r), subst (λ (k : List ℕ). Word P k) q h.3)
    go (inr q) rest = (h.0, q.0, q.2, rest q.0 (subst (λ (k : List ℕ). Word P k) q.1 h.3))
word_shorter l (suc a ∷ P) [] n h = absurd (n (Memᴰ.head (head-eq_of_cons-eq h.1)))
word_shorter l (suc a ∷ P) (x ∷ r) n h = (
  r,
  ap (λ (k : ℕ). k ∷ r) (head-eq_of_cons-eq h.1),
  word_shorter l P r (λ m. n (Memᴰ.tail m)) (subst (λ (k : List ℕ). Word P k) (sym (tail-eq_of_cons-eq h.1)) h.2),
)
