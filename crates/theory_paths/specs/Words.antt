-- ARGUMENT §1: words by recursion on the path. A path may itself be read as a run, its own 0 being one more label that only an
-- any-path can take.
use Rattle.std.specs.Prelude.{ℕ, zero, suc, ◌≡◌, refl, ◌⊎◌, Bool, List, [], ◌∷◌, ◌++◌, T, eqb}
use Rattle.std.proofs.Common.{sym, ap, subst, ◌∙◌, inl, inr, append_assoc, eqb→eq}
use Rattle.std.proofs.Math.Dec.{eqb_refl}
use Rattle.meaning.specs.Lists.{is_empty}
use Rattle.meaning.specs.Paths.{member, front, any_end}
use Rattle.theory_lists.specs.Bools.{and_left, and_right, both, or_cases, or_left, or_right}
use Rattle.theory_lists.specs.Lists.{is_empty_nil}

-- The run w is a word of the path
unfoldable pub Word : List ℕ → List ℕ → Type 0
Word [] w = w ≡ []
Word (zero ∷ p) w = (u : List ℕ) × (v : List ℕ) × (w ≡ u ++ v) × Word p v
Word (suc a ∷ p) w = (v : List ℕ) × (w ≡ suc a ∷ v) × Word p v

-- some end of the run satisfies f
pub end_of : (f : List ℕ → Bool) (w : List ℕ) → T (any_end f w) → (u : List ℕ) × (v : List ℕ) × (w ≡ u ++ v) × T (f v)
unfolding any_end
end_of f [] t = ([], [], refl, t)
end_of f (x ∷ w) t = go (end_of f w) (or_cases (f (x ∷ w)) (any_end f w) t)
  where
    go : (T (any_end f w) → (u : List ℕ) × (v : List ℕ) × (w ≡ u ++ v) × T (f v)) → T (f (x ∷ w)) ⊎ T (any_end f w)
        → (u : List ℕ) × (v : List ℕ) × (x ∷ w ≡ u ++ v) × T (f v)
    go rest (inl s) = ([], x ∷ w, refl, s)
    go rest (inr s) = let r = rest s in (x ∷ r.0, r.1, ap (λ (l : List ℕ). x ∷ l) r.2, r.3)

pub of_end : (f : List ℕ → Bool) (u v : List ℕ) → T (f v) → T (any_end f (u ++ v))
unfolding any_end
of_end f [] [] t = t
of_end f [] (x ∷ v) t = or_left (f (x ∷ v)) (any_end f v) t
of_end f (x ∷ u) v t = or_right (f (x ∷ u ++ v)) (any_end f (u ++ v)) (of_end f u v t)

pub member→word : (P w : List ℕ) → T (member P w) → Word P w
unfolding member front Word
member→word [] w t = is_empty_nil w t
member→word (zero ∷ P) w t =
    let r = end_of (member P) w t in
    (r.0, r.1, r.2, member→word P r.1 r.3)
member→word (suc a ∷ P) [] t = absurd t
member→word (suc a ∷ P) (x ∷ w) t = (
  w,
  ap (λ (k : ℕ). k ∷ w) (eqb→eq x (suc a) (and_left (eqb x (suc a)) (member P w) t)),
  member→word P w (and_right (eqb x (suc a)) (member P w) t),
)

pub word→member : (P w : List ℕ) → Word P w → T (member P w)
unfolding member front Word is_empty
word→member [] w h = subst (λ (l : List ℕ). T (is_empty l)) (sym h) tt
word→member (zero ∷ P) w h =
    subst (λ (l : List ℕ). T (any_end (member P) l)) (sym h.2) (of_end (member P) h.0 h.1 (word→member P h.1 h.3))
word→member (suc a ∷ P) w h =
    subst (λ (l : List ℕ). T (front (suc a) (member P) l)) (sym h.1)
    (both (eqb (suc a) (suc a)) (member P h.0) (eqb_refl (suc a)) (word→member P h.0 h.2))

-- a path as a run of itself: its 0 is taken by the any-path
pub word_refl : (P : List ℕ) → Word P P
unfolding Word
word_refl [] = refl
word_refl (zero ∷ P) = (zero ∷ [], P, refl, word_refl P)
word_refl (suc a ∷ P) = (P, refl, word_refl P)

-- Append
pub word_append : (P Q u v : List ℕ) → Word P u → Word Q v → Word (P ++ Q) (u ++ v)
unfolding Word
word_append [] Q u v h k = subst (λ (l : List ℕ). Word Q (l ++ v)) (sym h) k
word_append (zero ∷ P) Q u v h k =
    (h.0, h.1 ++ v, ap (λ (l : List ℕ). l ++ v) h.2 ∙ append_assoc h.0 h.1 v, word_append P Q h.1 v h.3 k)
word_append (suc a ∷ P) Q u v h k = (h.0 ++ v, ap (λ (l : List ℕ). l ++ v) h.1, word_append P Q h.0 v h.2 k)

pub word_split : (P Q w : List ℕ) → Word (P ++ Q) w → (u : List ℕ) × (v : List ℕ) × (w ≡ u ++ v) × Word P u × Word Q v
unfolding Word
word_split [] Q w h = ([], w, refl, refl, h)
word_split (zero ∷ P) Q w h =
    let r = word_split P Q h.1 h.3 in
    (h.0 ++ r.0, r.1, h.2 ∙ ap (λ (l : List ℕ). h.0 ++ l) r.2 ∙ sym (append_assoc h.0 r.0 r.1), (h.0, r.0, refl, r.3), r.4)
word_split (suc a ∷ P) Q w h =
    let r = word_split P Q h.0 h.2 in
    (suc a ∷ r.0, r.1, h.1 ∙ ap (λ (l : List ℕ). suc a ∷ l) r.2, (r.0, refl, r.3), r.4)

-- an any-path takes whatever is put in front
pub word_more : (P u w : List ℕ) → Word (zero ∷ P) w → Word (zero ∷ P) (u ++ w)
unfolding Word
word_more P u w h =
    (u ++ h.0, h.1, ap (λ (l : List ℕ). u ++ l) h.2 ∙ sym (append_assoc u h.0 h.1), h.3)

-- Transitive: Q is the wider path, P a path read as a run of it
pub word_trans : (P Q w : List ℕ) → Word Q P → Word P w → Word Q w
unfolding Word
word_trans P [] w h k = subst (λ (l : List ℕ). Word l w) h k
word_trans P (zero ∷ Q) w h k =
    let r = word_split h.0 h.1 w (subst (λ (l : List ℕ). Word l w) h.2 k) in
    (r.0, r.1, r.2, word_trans h.1 Q r.1 h.3 r.4)
word_trans P (suc a ∷ Q) w h k =
    let r : Word (suc a ∷ h.0) w = subst (λ (l : List ℕ). Word l w) h.1 k in
    (r.0, r.1, word_trans h.0 Q r.0 h.2 r.2)
