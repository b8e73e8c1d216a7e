-- ARGUMENT §1, "Normal form": norm removes each 0 that follows a 0, and neither the words of a path nor the paths of which it is a
-- word change; the join is norm of the append.
use Rattle.std.specs.Prelude.{ℕ, zero, suc, ◌≡◌, refl, List, [], ◌∷◌, ◌++◌, T}
use Rattle.std.proofs.Common.{sym, ap, ◌∙◌, append_assoc, append-nil}
use Rattle.meaning.specs.Paths.{normal, norm, join}
use Rattle.theory_paths.specs.Words.{Word, word_refl, word_append, word_trans}

pub norm_normal : (P : List ℕ) → T (normal (norm P))
unfolding norm normal
norm_normal [] = tt
norm_normal (suc a ∷ P) = norm_normal P
norm_normal (zero ∷ []) = tt
norm_normal (zero ∷ zero ∷ P) = norm_normal (zero ∷ P)
norm_normal (zero ∷ suc a ∷ P) = norm_normal P

pub norm_of_normal : (P : List ℕ) → T (normal P) → norm P ≡ P
unfolding norm normal
norm_of_normal [] t = refl
norm_of_normal (suc a ∷ P) t = ap (λ (l : List ℕ). suc a ∷ l) (norm_of_normal P t)
norm_of_normal (zero ∷ []) t = refl
norm_of_normal (zero ∷ zero ∷ P) t = absurd t
norm_of_normal (zero ∷ suc a ∷ P) t = ap (λ (l : List ℕ). zero ∷ suc a ∷ l) (norm_of_normal P t)

pub norm_norm : (P : List ℕ) → norm (norm P) ≡ norm P
norm_norm P = norm_of_normal (norm P) (norm_normal P)

-- the words of a path and of its normal form are the same
pub word_norm→ : (P w : List ℕ) → Word (norm P) w → Word P w
unfolding norm Word
word_norm→ [] w h = h
word_norm→ (suc a ∷ P) w h = (h.0, h.1, word_norm→ P h.0 h.2)
word_norm→ (zero ∷ []) w h = h
word_norm→ (zero ∷ zero ∷ P) w h = ([], w, refl, word_norm→ (zero ∷ P) w h)
word_norm→ (zero ∷ suc a ∷ P) w h = (h.0, h.1, h.2, (h.3.0, h.3.1, word_norm→ P h.3.0 h.3.2))

pub word_norm← : (P w : List ℕ) → Word P w → Word (norm P) w
unfolding norm Word
word_norm← [] w h = h
word_norm← (suc a ∷ P) w h = (h.0, h.1, word_norm← P h.0 h.2)
word_norm← (zero ∷ []) w h = h
word_norm← (zero ∷ zero ∷ P) w h =
    word_norm← (zero ∷ P) w
    (h.0 ++ h.3.0, h.3.1, h.2 ∙ ap (λ (l : List ℕ). h.0 ++ l) h.3.2 ∙ sym (append_assoc h.0 h.3.0 h.3.1), h.3.3)
word_norm← (zero ∷ suc a ∷ P) w h = (h.0, h.1, h.2, (h.3.0, h.3.1, word_norm← P h.3.0 h.3.2))

-- a path and its normal form are words of one another
pub word_of_norm : (P : List ℕ) → Word P (norm P)
word_of_norm P = word_norm→ P (norm P) (word_refl (norm P))

pub norm_has_word : (P : List ℕ) → Word (norm P) P
norm_has_word P = word_norm← P P (word_refl P)

-- the same with norm in the run's place
pub run_norm→ : (Q P : List ℕ) → Word Q (norm P) → Word Q P
run_norm→ Q P h = word_trans (norm P) Q P h (norm_has_word P)

pub run_norm← : (Q P : List ℕ) → Word Q P → Word Q (norm P)
run_norm← Q P h = word_trans P Q (norm P) h (word_of_norm P)

norm_zero : (Q : List ℕ) → norm (zero ∷ norm Q) ≡ norm (zero ∷ Q)
unfolding norm
norm_zero [] = refl
norm_zero (suc a ∷ Q) = ap (λ (l : List ℕ). zero ∷ suc a ∷ l) (norm_norm Q)
norm_zero (zero ∷ []) = refl
norm_zero (zero ∷ zero ∷ Q) = norm_zero (zero ∷ Q)
norm_zero (zero ∷ suc a ∷ Q) = ap (λ (l : List ℕ). zero ∷ suc a ∷ l) (norm_norm Q)

pub norm_append_left : (P Q : List ℕ) → norm (norm P ++ Q) ≡ norm (P ++ Q)
unfolding norm
norm_append_left [] Q = refl
norm_append_left (suc a ∷ P) Q = ap (λ (l : List ℕ). suc a ∷ l) (norm_append_left P Q)
norm_append_left (zero ∷ []) Q = refl
norm_append_left (zero ∷ zero ∷ P) Q = norm_append_left (zero ∷ P) Q
norm_append_left (zero ∷ suc a ∷ P) Q = ap (λ (l : List ℕ). zero ∷ suc a ∷ l) (norm_append_left P Q)

pub norm_append_right : (P Q : List ℕ) → norm (P ++ norm Q) ≡ norm (P ++ Q)
unfolding norm
norm_append_right [] Q = norm_norm Q
norm_append_right (suc a ∷ P) Q = ap (λ (l : List ℕ). suc a ∷ l) (norm_append_right P Q)
norm_append_right (zero ∷ []) Q = norm_zero Q
norm_append_right (zero ∷ zero ∷ P) Q = norm_append_right (zero ∷ P) Q
norm_append_right (zero ∷ suc a ∷ P) Q = ap (λ (l : List ℕ). zero ∷ suc a ∷ l) (norm_append_right P Q)

-- a doubled any-path in the middle of a path is one
pub norm_doubled : (x y : List ℕ) → norm ((x ++ (0 ∷ [])) ++ (0 ∷ y)) ≡ norm (x ++ (0 ∷ y))
unfolding norm
norm_doubled x y = ap norm (append_assoc x (0 ∷ []) (0 ∷ y)) ∙ sym (norm_append_right x (0 ∷ 0 ∷ y)) ∙ norm_append_right x (0 ∷ y)

pub join_assoc : (P Q R : List ℕ) → join (join P Q) R ≡ join P (join Q R)
unfolding join
join_assoc P Q R =
    norm_append_left (P ++ Q) R ∙ ap norm (append_assoc P Q R) ∙ sym (norm_append_right P (Q ++ R))

-- the join of three is norm of the append of three
pub join_three : (P Q R : List ℕ) → join (join P Q) R ≡ norm (P ++ Q ++ R)
unfolding join
join_three P Q R = norm_append_left (P ++ Q) R

pub join_nil_left : (P : List ℕ) → T (normal P) → join [] P ≡ P
unfolding join
join_nil_left P t = norm_of_normal P t

pub join_nil_right : (P : List ℕ) → T (normal P) → join P [] ≡ P
unfolding join
join_nil_right P t = ap norm (append-nil P) ∙ norm_of_normal P t

pub word_join : (P Q u v : List ℕ) → Word P u → Word Q v → Word (join P Q) (u ++ v)
unfolding join
word_join P Q u v h k = word_norm← (P ++ Q) (u ++ v) (word_append P Q u v h k)

-- the words of the join are those of the append
pub word_join→ : (P Q w : List ℕ) → Word (join P Q) w → Word (P ++ Q) w
unfolding join
word_join→ P Q w h = word_norm→ (P ++ Q) w h

-- parts of a path in normal form
pub normal_tail : (s : ℕ) (P : List ℕ) → T (normal (s ∷ P)) → T (normal P)
unfolding normal
normal_tail (suc a) P t = t
normal_tail zero [] t = tt
normal_tail zero (zero ∷ P) t = absurd t
normal_tail zero (suc a ∷ P) t = t

pub normal_left : (P Q : List ℕ) → T (normal (P ++ Q)) → T (normal P)
unfolding normal
normal_left [] Q t = tt
normal_left (suc a ∷ P) Q t = normal_left P Q t
normal_left (zero ∷ []) Q t = tt
normal_left (zero ∷ zero ∷ P) Q t = t
normal_left (zero ∷ suc a ∷ P) Q t = normal_left P Q t
