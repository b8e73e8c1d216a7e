-- ARGUMENT §1, "Simple paths are rigid": a path with no 0 has itself as its only word.
use Rattle.std.specs.Prelude.{ℕ, zero, suc, ◌≡◌, not, List, [], ◌∷◌, ◌++◌, T, eqb}
use Rattle.std.proofs.Common.{ap, ◌∙◌}
use Rattle.meaning.specs.Paths.{normal, join, simple}
use Rattle.theory_lists.specs.Bools.{every_append, every_left, every_right, every_head, every_tail}
use Rattle.theory_paths.specs.Words.{Word}
use Rattle.theory_paths.specs.Normal.{norm_of_normal}

pub simple_tail : (s : ℕ) (p : List ℕ) → T (simple (s ∷ p)) → T (simple p)
unfolding simple
simple_tail s p t = every_tail (λ (s : ℕ). not (eqb s 0)) s p t

pub simple_head : (p : List ℕ) → T (simple (zero ∷ p)) → ⊥
unfolding simple
simple_head p t = every_head (λ (s : ℕ). not (eqb s 0)) zero p t

pub simple_append : (p q : List ℕ) → T (simple p) → T (simple q) → T (simple (p ++ q))
unfolding simple
simple_append p q s t = every_append (λ (s : ℕ). not (eqb s 0)) p q s t

pub simple_left : (p q : List ℕ) → T (simple (p ++ q)) → T (simple p)
unfolding simple
simple_left p q t = every_left (λ (s : ℕ). not (eqb s 0)) p q t

pub simple_right : (p q : List ℕ) → T (simple (p ++ q)) → T (simple q)
unfolding simple
simple_right p q t = every_right (λ (s : ℕ). not (eqb s 0)) p q t

pub simple_word : (p w : List ℕ) → T (simple p) → Word p w → w ≡ p
unfolding Word
simple_word [] w t h = h
simple_word (zero ∷ p) w t h = absurd (simple_head p t)
simple_word (suc a ∷ p) w t h = h.1 ∙ ap (λ (l : List ℕ). suc a ∷ l) (simple_word p h.0 (simple_tail (suc a) p t) h.2)

pub simple_normal : (p : List ℕ) → T (simple p) → T (normal p)
unfolding normal
simple_normal [] t = tt
simple_normal (zero ∷ p) t = absurd (simple_head p t)
simple_normal (suc a ∷ p) t = simple_normal p (simple_tail (suc a) p t)

-- one of the two parts has no 0: nothing is doubled where they meet
pub normal_append_simple : (P p : List ℕ) → T (normal P) → T (simple p) → T (normal (P ++ p))
unfolding normal
normal_append_simple [] p s t = simple_normal p t
normal_append_simple (suc a ∷ P) p s t = normal_append_simple P p s t
normal_append_simple (zero ∷ []) [] s t = tt
normal_append_simple (zero ∷ []) (zero ∷ p) s t = absurd (simple_head p t)
normal_append_simple (zero ∷ []) (suc a ∷ p) s t = simple_normal p (simple_tail (suc a) p t)
normal_append_simple (zero ∷ zero ∷ P) p s t = absurd s
normal_append_simple (zero ∷ suc a ∷ P) p s t = normal_append_simple P p s t

-- the join with a simple path is the append
pub join_simple : (P p : List ℕ) → T (normal P) → T (simple p) → join P p ≡ P ++ p
unfolding join
join_simple P p s t = norm_of_normal (P ++ p) (normal_append_simple P p s t)

pub join_simples : (p q : List ℕ) → T (simple p) → T (simple q) → join p q ≡ p ++ q
join_simples p q s t = join_simple p q (simple_normal p s) t
