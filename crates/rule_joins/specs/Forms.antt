-- The form of one path, and the same of two: a law for each return of the loops, which walk from the front.
use Rattle.std.specs.Prelude.{ℕ, zero, suc, ◌<◌, ◌≡◌, refl, Bool, false, ◌&&◌, not, List, ◌∷◌, ◌++◌, length, take, drop}
use Rattle.std.proofs.Common.{arith, sym, ap, ◌∙◌, take-append-drop, take_all, eq-eqb, ne_eqb}
use lib.Dec.{T, eqb}
use Rattle.std.proofs.Math.Seq.{take-append_seam}
use Rattle.meaning.specs.Lists.{same}
use Rattle.meaning.specs.Paths.{normal}
use Rattle.theory_lists.specs.Bools.{same_eq, eq_same, false_of}

-- p begins with s
unfoldable pub is_beginning : List ℕ → List ℕ → Bool
is_beginning s p = same s (take (length s) p)

-- two 0 stand together
unfoldable pub is_doubled : ℕ → ℕ → Bool
is_doubled s t = eqb s 0 && eqb t 0

pub beginning_rest : (s p : List ℕ) → T (is_beginning s p) → p ≡ s ++ drop (length s) p
unfolding is_beginning
beginning_rest s p t =
    sym (take-append-drop (length s) p) ∙ ap (λ (l : List ℕ). l ++ drop (length s) p) (sym (same_eq s (take (length s) p) t))

pub beginning_of : (s rest : List ℕ) → T (is_beginning s (s ++ rest))
unfolding is_beginning
beginning_of s rest = eq_same s (take (length s) (s ++ rest)) (sym (take-append_seam s rest))

-- lists of other lengths are not the same
same_length : (a b : List ℕ) → T (same a b) → length a ≡ length b
same_length a b t = ap length (same_eq a b t)

pub same_other_length : (a b : List ℕ) → (length a ≡ length b → ⊥) → false ≡ same a b
same_other_length a b n = sym (false_of (same a b) (λ t. n (same_length a b t)))

-- `begins`: a longer list begins no shorter one
pub too_long : (s p : List ℕ) → length p < length s → false ≡ is_beginning s p
unfolding is_beginning
too_long s p l =
    same_other_length s (take (length s) p) (λ e. absurd (longer e))
  where
    longer : length s ≡ length (take (length s) p) → ⊥
    longer e = let f = e ∙ ap length (take_all (length s) p (omega arith)) in omega arith

pub begun : (s p : List ℕ) (r : Bool) → r ≡ same s (take (length s) p) → r ≡ is_beginning s p
unfolding is_beginning
begun s p r e = e

pub doubled_not : (s t : ℕ) → (s ≡ 0 → ⊥) → eqb s 0 ≡ is_doubled s t
unfolding is_doubled
doubled_not s t n = rw (ne_eqb s 0 n)

pub doubled_both : (s t : ℕ) → s ≡ 0 → eqb t 0 ≡ is_doubled s t
unfolding is_doubled
doubled_both s t e = sym (ap (λ (x : Bool). x && eqb t 0) (eq-eqb s 0 e))

pub normal_two : (s t : ℕ) (p : List ℕ) → normal (s ∷ t ∷ p) ≡ (not (is_doubled s t) && normal (t ∷ p))
unfolding normal is_doubled
normal_two zero zero p = refl
normal_two zero (suc b) p = sym (ap (λ (x : Bool). not x && normal p) (lib.Dec.eqb-suc-zero b))
normal_two (suc a) t p = sym (ap (λ (x : Bool). not (x && eqb t 0) && normal (t ∷ p)) (lib.Dec.eqb-suc-zero a))
