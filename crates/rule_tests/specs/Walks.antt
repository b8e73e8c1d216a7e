-- Key paths and sets of them by the library's tests.
use Rattle.std.specs.Prelude.{ℕ, suc, ◌≡◌, refl, Bool, true, false, ◌&&◌, eqb, length, ◌==◌}
use Rattle.std.specs.List.{starts_with, zip}
use borrow.Author.Tests.{ne_eqb}
use Rattle.std.proofs.Math.Path.{sym, ap, subst}
use Rattle.std.proofs.Common.{◌∙◌, arith}
use lib.Dec.{T}
use mathlib.Core.List.{List, [], ◌∷◌, ◌++◌}
use Rattle.meaning.specs.Lists.{every, same}
use Rattle.theory_rule_tests.specs.SameParts.{same_sets}
use Rattle.theory_rule_tests.specs.Interactions.{prefixed}
use Rattle.theory_lists.specs.Bools.{bool_eq}
use Rattle.theory_rule_tests.specs.Beginnings.{begins, begins_append, begins_split}
use Rattle.rule_joins.specs.Forms.{is_beginning, beginning_rest, beginning_of}

-- a path begins another, by the library's test
pub begins_lib : (p s : List ℕ) → starts_with ◌==◌ p s ≡ begins s p
unfolding begins
begins_lib p [] = refl
begins_lib [] (x ∷ s) = refl
begins_lib (y ∷ p) (x ∷ s) = ap (λ (b : Bool). (x == y) && b) (begins_lib p s)

-- .. and by `rule_joins::begins`
pub beginning_is : (s p : List ℕ) → is_beginning s p ≡ begins s p
beginning_is s p =
    bool_eq _ _ (λ t. subst (λ (q : List ℕ). T (begins s q)) (sym (beginning_rest s p t)) (begins_append s _))
    (λ t. subst (λ (q : List ℕ). T (is_beginning s q)) (sym (begins_split s p t)) (beginning_of s _))

-- two sets side by side, a front before each path of the second
sets_lengths : (front : List ℕ) (ps qs : List (List ℕ)) → (length ps ≡ length qs → ⊥) → false ≡ same_sets ps (prefixed front qs)
unfolding same_sets prefixed
sets_lengths front [] [] h = absurd (h refl)
sets_lengths front [] (q ∷ qs) h = refl
sets_lengths front (p ∷ ps) [] h = refl
sets_lengths front (p ∷ ps) (q ∷ qs) h = go (same p (front ++ q)) (sets_lengths front ps qs (λ e. h (ap suc e)))
  where
    go : (b : Bool) → false ≡ same_sets ps (prefixed front qs) → false ≡ (b && same_sets ps (prefixed front qs))
    go true e = e
    go false e = refl

pub other_lengths : (front : List ℕ) (ps qs : List (List ℕ)) {n m : ℕ} → n ≡ length ps → m ≡ length qs → (n ≡ m → ⊥)
    → eqb n m ≡ same_sets ps (prefixed front qs)
other_lengths front ps qs {n} {m} e g h = ne_eqb n m h ∙ sets_lengths front ps qs (λ q. h (e ∙ q ∙ sym g))

pub side_by_side : (front : List ℕ) (ps qs : List (List ℕ)) → length ps ≡ length qs
    → every (λ (x : List ℕ × List ℕ). same x.0 (front ++ x.1)) (zip ps qs) ≡ same_sets ps (prefixed front qs)
unfolding every same_sets prefixed
side_by_side front [] [] e = refl
side_by_side front [] (q ∷ qs) e = absurd (omega arith)
side_by_side front (p ∷ ps) [] e = absurd (omega arith)
side_by_side front (p ∷ ps) (q ∷ qs) e = ap (λ (b : Bool). same p (front ++ q) && b) (side_by_side front ps qs (omega arith))
