-- Parts of a line: what stands before an index, between two and after one, put together again; and what the normal form keeps.
use Rattle.std.specs.Prelude.{ℕ, zero, suc, ◌+◌, ◌-◌, ◌≤◌, ◌≡◌, refl, Bool, List, [], ◌∷◌, ◌++◌, T, length, take, drop}
use Rattle.std.proofs.Common.{sym, ap, ◌∙◌, arith, take-append-drop, take-take}
use Rattle.std.proofs.Math.Seq.{take-append-add, drop-append-add}
use Rattle.meaning.specs.Lists.{every}
use Rattle.meaning.specs.Paths.{norm, join}
use Rattle.theory_lists.specs.Bools.{and_left, and_right, both}
use Rattle.theory_paths.specs.Normal.{norm_append_left, norm_append_right}
use Rattle.theory_pattern.specs.Spots.{part}

pub take_part : (i k : ℕ) (l : List ℕ) → i ≤ k → take i l ++ part i k l ≡ take k l
unfolding part
take_part i k l h = ap (λ r. r ++ drop i (take k l)) (sym (take-take i k l h)) ∙ take-append-drop i (take k l)

pub part_drop : (i k : ℕ) (l : List ℕ) → i ≤ k → part i k l ++ drop k l ≡ drop i l
unfolding part
part_drop zero k l h = take-append-drop k l
part_drop (suc i) zero l h = absurd (omega arith)
part_drop (suc i) (suc k) [] h = refl
part_drop (suc i) (suc k) (x ∷ l) h = part_drop i k l (omega arith)

-- what lies past the first of two lists
pub take_past : (xs ys : List ℕ) (k : ℕ) → length xs ≤ k → take k (xs ++ ys) ≡ xs ++ take (k - length xs) ys
take_past xs ys k h =
    let e : k ≡ length xs + (k - length xs) = omega arith in
    ap (λ m. take m (xs ++ ys)) e ∙ take-append-add xs ys (k - length xs)

pub drop_past : (xs ys : List ℕ) (k : ℕ) → length xs ≤ k → drop k (xs ++ ys) ≡ drop (k - length xs) ys
drop_past xs ys k h =
    let e : k ≡ length xs + (k - length xs) = omega arith in
    ap (λ m. drop m (xs ++ ys)) e ∙ drop-append-add xs ys (k - length xs)

-- the normal form has no new symbols and is no longer
pub every_norm : (f : ℕ → Bool) (P : List ℕ) → T (every f P) → T (every f (norm P))
unfolding every norm
every_norm f [] t = tt
every_norm f (suc a ∷ P) t = both (f (suc a)) _ (and_left (f (suc a)) _ t) (every_norm f P (and_right (f (suc a)) _ t))
every_norm f (zero ∷ []) t = t
every_norm f (zero ∷ zero ∷ P) t = every_norm f (zero ∷ P) (and_right (f zero) _ t)
every_norm f (zero ∷ suc a ∷ P) t =
    both (f zero) _ (and_left (f zero) _ t)
    (both (f (suc a)) _ (and_left (f (suc a)) _ (and_right (f zero) _ t)) (every_norm f P (and_right (f (suc a)) _ (and_right (f zero) _ t))))

pub norm_length : (P : List ℕ) → length (norm P) ≤ length P
unfolding norm
norm_length [] = omega arith
norm_length (suc a ∷ P) = omega (arith, norm_length P)
norm_length (zero ∷ []) = omega arith
norm_length (zero ∷ zero ∷ P) = omega (arith, norm_length (zero ∷ P))
norm_length (zero ∷ suc a ∷ P) = omega (arith, norm_length P)

-- joins of normal forms
pub join_norms : (P Q : List ℕ) → join (norm P) (norm Q) ≡ norm (P ++ Q)
unfolding join
join_norms P Q = norm_append_left P (norm Q) ∙ norm_append_right P Q

pub join_norm : (P Q : List ℕ) → join (norm P) Q ≡ norm (P ++ Q)
unfolding join
join_norm P Q = norm_append_left P Q

pub join_norms_three : (P Q R : List ℕ) → join (join (norm P) (norm Q)) R ≡ norm (P ++ Q ++ R)
join_norms_three P Q R = ap (λ l. join l R) (join_norms P Q) ∙ join_norm (P ++ Q) R
