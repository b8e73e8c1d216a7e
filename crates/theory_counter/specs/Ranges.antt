-- Ranges of numbers, tested: the children of a node, and those of its twin, are found in ranges that stand a fixed number apart.
use Rattle.std.specs.Prelude.{ℕ, zero, suc, ◌+◌, ◌-◌, ◌≤◌, ◌<◌, ◌≡◌, refl, Bool, true, false, cond, List, [], ◌∷◌, ◌++◌, T}
use Rattle.std.proofs.Common.{sym, ap, subst, ◌∙◌, arith}
use Rattle.std.proofs.lemmas.Bool.{false≢true}
use Rattle.meaning.specs.Lists.{keep, numbers}
use Rattle.meaning.specs.Paths.{Class}
use Rattle.meaning.specs.Trees.{Table, Equal, EqualLists, ended, paired}
use Rattle.theory_lists.specs.Lists.{numbers_append}

pub keep_append : {A : Type 0} (f : A → Bool) (xs ys : List A) → keep f (xs ++ ys) ≡ keep f xs ++ keep f ys
unfolding keep
keep_append f [] ys = refl
keep_append {A} f (x ∷ xs) ys = go (f x) (keep_append f xs ys)
  where
    go : (b : Bool) → keep f (xs ++ ys) ≡ keep f xs ++ keep f ys
        → cond b (x ∷ keep f (xs ++ ys)) (keep f (xs ++ ys)) ≡ cond b (x ∷ keep f xs) (keep f xs) ++ keep f ys
    go true e = ap (λ (l : List A). x ∷ l) e
    go false e = e

-- of no number of the range
pub keep_none : (f : ℕ → Bool) (count start : ℕ) → ((n : ℕ) → start ≤ n → n < start + count → f n ≡ false) → keep f (numbers count start) ≡ []
unfolding keep numbers
keep_none f zero start h = refl
keep_none f (suc count) start h =
    go (f start) (h start (omega arith) (omega arith)) (keep_none f count (suc start) (λ n l r. h n (omega arith) (omega arith)))
  where
    go : (b : Bool) → b ≡ false → keep f (numbers count (suc start)) ≡ []
        → cond b (start ∷ keep f (numbers count (suc start))) (keep f (numbers count (suc start))) ≡ []
    go true e q = absurd (false≢true (sym e))
    go false e q = q

-- one more pair in front, where the test holds
paired_front : (κ : ℕ → Class) (t : Table) (b : Bool) (x y : ℕ) (xs ys : List ℕ) → (T b → Equal κ t x y) → EqualLists κ t xs ys
    → EqualLists κ t (cond b (x ∷ xs) xs) (cond b (y ∷ ys) ys)
paired_front κ t true x y xs ys e r = paired (e tt) r
paired_front κ t false x y xs ys e r = r

-- two ranges, `gap` apart, in which the tests agree
pub paired_ranges : (κ : ℕ → Class) (t : Table) (f g : ℕ → Bool) (gap count start later : ℕ) → later ≡ start + gap
    → ((n : ℕ) → start ≤ n → n < start + count → f n ≡ g (n + gap))
    → ((n : ℕ) → start ≤ n → n < start + count → T (f n) → Equal κ t n (n + gap))
    → EqualLists κ t (keep f (numbers count start)) (keep g (numbers count later))
unfolding keep numbers
paired_ranges κ t f g gap zero start later e same equal = ended
paired_ranges κ t f g gap (suc count) start later e same equal =
    let xs = keep f (numbers count (suc start)) in
    let ys = keep g (numbers count (suc later)) in
    subst (λ (b : Bool). EqualLists κ t (cond (f start) (start ∷ xs) xs) (cond b (later ∷ ys) ys))
    (same start (omega arith) (omega arith) ∙ ap g (sym e))
    (paired_front κ t (f start) start later xs ys
    (λ h. subst (λ (n : ℕ). Equal κ t start n) (sym e) (equal start (omega arith) (omega arith) h))
    (paired_ranges κ t f g gap count (suc start) (suc later) (omega arith) (λ n l r. same n (omega arith) (omega arith))
    (λ n l r. equal n (omega arith) (omega arith))))

-- a range of three parts: before, a part, and the part behind it
pub keep_three : (f : ℕ → Bool) (cut gap : ℕ) → 0 < cut
    → keep f (numbers (cut + gap + gap - 1) 1)
    ≡ keep f (numbers (cut - 1) 1) ++ (keep f (numbers gap cut) ++ keep f (numbers gap (cut + gap)))
keep_three f cut gap h =
    let e : cut + gap + gap - 1 ≡ (cut - 1) + (gap + gap) = omega arith in
    let e' : 1 + (cut - 1) ≡ cut = omega arith in
    ap (λ (k : ℕ). keep f (numbers k 1)) e ∙ ap (keep f) (numbers_append (cut - 1) (gap + gap) 1)
    ∙ keep_append f (numbers (cut - 1) 1) (numbers (gap + gap) (1 + (cut - 1)))
    ∙ ap (λ (k : ℕ). keep f (numbers (cut - 1) 1) ++ keep f (numbers (gap + gap) k)) e'
    ∙ ap (λ (l : List ℕ). keep f (numbers (cut - 1) 1) ++ keep f l) (numbers_append gap gap cut)
    ∙ ap (λ (l : List ℕ). keep f (numbers (cut - 1) 1) ++ l) (keep_append f (numbers gap cut) (numbers gap (cut + gap)))
