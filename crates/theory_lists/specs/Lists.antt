-- Small facts on lists that several theories cite: empty lists, appends, numbers in a row, and a set with the empty path.
use Rattle.std.specs.Prelude.{ℕ, zero, suc, ◌+◌, ◌-◌, ◌<◌, ◌≡◌, refl, Bool, true, false, cond, T, length, get_or}
use Rattle.std.proofs.Common.{ap, subst, ◌∙◌, arith}
use Rattle.std.proofs.Math.Option.{some}
use mathlib.Core.List.{List, [], ◌∷◌, ◌++◌, map, Memᴰ}
use Rattle.std.proofs.Math.ListN.{get_elem?}
use Rattle.meaning.specs.Lists.{Each, is_empty, keep, numbers}
use Rattle.meaning.specs.Lists.Each.{end, also}
use Rattle.meaning.specs.Rules.{with_empty}

pub is_empty_nil : (w : List ℕ) → T (is_empty w) → w ≡ []
unfolding is_empty
is_empty_nil [] t = refl
is_empty_nil (x ∷ w) t = absurd t

pub empty_is : (l : List ℕ) → is_empty l ≡ true → [] ≡ l
unfolding is_empty
empty_is [] e = refl
empty_is (x ∷ l) e = absurd (let z : ◌≡◌ {A = ℕ} 0 1 = cc in omega arith)

pub empty_length : (l : List ℕ) → length l ≡ 0 → is_empty l ≡ true
unfolding is_empty
empty_length [] e = refl
empty_length (x ∷ l) e = absurd (omega arith)

pub some_length : (l : List ℕ) → (length l ≡ 0 → ⊥) → is_empty l ≡ false
unfolding is_empty
some_length [] n = absurd (n refl)
some_length (x ∷ l) n = refl

pub each_append : {A : Type 0} {Q : A → Type 0} {xs : List A} (ys : List A) → Each Q xs → Each Q ys → Each Q (xs ++ ys)
each_append ys end f = f
each_append ys (also q e) f = also q (each_append ys e f)

pub get_or_mem : {A : Type 0} (xs : List A) (n : ℕ) (d : A) → n < length xs → Memᴰ (get_or xs n d) xs
get_or_mem [] n d h = absurd (let z : n < 0 = h in omega arith)
get_or_mem (y ∷ xs) zero d h = Memᴰ.head refl
get_or_mem (y ∷ xs) (suc n) d h = Memᴰ.tail (get_or_mem xs n d (let z : suc n < suc (length xs) = h in omega arith))

pub at_get_d : {A : Type 0} (xs : List A) (n : ℕ) (d : A) → n < length xs → get_elem? xs n ≡ some (get_or xs n d)
at_get_d [] n d h = absurd (let z : n < 0 = h in omega arith)
at_get_d (y ∷ xs) zero d h = refl
at_get_d (y ∷ xs) (suc n) d h = at_get_d xs n d (let z : suc n < suc (length xs) = h in omega arith)

pub map_append : {A B : Type 0} (f : A → B) (xs ys : List A) → map f (xs ++ ys) ≡ map f xs ++ map f ys
map_append f [] ys = refl
map_append {B = B} f (x ∷ xs) ys = ap (λ (l : List B). f x ∷ l) (map_append f xs ys)

pub numbers_length : (count start : ℕ) → length (numbers count start) ≡ count
unfolding numbers
numbers_length zero start = refl
numbers_length (suc count) start = ap suc (numbers_length count (suc start))

pub numbers_append : (a b n : ℕ) → numbers (a + b) n ≡ numbers a n ++ numbers b (n + a)
unfolding numbers
numbers_append zero b n =
    let e : zero + b ≡ b = omega arith in
    let e' : n ≡ n + zero = omega arith in
    ap (λ (k : ℕ). numbers k n) e ∙ ap (λ (k : ℕ). numbers b k) e'
numbers_append (suc a) b n =
    let e : suc a + b ≡ suc (a + b) = omega arith in
    let e' : suc n + a ≡ n + suc a = omega arith in
    ap (λ (k : ℕ). numbers k n) e
    ∙ ap (λ (l : List ℕ). n ∷ l) (numbers_append a b (suc n) ∙ ap (λ (k : ℕ). numbers a (suc n) ++ numbers b k) e')

-- of those numbers the ones that pass a test, one number more
pub keep_more : (f : ℕ → Bool) (count lo : ℕ) → keep f (numbers (suc count) lo) ≡ keep f (numbers count lo) ++ cond (f (lo + count)) ((lo + count) ∷ []) []
unfolding keep numbers
keep_more f zero lo = let z : lo ≡ lo + 0 = omega arith in ap (λ (n : ℕ). cond (f n) (n ∷ []) []) z
keep_more f (suc count) lo =
    ap (λ (l : List ℕ). cond (f lo) (lo ∷ l) l)
    (subst (λ (n : ℕ). keep f (numbers (suc count) (suc lo)) ≡ keep f (numbers count (suc lo)) ++ cond (f n) (n ∷ []) []) next (keep_more f count (suc lo)))
    ∙ go (f lo)
  where
    next : suc lo + count ≡ lo + suc count
    next = omega arith

    go : (b : Bool)
        → cond b (lo ∷ (keep f (numbers count (suc lo)) ++ cond (f (lo + suc count)) ((lo + suc count) ∷ []) [])) (keep f (numbers count (suc lo)) ++ cond (f (lo + suc count)) ((lo + suc count) ∷ []) [])
        ≡ cond b (lo ∷ keep f (numbers count (suc lo))) (keep f (numbers count (suc lo))) ++ cond (f (lo + suc count)) ((lo + suc count) ∷ []) []
    go true = refl
    go false = refl

-- the set of a path and the empty path
pub with_empty_empty : (p : List ℕ) → Memᴰ [] (with_empty p)
unfolding with_empty
with_empty_empty [] = Memᴰ.head refl
with_empty_empty (s ∷ p) = Memᴰ.head refl

pub with_empty_path : (p : List ℕ) → Memᴰ p (with_empty p)
unfolding with_empty
with_empty_path [] = Memᴰ.head refl
with_empty_path (s ∷ p) = Memᴰ.tail (Memᴰ.head refl)

pub with_empty_each : {Q : List ℕ → Type 0} (p : List ℕ) → Q [] → Q p → Each Q (with_empty p)
unfolding with_empty
with_empty_each [] h k = also h end
with_empty_each (s ∷ p) h k = also h (also k end)

pub with_empty_last : (p : List ℕ) → get_or (with_empty p) (length (with_empty p) - 1) [] ≡ p
unfolding with_empty
with_empty_last [] = refl
with_empty_last (s ∷ p) = refl
