-- Tests as facts: `&&`, `||`, `not`, `every`, `any` and `same` taken apart and put together.
use Rattle.std.specs.Prelude.{ℕ, zero, suc, ◌<◌, take, ◌≡◌, ◌⊎◌, ◌≢◌, Bool, true, false, ◌&&◌, ◌||◌, not}
use Rattle.std.proofs.Common.{arith, sym, ap₂, inl, inr}
use Rattle.std.proofs.Math.Option.{some}
use Rattle.std.proofs.Math.ListN.{get_elem?}
use Rattle.std.proofs.Math.Path.{refl, subst}
use mathlib.Core.List.{List, [], ◌∷◌, ◌++◌, Memᴰ}
use lib.Dec.{T, eqb, eqb→eq, eqb_refl}
use Rattle.meaning.specs.Lists.{Each, every, any, same}
use Rattle.meaning.specs.Lists.Each.{end, also}

-- a test that holds is true, and back
pub true_of : (b : Bool) → T b → b ≡ true
true_of true t = refl
true_of false t = absurd t

pub of_true : (b : Bool) → b ≡ true → T b
of_true b e = subst (λ (x : Bool). T x) (sym e) tt

pub false_of : (b : Bool) → (T b → ⊥) → b ≡ false
false_of true f = absurd (f tt)
false_of false f = refl

pub of_false : (b : Bool) → b ≡ false → T b → ⊥
of_false b e t = subst (λ (x : Bool). T x) e t

-- two tests that follow from one another are the same
pub bool_eq : (a b : Bool) → (T a → T b) → (T b → T a) → a ≡ b
bool_eq true b f g = sym (true_of b (f tt))
bool_eq false true f g = absurd (g tt)
bool_eq false false f g = refl

pub and_left : (a b : Bool) → T (a && b) → T a
and_left true b t = tt
and_left false b t = t

pub and_right : (a b : Bool) → T (a && b) → T b
and_right true b t = t
and_right false b t = absurd t

-- the same, of tests that are true
pub and_first : (a b : Bool) → (a && b) ≡ true → a ≡ true
and_first true b e = refl
and_first false b e = e

pub and_second : (a b : Bool) → (a && b) ≡ true → b ≡ true
and_second true b e = e
and_second false b e = absurd (subst (λ (x : Bool). T x) (sym e) tt)

pub and-false : (a : Bool) → a && false ≡ false
and-false true = refl
and-false false = refl

pub both : (a b : Bool) → T a → T b → T (a && b)
both true b s t = t
both false b s t = s

pub or_cases : (a b : Bool) → T (a || b) → T a ⊎ T b
or_cases true b t = inl tt
or_cases false b t = inr t

pub or_left : (a b : Bool) → T a → T (a || b)
or_left true b t = tt
or_left false b t = absurd t

pub or_right : (a b : Bool) → T b → T (a || b)
or_right true b t = tt
or_right false b t = t

pub T-cases : (b : Bool) → T b ⊎ (T b → ⊥)
T-cases true = inl tt
T-cases false = inr (λ t. t)

pub eqb_of : (m n : ℕ) → m ≡ n → T (eqb m n)
eqb_of m n e = subst (λ (k : ℕ). T (eqb m k)) e (eqb_refl m)

pub neqb_of : (m n : ℕ) → m ≢ n → T (not (eqb m n))
neqb_of m n h = lib.Dec.not_T (eqb m n) (λ t. h (eqb→eq m n t))

pub ne_of_neqb : (m n : ℕ) → T (not (eqb m n)) → m ≢ n
ne_of_neqb m n t e = lib.Dec.T_not (eqb m n) t (eqb_of m n e)

module _ {A : Type 0} (f : A → Bool) where
  pub every_each : (xs : List A) → T (every f xs) → (x : A) → Memᴰ x xs → T (f x)
  unfolding every
  every_each (y ∷ xs) t x (Memᴰ.head e) = subst (λ (z : A). T (f z)) (sym e) (and_left (f y) (every f xs) t)
  every_each (y ∷ xs) t x (Memᴰ.tail m) = every_each xs (and_right (f y) (every f xs) t) x m
  every_each [] t x x4 = elim x4 [ ]

  pub each_every : (xs : List A) → ((x : A) → Memᴰ x xs → T (f x)) → T (every f xs)
  unfolding every
  each_every [] h = tt
  each_every (y ∷ xs) h = both (f y) (every f xs) (h y (Memᴰ.head refl)) (each_every xs (λ x m. h x (Memᴰ.tail m)))

  pub every_head : (x : A) (xs : List A) → T (every f (x ∷ xs)) → T (f x)
  unfolding every
  every_head x xs t = and_left (f x) (every f xs) t

  pub every_tail : (x : A) (xs : List A) → T (every f (x ∷ xs)) → T (every f xs)
  unfolding every
  every_tail x xs t = and_right (f x) (every f xs) t

  pub every_cons : (x : A) (xs : List A) → T (f x) → T (every f xs) → T (every f (x ∷ xs))
  unfolding every
  every_cons x xs s t = both (f x) (every f xs) s t

  pub every_append : (xs ys : List A) → T (every f xs) → T (every f ys) → T (every f (xs ++ ys))
  unfolding every
  every_append [] ys s t = t
  every_append (x ∷ xs) ys s t =
      both (f x) (every f (xs ++ ys)) (and_left (f x) (every f xs) s) (every_append xs ys (and_right (f x) (every f xs) s) t)

  pub every_left : (xs ys : List A) → T (every f (xs ++ ys)) → T (every f xs)
  unfolding every
  every_left [] ys t = tt
  every_left (x ∷ xs) ys t =
      both (f x) (every f xs) (and_left (f x) (every f (xs ++ ys)) t) (every_left xs ys (and_right (f x) (every f (xs ++ ys)) t))

  pub every_right : (xs ys : List A) → T (every f (xs ++ ys)) → T (every f ys)
  unfolding every
  every_right [] ys t = t
  every_right (x ∷ xs) ys t = every_right xs ys (and_right (f x) (every f (xs ++ ys)) t)

  -- the definition's `Each` says the same
  pub every_Each : (xs : List A) → T (every f xs) → Each (λ (x : A). T (f x)) xs
  every_Each [] t = end
  every_Each (x ∷ xs) t = also (every_head x xs t) (every_Each xs (every_tail x xs t))

  pub Each-every : {xs : List A} → Each (λ (x : A). T (f x)) xs → T (every f xs)
  unfolding every
  Each-every end = tt
  Each-every (also {x = x} {xs = xs} h e) = both (f x) (every f xs) h (Each-every e)

  pub any_some : (xs : List A) → T (any f xs) → (x : A) × Memᴰ x xs × T (f x)
  unfolding any
  any_some [] t = absurd t
  any_some (y ∷ xs) t = go (any_some xs) (or_cases (f y) (any f xs) t)
    where
      go : (T (any f xs) → (x : A) × Memᴰ x xs × T (f x)) → T (f y) ⊎ T (any f xs) → (x : A) × Memᴰ x (y ∷ xs) × T (f x)
      go rest (inl s) = (y, Memᴰ.head refl, s)
      go rest (inr s) = let r = rest s in (r.0, Memᴰ.tail r.1, r.2)

  pub some_any : (x : A) {xs : List A} → Memᴰ x xs → T (f x) → T (any f xs)
  unfolding any
  some_any x (Memᴰ.head {x = y} {xs = xs} e) t = or_left (f y) (any f xs) (subst (λ (z : A). T (f z)) e t)
  some_any x (Memᴰ.tail {x = y} {xs = xs} m) t = or_right (f y) (any f xs) (some_any x m t)

module _ {A : Type 0} (f g : A → Bool) where
  pub every_map : (xs : List A) → ((x : A) → T (f x) → T (g x)) → T (every f xs) → T (every g xs)
  unfolding every
  every_map [] h t = tt
  every_map (x ∷ xs) h t =
      both (g x) (every g xs) (h x (and_left (f x) (every f xs) t)) (every_map xs h (and_right (f x) (every f xs) t))

module _ {A : Type 0} {Q : A → Type 0} where
  pub Each-at : {xs : List A} → Each Q xs → (x : A) → Memᴰ x xs → Q x
  Each-at (also q e) x (Memᴰ.head p) = subst Q (sym p) q
  Each-at (also q e) x (Memᴰ.tail m) = Each-at e x m
  Each-at end x x6 = elim x6 [ ]

  pub Each-of : (xs : List A) → ((x : A) → Memᴰ x xs → Q x) → Each Q xs
  Each-of [] h = end
  Each-of (x ∷ xs) h = also (h x (Memᴰ.head refl)) (Each-of xs (λ y m. h y (Memᴰ.tail m)))

-- two runs that are the same are equal
pub same_eq : (xs ys : List ℕ) → T (same xs ys) → xs ≡ ys
unfolding same
same_eq [] [] t = refl
same_eq [] (y ∷ ys) t = absurd t
same_eq (x ∷ xs) [] t = absurd t
same_eq (x ∷ xs) (y ∷ ys) t =
    ap₂ ◌∷◌ (eqb→eq x y (and_left (eqb x y) (same xs ys) t)) (same_eq xs ys (and_right (eqb x y) (same xs ys) t))

pub same_refl : (xs : List ℕ) → T (same xs xs)
unfolding same
same_refl [] = tt
same_refl (x ∷ xs) = both (eqb x x) (same xs xs) (eqb_refl x) (same_refl xs)

pub eq_same : (xs ys : List ℕ) → xs ≡ ys → T (same xs ys)
eq_same xs ys e = subst (λ (l : List ℕ). T (same xs l)) e (same_refl xs)

-- What holds of each, or of each of the first m, holds of the one that stands at a number
pub Each-nth : {A : Type 0} {Q : A → Type 0} {xs : List A} {x : A} (n : ℕ) → Each Q xs → get_elem? xs n ≡ some x → Q x
Each-nth n end e = let z : ◌≡◌ {A = ℕ} 0 1 = cc in absurd (omega arith)
Each-nth {Q} zero (also q qs) e = subst Q (cc) q
Each-nth (suc n) (also q qs) e = Each-nth n qs e

pub Each-below : {A : Type 0} {Q : A → Type 0} (xs : List A) {x : A} (n m : ℕ) → n < m → Each Q (take m xs) → get_elem? xs n ≡ some x → Q x
Each-below [] n m h q e = let z : ◌≡◌ {A = ℕ} 0 1 = cc in absurd (omega arith)
Each-below (y ∷ ys) n zero h q e = absurd (omega arith)
Each-below {Q} (y ∷ ys) zero (suc m) h (also q qs) e = subst Q (cc) q
Each-below (y ∷ ys) (suc n) (suc m) h (also q qs) e = Each-below ys n m (omega arith) qs e
