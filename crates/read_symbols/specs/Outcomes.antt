-- What a part of a line comes to: what it says, or 17 where it is not of the grammar, else 18 where a name is not known. The greater error of
-- two parts is that of both.
use Rattle.std.specs.Prelude.{ℕ, suc, length, ◌≡◌, refl, List, [], ◌∷◌, ◌++◌, Result, Ok, Err}
use Rattle.std.proofs.Common.{sym, subst, ap, ap₂, ◌∙◌, arith}
use Rattle.std.proofs.Math.Option.{Option, none, some}
use Rattle.meaning.specs.Records.{and_then}
use Rattle.meaning.specs.Text.{every_one}
use Rattle.read_symbols.specs.declared.errors.TextError.{TextError}
use Rattle.read_symbols.specs.declared.errors.TextError.TheVariants.{UnknownName, NotALine}

pub data Outcome {A B R : Type 0} (read : Option A) (resolve : A → Option B) (r : Result R TextError) (K : R → B → Type 0) : Type 0 where
  known : (a : A) (b : B) (v : R) → r ≡ Ok v → read ≡ some a → resolve a ≡ some b → K v b → Outcome read resolve r K
  unknown : (a : A) → r ≡ Err UnknownName → read ≡ some a → resolve a ≡ none → Outcome read resolve r K
  torn : r ≡ Err NotALine → read ≡ none → Outcome read resolve r K

abbrev pub on_ok : {R S : Type 0} → (R → S) → Result R TextError → Result S TextError
on_ok f (Ok v) = Ok (f v)
on_ok f (Err e) = Err e

-- what follows for a result that is made of this one, its errors kept
pub outcome_map : {A B R S : Type 0} {read : Option A} {resolve : A → Option B} {r : Result R TextError} {K : R → B → Type 0} {L : S → B → Type 0} (f : R → S)
    → ((v : R) (b : B) → r ≡ Ok v → K v b → L (f v) b) → {s : Result S TextError} → s ≡ on_ok f r → Outcome read resolve r K → Outcome read resolve s L
outcome_map f more e (known a b v w s t k) = known a b (f v) (e ∙ ap (on_ok f) w) s t (more v b w k)
outcome_map f more e (unknown a w s t) = unknown a (e ∙ ap (on_ok f) w) s t
outcome_map f more e (torn w s) = torn (e ∙ ap (on_ok f) w) s

pub outcome_weaker : {A B R : Type 0} {read : Option A} {resolve : A → Option B} {r : Result R TextError} {K L : R → B → Type 0} → ((v : R) (b : B) → K v b → L v b)
    → Outcome read resolve r K → Outcome read resolve r L
outcome_weaker more (known a b v w s t k) = known a b v w s t (more v b k)
outcome_weaker more (unknown a w s t) = unknown a w s t
outcome_weaker more (torn w s) = torn w s

pub outcome_read : {A B R : Type 0} {read other : Option A} {resolve : A → Option B} {r : Result R TextError} {K : R → B → Type 0} → read ≡ other
    → Outcome read resolve r K → Outcome other resolve r K
outcome_read {resolve = resolve} {r} {K} e o = subst (λ (x : Option _). Outcome x resolve r K) e o

-- the greater error
abbrev pub worse : TextError → TextError → TextError
worse UnknownName e = e
worse NotALine e = NotALine

abbrev pub both : {A B : Type 0} → Result A TextError → Result B TextError → Result (A × B) TextError
both (Ok a) (Ok b) = Ok (a, b)
both (Ok a) (Err e) = Err e
both (Err d) (Ok b) = Err d
both (Err d) (Err e) = Err (worse d e)

pub both_first : {A B : Type 0} (r : Result A TextError) (r' : Result B TextError) {a : A} {b : B} → both r r' ≡ Ok (a, b) → r ≡ Ok a
both_first (Ok v) (Ok w) e = ap (on_ok (λ p. p.0)) e
both_first (Ok v) (Err d) e = cc
both_first (Err d) (Ok w) e = cc
both_first (Err d) (Err f) e = cc

-- both, and what is made of them
unfoldable pub both_of : {A B C : Type 0} → (A → B → C) → Option A → Option B → Option C
both_of g x y = and_then x (λ a. and_then y (λ b. some (g a b)))

-- what is known of both
unfoldable pub Made : {B B' D R R' : Type 0} → (B → B' → D) → (R → B → Type 0) → (R' → B' → Type 0) → R × R' → D → Type 0
Made {B} {B'} k K K' r d = (b : B) × (b' : B') × (d ≡ k b b') × K r.0 b × K' r.1 b'

pub outcome_both : {A A' B B' C D R R' : Type 0} {x : Option A} {y : Option A'} {f : A → Option B} {f' : A' → Option B'} {K : R → B → Type 0} {K' : R' → B' → Type 0}
    {r : Result R TextError} {r' : Result R' TextError} (g : A → A' → C) (k : B → B' → D) (F : C → Option D) → ((a : A) (a' : A') → F (g a a') ≡ both_of k (f a) (f' a'))
    → Outcome x f r K → Outcome y f' r' K' → Outcome (both_of g x y) F (both r r') (Made k K K')
unfolding both_of and_then Made
outcome_both g k F law (known a b v w s t h) (known a' b' v' w' s' t' h') =
    known (g a a') (k b b') (v, v') (ap₂ both w w') (rw (s, s')) (law a a' ∙ rw (t, t') refl) (b, b', refl, h, h')
outcome_both g k F law (known a b v w s t h) (unknown a' w' s' t') = unknown (g a a') (ap₂ both w w') (rw (s, s')) (law a a' ∙ rw (t, t') refl)
outcome_both g k F law (known a b v w s t h) (torn w' s') = torn (ap₂ both w w') (rw (s, s'))
outcome_both g k F law (unknown a w s t) (known a' b' v' w' s' t' h') = unknown (g a a') (ap₂ both w w') (rw (s, s')) (law a a' ∙ rw t refl)
outcome_both g k F law (unknown a w s t) (unknown a' w' s' t') = unknown (g a a') (ap₂ both w w') (rw (s, s')) (law a a' ∙ rw t refl)
outcome_both g k F law (unknown a w s t) (torn w' s') = torn (ap₂ both w w') (rw (s, s'))
outcome_both {r' = r'} g k F law (torn w s) o = torn (ap (λ r. both r r') w ∙ first r') (rw s)
  where
    first : {A B : Type 0} (r : Result B TextError) → both {A = A} (Err NotALine) r ≡ Err NotALine
    first (Ok v) = refl
    first (Err e) = refl

-- one part more of a list
unfoldable pub behind_all : {A : Type 0} → List A → A → List A
behind_all xs x = xs ++ (x ∷ [])

pub every_behind : {A B : Type 0} (f : A → Option B) (xs : List A) (x : A) → every_one f (behind_all xs x) ≡ both_of behind_all (every_one f xs) (f x)
unfolding every_one behind_all both_of and_then
every_behind f [] x = refl
every_behind {A} {B} f (y ∷ xs) x = go (f y) (every_one f (xs ++ (x ∷ []))) (every_one f xs) (f x) (every_behind f xs x)
  where
    go : (p : Option B) (q r : Option (List B)) (o : Option B) → q ≡ and_then r (λ a. and_then o (λ b. some (a ++ (b ∷ []))))
        → and_then p (λ z. and_then q (λ zs. some (z ∷ zs)))
        ≡ and_then (and_then p (λ z. and_then r (λ zs. some (z ∷ zs)))) (λ a. and_then o (λ b. some (a ++ (b ∷ []))))
    go none q r o e = refl
    go (some z) q none o e = rw e
    go (some z) q (some zs) none e = rw e
    go (some z) q (some zs) (some b) e = rw e

pub outcome_more : {T A B R R' : Type 0} (φ : T → Option A) (f : A → Option B) (xs : List T) (x : T) {r : Result R TextError} {r' : Result R' TextError}
    {K : R → List B → Type 0} {K' : R' → B → Type 0} → Outcome (every_one φ xs) (every_one f) r K → Outcome (φ x) f r' K'
    → Outcome (every_one φ (behind_all xs x)) (every_one f) (both r r') (Made behind_all K K')
outcome_more φ f xs x o p =
    outcome_read (sym (every_behind φ xs x)) (outcome_both behind_all behind_all (every_one f) (every_behind f) o p)

every_length : {A B : Type 0} (f : A → Option B) (xs : List A) {ys : List B} → every_one f xs ≡ some ys → length ys ≡ length xs
unfolding every_one and_then
every_length f [] {ys} e = let q : [] ≡ ys = cc in sym (ap length q)
every_length {A} {B} f (x ∷ xs) {ys} e = go (f x) (every_one f xs) (λ zs. every_length f xs {ys = zs}) e
  where
    go : (o : Option B) (p : Option (List B)) → ((zs : List B) → p ≡ some zs → length zs ≡ length xs)
        → and_then o (λ y. and_then p (λ zs. some (y ∷ zs))) ≡ some ys → length ys ≡ suc (length xs)
    go none p more e = cc
    go (some y) none more e = cc
    go (some y) (some zs) more e = let h = more zs refl in let q : y ∷ zs ≡ ys = cc in omega (arith, ap length q)

-- a part for each text
pub outcome_counted : {T A B R : Type 0} (φ : T → Option A) (f : A → Option B) (xs : List T) (n : R → ℕ) {r : Result R TextError} {K : R → List B → Type 0}
    → ((v : R) (ps : List B) → K v ps → n v ≡ length ps) → Outcome (every_one φ xs) (every_one f) r K → (u : R) → r ≡ Ok u → n u ≡ length xs
outcome_counted φ f xs n counts (known a b v w s t k) u e =
    let p : v ≡ u = cc in ap n (sym p) ∙ (counts v b k ∙ (every_length f a t ∙ every_length φ xs s))
outcome_counted φ f xs n counts (unknown a w s t) u e = cc
outcome_counted φ f xs n counts (torn w s) u e = cc
