-- The words of `meaning` for runs of bytes, and the library's.
use Rattle.std.specs.Prelude.{ℕ, ◌≡◌, refl, Bool, true, false, ◌&&◌, ◌||◌, cond, List, [], ◌∷◌, Option, Some, ◌==◌, eqb, ltb, length}
use Rattle.std.proofs.Common.{ap, ◌∙◌, arith}
use Rattle.std.specs.List.{FoldsTo, list_all, list_any}
use Rattle.std.specs.Cmp.Lexicographic.{pointwise, slice_partial_cmp}
use Rattle.std.specs.Ordering.{nat_cmp, is_lt, is_some_and, partial_ordering_then}
use Rattle.std.specs.declared.cmp.Ordering.{Ordering}
use Rattle.std.specs.declared.cmp.Ordering.TheVariants.{Less, Equal, Greater}
use Rattle.std.specs.Option.{MatchOption}
use Rattle.std.specs.Fn.{Called}
use Rattle.std.specs.Iterator.{YieldsThen, YieldsFirstBy, ChecksAll, ChecksAny}
use Rattle.std.proofs.lemmas.Iterator.{YieldsList}
use Rattle.std.proofs.lemmas.Iterator.Consumers.{YieldsList-from_first}
use Rattle.std.proofs.lemmas.Iterator.Search.{all_from_yields_List, any_from_yields_List}
use Rattle.std.proofs.lemmas.List.Recursion.{same_from_clauses}
use denote.Param.Members.{Mut}
use Rattle.meaning.specs.Lists.{every, any, same, lower}

pub every_list : {A : Type 0} (f : A → Bool) (l : List A) → list_all f l ≡ every f l
unfolding every
every_list f = same_from_clauses (list_all f) (every f) (λ x b. f x && b) refl (λ x xs. refl) (λ x xs. refl)

pub any_list : {A : Type 0} (f : A → Bool) (l : List A) → list_any f l ≡ any f l
unfolding any
any_list f = same_from_clauses (list_any f) (any f) (λ x b. f x || b) refl (λ x xs. refl) (λ x xs. refl)

pub same_list : (a b : List ℕ) → pointwise ◌==◌ a b ≡ same a b
unfolding same
same_list [] [] = refl
same_list [] (y ∷ b) = refl
same_list (x ∷ a) [] = refl
same_list (x ∷ a) (y ∷ b) = ap (λ (t : Bool). (x == y) && t) (same_list a b)

-- `<` of two runs of one length
pub lower_list : (a b : List ℕ) → length a ≡ length b → is_some_and is_lt (slice_partial_cmp (λ x y. Some (nat_cmp x y)) a b) ≡ lower a b
unfolding lower
lower_list [] [] e = refl
lower_list [] (y ∷ b) e = absurd (omega arith)
lower_list (x ∷ a) [] e = absurd (omega arith)
lower_list (x ∷ a) (y ∷ b) e = go (ltb x y) (eqb x y) (slice_partial_cmp (λ x y. Some (nat_cmp x y)) a b) (lower_list a b (omega arith))
  where
    go : (l q : Bool) (o : Option Ordering) {w : Bool} → is_some_and is_lt o ≡ w
        → is_some_and is_lt (partial_ordering_then (Some (cond l Less (cond q Equal Greater))) o) ≡ (l || (q && w))
    go true q o h = refl
    go false true o h = h
    go false false o h = refl

-- what `all` and `any` answer over an iterator of this list, where the closure is this test
module _ {S A B F : Type 0} {steps : S → Option A → S → Type 0} {v : A → B} {g : Mut F (A × Unit {0}) Bool} {s : S} {l : List B} {f : F} {r : Bool} (test : B → Bool) (u : S) where
  pub every_by : (xs : List A) × (o : Option A) × (j : F) × YieldsThen steps s xs o u × FoldsTo (λ p x q. Called g p (x, tt) true q) f xs j × MatchOption o (r ≡ true) (λ x. (r ≡ false) × ((h : F) × Called g j (x, tt) false h))
      → YieldsList steps v s l → ((x : A) (b : Bool) (q : F) → Called g f (x, tt) b q → (q ≡ f) × (b ≡ test (v x))) → r ≡ every test l
  every_by ran yields closure = all_from_yields_List test u f r ran yields closure ∙ every_list test l

  pub any_by : (xs : List A) × (o : Option A) × (j : F) × YieldsThen steps s xs o u × FoldsTo (λ p x q. Called g p (x, tt) false q) f xs j × MatchOption o (r ≡ false) (λ x. (r ≡ true) × ((h : F) × Called g j (x, tt) true h))
      → YieldsList steps v s l → ((x : A) (b : Bool) (q : F) → Called g f (x, tt) b q → (q ≡ f) × (b ≡ test (v x))) → r ≡ any test l
  any_by ran yields closure = any_from_yields_List test u f r ran yields closure ∙ any_list test l

-- and over an iterator of one's own, whose list is l
module _ {S A B F : Type 0} {v : A → B} {rest : S → List B} {g : Mut F (A × Unit {0}) Bool} {s : S} {l : List B} (test : B → Bool) (u : S) {f : F} {r : Bool} (e : rest s ≡ l) where
  pub every_from_all : ChecksAll (YieldsFirstBy v rest) g s f r u
      → ((x : A) (b : Bool) (q : F) → Called g f (x, tt) b q → (q ≡ f) × (b ≡ test (v x))) → r ≡ every test l
  every_from_all ran closure = all_from_yields_List test u f r ran (YieldsList-from_first v rest l e) closure ∙ every_list test l

  pub any_from_any : ChecksAny (YieldsFirstBy v rest) g s f r u
      → ((x : A) (b : Bool) (q : F) → Called g f (x, tt) b q → (q ≡ f) × (b ≡ test (v x))) → r ≡ any test l
  any_from_any ran closure = any_from_yields_List test u f r ran (YieldsList-from_first v rest l e) closure ∙ any_list test l
