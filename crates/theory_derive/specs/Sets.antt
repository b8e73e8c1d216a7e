-- Sets of key paths in 01's order, "shorter first, equal lengths by bytes, none twice": a path inserted in its place, and one set united
-- with another. ARGUMENT, before 1: "putting F in front of every path keeps the order, uniting sets and adding e do not".
use Rattle.std.specs.Prelude.{ℕ, suc, ◌+◌, ◌≤◌, ◌<◌, ◌≡◌, refl, Bool, true, false, cond, T, eqb, ltb, length}
use Rattle.std.proofs.Common.{sym, ap, subst, ⊎_elim, arith, eqb→eq, lt→ltb, ltb→lt, length-append}
use mathlib.Core.List.{List, [], ◌∷◌, ◌++◌, map, Memᴰ}
use Rattle.std.proofs.Math.Dec.{eqb_refl}
use Rattle.meaning.specs.Lists.{Each, end, also, same, lower, before, ascending}
use Rattle.meaning.specs.Rules.{with_empty}
use Rattle.theory_lists.specs.Bools.{and_left, and_right, both, or_left, or_right, or_cases, eqb_of, same_eq, same_refl}
use Rattle.theory_lists.specs.Order.{before_or, before_itself}

-- a path put into its place; where the set holds it already, nothing changes
unfoldable pub insert : List ℕ → List (List ℕ) → List (List ℕ)
insert p [] = p ∷ []
insert p (q ∷ qs) =
    let rest = insert p qs in
    cond (before p q) (p ∷ q ∷ qs) (cond (same p q) (q ∷ qs) (q ∷ rest))

-- the second set's paths, one after the other, put into the first
unfoldable pub unite : List (List ℕ) → List (List ℕ) → List (List ℕ)
unite set [] = set
unite set (p ∷ ps) = unite (insert p set) ps

-- ---- a path inserted

-- where the tests of `insert` lead: the path stands before q, is q, or q stands before it
pub data Placed (p q : List ℕ) (qs : List (List ℕ)) : Type 0 where
  front : T (before p q) → insert p (q ∷ qs) ≡ p ∷ q ∷ qs → Placed p q qs
  there : p ≡ q → insert p (q ∷ qs) ≡ q ∷ qs → Placed p q qs
  behind : T (before q p) → insert p (q ∷ qs) ≡ q ∷ insert p qs → Placed p q qs

pub placed : (p q : List ℕ) (qs : List (List ℕ)) → Placed p q qs
unfolding insert
placed p q qs = go (before p q) (same p q) refl refl
  where
    go : (b c : Bool) → before p q ≡ b → same p q ≡ c → Placed p q qs
    go true c e f = front (subst T (sym e) tt) (rw e)
    go false true e f = there (same_eq p q (subst T (sym f) tt)) (rw (e, f))
    go false false e f =
        ⊎_elim (λ h. absurd (subst T e h))
        (⊎_elim (λ h. absurd (subst T f (subst (λ r. T (same p r)) h (same_refl p)))) (λ h. behind h (rw (e, f))))
        (before_or p q)

pub each_insert : {Q : List ℕ → Type 0} (p : List ℕ) {qs : List (List ℕ)} → Q p → Each Q qs → Each Q (insert p qs)
unfolding insert
each_insert p x end = also x end
each_insert {Q} p x (also {x = q} {xs = qs} y e) = go (placed p q qs) (each_insert p x e)
  where
    go : Placed p q qs → Each Q (insert p qs) → Each Q (insert p (q ∷ qs))
    go (front h g) r = subst (Each Q) (sym g) (also x (also y e))
    go (there h g) r = subst (Each Q) (sym g) (also y e)
    go (behind h g) r = subst (Each Q) (sym g) (also y r)

pub insert_self : (p : List ℕ) (qs : List (List ℕ)) → Memᴰ p (insert p qs)
unfolding insert
insert_self p [] = Memᴰ.head refl
insert_self p (q ∷ qs) = go (placed p q qs) (insert_self p qs)
  where
    go : Placed p q qs → Memᴰ p (insert p qs) → Memᴰ p (insert p (q ∷ qs))
    go (front h g) r = subst (Memᴰ p) (sym g) (Memᴰ.head refl)
    go (there h g) r = subst (Memᴰ p) (sym g) (Memᴰ.head h)
    go (behind h g) r = subst (Memᴰ p) (sym g) (Memᴰ.tail r)

pub insert_old : (p : List ℕ) {x : List ℕ} {qs : List (List ℕ)} → Memᴰ x qs → Memᴰ x (insert p qs)
insert_old p {x} (Memᴰ.head {x = q} {xs = qs} e) = go (placed p q qs)
  where
    go : Placed p q qs → Memᴰ x (insert p (q ∷ qs))
    go (front h g) = subst (Memᴰ x) (sym g) (Memᴰ.tail (Memᴰ.head e))
    go (there h g) = subst (Memᴰ x) (sym g) (Memᴰ.head e)
    go (behind h g) = subst (Memᴰ x) (sym g) (Memᴰ.head e)
insert_old p {x} (Memᴰ.tail {x = q} {xs = qs} m) = go (placed p q qs) (insert_old p m)
  where
    go : Placed p q qs → Memᴰ x (insert p qs) → Memᴰ x (insert p (q ∷ qs))
    go (front h g) r = subst (Memᴰ x) (sym g) (Memᴰ.tail (Memᴰ.tail m))
    go (there h g) r = subst (Memᴰ x) (sym g) (Memᴰ.tail m)
    go (behind h g) r = subst (Memᴰ x) (sym g) (Memᴰ.tail r)

pub insert_length : (p : List ℕ) (qs : List (List ℕ)) → length (insert p qs) ≤ suc (length qs)
unfolding insert
insert_length p [] = omega arith
insert_length p (q ∷ qs) = go (placed p q qs) (insert_length p qs)
  where
    go : Placed p q qs → length (insert p qs) ≤ suc (length qs) → length (insert p (q ∷ qs)) ≤ suc (suc (length qs))
    go (front h g) r = rw g (omega arith)
    go (there h g) r = rw g (omega arith)
    go (behind h g) r = rw g (omega arith)

-- the order is kept
ascending_behind : (q p : List ℕ) (qs : List (List ℕ)) → T (before q p) → T (ascending (q ∷ qs)) → T (ascending (q ∷ insert p qs))
unfolding insert ascending
ascending_behind q p [] h a = both (before q p) _ h tt
ascending_behind q p (r ∷ rs) h a = go (placed p r rs) (λ (k : T (before r p)). ascending_behind r p rs k (and_right (before q r) _ a))
  where
    go : Placed p r rs → (T (before r p) → T (ascending (r ∷ insert p rs))) → T (ascending (q ∷ insert p (r ∷ rs)))
    go (front k g) f = subst (λ s. T (ascending (q ∷ s))) (sym g) (both (before q p) _ h (both (before p r) _ k (and_right (before q r) _ a)))
    go (there k g) f = subst (λ s. T (ascending (q ∷ s))) (sym g) a
    go (behind k g) f = subst (λ s. T (ascending (q ∷ s))) (sym g) (both (before q r) _ (and_left (before q r) _ a) (f k))

pub insert_ascending : (p : List ℕ) (qs : List (List ℕ)) → T (ascending qs) → T (ascending (insert p qs))
unfolding insert ascending
insert_ascending p [] a = tt
insert_ascending p (q ∷ qs) a = go (placed p q qs)
  where
    go : Placed p q qs → T (ascending (insert p (q ∷ qs)))
    go (front k g) = subst (λ s. T (ascending s)) (sym g) (both (before p q) _ k a)
    go (there k g) = subst (λ s. T (ascending s)) (sym g) a
    go (behind k g) = subst (λ s. T (ascending s)) (sym g) (ascending_behind q p qs k a)

-- ---- two sets united

pub each_unite : {Q : List ℕ → Type 0} {qs : List (List ℕ)} {ps : List (List ℕ)} → Each Q qs → Each Q ps → Each Q (unite qs ps)
unfolding unite
each_unite e end = e
each_unite {Q = Q} {qs = qs} e (also {x = x} {xs = xs} y f) = each_unite {qs = insert x qs} (each_insert x y e) f

pub unite_first : {x : List ℕ} {qs : List (List ℕ)} (ps : List (List ℕ)) → Memᴰ x qs → Memᴰ x (unite qs ps)
unfolding unite
unite_first [] m = m
unite_first {x = x} {qs = qs} (p ∷ ps) m = unite_first {qs = insert p qs} ps (insert_old p m)

pub unite_second : {x : List ℕ} (qs : List (List ℕ)) {ps : List (List ℕ)} → Memᴰ x ps → Memᴰ x (unite qs ps)
unfolding unite
unite_second {x} qs (Memᴰ.head {x = p} {xs = ps} e) = unite_first ps (subst (λ r. Memᴰ r (insert p qs)) (sym e) (insert_self p qs))
unite_second {x} qs (Memᴰ.tail {x = p} {xs = ps} m) = unite_second (insert p qs) m

pub unite_length : (qs ps : List (List ℕ)) → length (unite qs ps) ≤ length qs + length ps
unfolding unite
unite_length qs [] = omega arith
unite_length qs (p ∷ ps) = omega (arith, unite_length (insert p qs) ps, insert_length p qs)

pub unite_ascending : (qs ps : List (List ℕ)) → T (ascending qs) → T (ascending (unite qs ps))
unfolding unite
unite_ascending qs [] a = a
unite_ascending qs (p ∷ ps) a = unite_ascending (insert p qs) ps (insert_ascending p qs a)

-- ---- a path in front of every path, and the set {empty, p}

lower_front : (f p q : List ℕ) → T (lower p q) → T (lower (f ++ p) (f ++ q))
unfolding lower
lower_front [] p q h = h
lower_front (x ∷ f) p q h = or_right (ltb x x) _ (both (eqb x x) _ (eqb_refl x) (lower_front f p q h))

pub before_front : (f p q : List ℕ) → T (before p q) → T (before (f ++ p) (f ++ q))
unfolding before
before_front f p q h =
    rw (length-append f p, length-append f q)
    (⊎_elim (λ k. or_left (ltb (length f + length p) (length f + length q)) _ (lt→ltb (length f + length p) (length f + length q) (omega (arith, ltb→lt (length p) (length q) k))))
    (λ k. or_right (ltb (length f + length p) (length f + length q)) _
    (both (eqb (length f + length p) (length f + length q)) _
    (eqb_of (length f + length p) (length f + length q) (ap (λ n. length f + n) (eqb→eq (length p) (length q) (and_left (eqb (length p) (length q)) _ k))))
    (lower_front f p q (and_right (eqb (length p) (length q)) _ k))))
    (or_cases (ltb (length p) (length q)) _ h))

pub ascending_front : (f : List ℕ) (ps : List (List ℕ)) → T (ascending ps) → T (ascending (map (λ (p : List ℕ). f ++ p) ps))
unfolding ascending
ascending_front f [] a = tt
ascending_front f (p ∷ []) a = tt
ascending_front f (p ∷ q ∷ ps) a =
    both (before (f ++ p) (f ++ q)) _ (before_front f p q (and_left (before p q) _ a)) (ascending_front f (q ∷ ps) (and_right (before p q) _ a))

pub ascending_empty : (p : List ℕ) → T (ascending (with_empty p))
unfolding ascending with_empty before
ascending_empty [] = tt
ascending_empty (x ∷ p) = both (before [] (x ∷ p)) true (or_left (ltb 0 (suc (length p))) _ (lt→ltb 0 (suc (length p)) (omega arith))) tt

-- an ascending set whose paths are all one has one path
pub ascending_one : (h : List ℕ) (ps : List (List ℕ)) → 0 < length ps → T (ascending ps) → Each (λ p. p ≡ h) ps → ps ≡ h ∷ []
unfolding ascending
ascending_one h [] l a e = absurd (let z : 0 < 0 = l in omega arith)
ascending_one h (p ∷ []) l a (also x e) = ap {B = List (List ℕ)} (λ r. r ∷ []) x
ascending_one h (p ∷ q ∷ ps) l a (also x (also y e)) =
    absurd (before_itself h (subst (λ r. T (before h r)) y (subst (λ r. T (before r q)) x (and_left (before p q) _ a))))
