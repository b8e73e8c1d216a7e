-- The pattern's runs and branches: their lengths, their parents, their last nodes.
use Rattle.std.specs.Prelude.{ℕ, zero, suc, ◌+◌, ◌-◌, ◌≤◌, ◌<◌, ◌≡◌, refl, ◌⊎◌, cond, List, [], ◌∷◌, ◌++◌, map, T, eqb, length}
use Rattle.std.proofs.Common.{sym, ap, ap₂, ◌∙◌, inl, inr, ⊎_elim, arith, eqb→eq, length-append}
use Rattle.meaning.specs.Lists.{any, is_empty}
use Rattle.meaning.specs.Trees.{Node, table_of, Down, here, step}
use Rattle.meaning.specs.Pattern.{drawn, run, branches, ends}
use Rattle.theory_lists.specs.Bools.{or_cases}
use Rattle.theory_pattern.specs.Numbered.{Numbered, none, next, Is, numbered_append, numbered_map, numbered_both}
use Rattle.theory_pattern.specs.Numbers.{run_length}

-- the symbols of a set of paths, counted
unfoldable pub total : List (List ℕ) → ℕ
total [] = 0
total (p ∷ ps) = length p + total ps

-- the last node of a run, which may be the one above it
unfoldable pub last : ℕ → ℕ → List ℕ → ℕ
last above n [] = above
last above n (s ∷ p) = last n (suc n) p

pub branches_length : (t n : ℕ) (S : List (List ℕ)) → length (branches t n S) ≡ total S
unfolding branches total
branches_length t n [] = refl
branches_length t n (p ∷ S) =
    length-append (run t n p) (branches t (n + length p) S) ∙ ap₂ ◌+◌ (run_length t n p) (branches_length t (n + length p) S)

pub run_append : (above n : ℕ) (p q : List ℕ) → run above n (p ++ q) ≡ run above n p ++ run (last above n p) (n + length p) q
unfolding run last
run_append above n [] q = let e : n ≡ n + zero = omega arith in ap (λ (k : ℕ). run above k q) e
run_append above n (s ∷ p) q =
    let e : suc n + length p ≡ n + suc (length p) = omega arith in
    ap (λ (l : List Node). record { parent = above; label = drawn s; value = 0 } ∷ l)
    (run_append n (suc n) p q ∙ ap (λ (k : ℕ). run n (suc n) p ++ run (last n (suc n) p) k q) e)

pub last_chain : (above n : ℕ) (p : List ℕ) → n ≡ suc above → last above n p ≡ above + length p
unfolding last
last_chain above n [] e = omega arith
last_chain above n (s ∷ p) e = let r = last_chain n (suc n) p refl in omega arith

pub last_end : (above n : ℕ) (p : List ℕ) → last above n p ≡ cond (is_empty p) above (n + length p - 1)
unfolding last is_empty
last_end above n [] = refl
last_end above n (s ∷ []) = omega arith
last_end above n (s ∷ r ∷ p) = let e = last_end n (suc n) (r ∷ p) in omega arith

-- "from the root along C to q, on along T to t": the labels down a run
pub run_down : (whole : List Node) (above n : ℕ) (p : List ℕ) → Numbered (Is whole) n (run above n p) → 0 < n → n + length p ≤ length whole
    → Down (table_of whole) above (map drawn p) (last above n p)
unfolding run last table_of Is
run_down whole above n [] l pos fits = here refl
run_down whole above n (s ∷ p) (next e l) pos fits =
    step n (record { not_root = pos; inside = omega arith; below = ap (λ (x : Node). x.parent) e }) (ap (λ (x : Node). x.label) e)
    (run_down whole n (suc n) p l (omega arith) (omega arith))

-- Where a node's parent stands: above it; on the chain just above; below t not above t
pub record Hangs (t m : ℕ) (x : Node) : Type 0 where
  pub above : x.parent < m
  pub chain : m ≤ t → suc x.parent ≡ m
  pub deep : t < m → t ≤ x.parent

hangs : (t above m label : ℕ) → above < m → (m ≤ t → suc above ≡ m) → (t < m → t ≤ above) → Hangs t m (record { parent = above; label = label; value = 0 })
hangs t above m label a c d = record { above = a; chain = c; deep = d }

pub chain_hangs : (t above n : ℕ) (p : List ℕ) → n ≡ suc above → Numbered (Hangs t) n (run above n p)
unfolding run
chain_hangs t above n [] e = none
chain_hangs t above n (s ∷ p) e =
    next (hangs t above n (drawn s) (omega arith) (λ h. omega arith) (λ h. omega arith)) (chain_hangs t n (suc n) p refl)

pub branch_hangs : (t above n : ℕ) (p : List ℕ) → t ≤ above → above < n → Numbered (Hangs t) n (run above n p)
unfolding run
branch_hangs t above n [] l h = none
branch_hangs t above n (s ∷ p) l h =
    next (hangs t above n (drawn s) h (λ k. omega arith) (λ k. l)) (branch_hangs t n (suc n) p (omega arith) (omega arith))

pub branches_hang : (t n : ℕ) (S : List (List ℕ)) → t < n → Numbered (Hangs t) n (branches t n S)
unfolding branches
branches_hang t n [] h = none
branches_hang t n (p ∷ S) h =
    numbered_append (n + length p) (ap (λ (k : ℕ). n + k) (sym (run_length t n p))) (branch_hangs t t n p (omega arith) h)
    (branches_hang t (n + length p) S (omega arith))

-- A node of a branch hangs under t or under a node of the same branch that is not its last
unfoldable pub Under : ℕ → ℕ → ℕ → ℕ → Node → Type 0
Under t start stop m x = (x.parent ≡ t) ⊎ ((start ≤ x.parent) × (suc x.parent < stop))

run_under : (t start stop above n : ℕ) (p : List ℕ) → (above ≡ t) ⊎ ((start ≤ above) × (suc above ≡ n)) → start ≤ n → stop ≡ n + length p
    → Numbered (Under t start stop) n (run above n p)
unfolding run Under
run_under t start stop above n [] h l e = none
run_under t start stop above n (s ∷ p) h l e =
    next (go h) (run_under t start stop n (suc n) p (inr (l, refl)) (omega arith) (omega arith))
  where
    go : (above ≡ t) ⊎ ((start ≤ above) × (suc above ≡ n)) → (above ≡ t) ⊎ ((start ≤ above) × (suc above < stop))
    go (inl q) = inl q
    go (inr q) = inr (q.0, omega arith)

-- .. and so of all branches
unfoldable From : ℕ → ℕ → ℕ → Node → Type 0
From t start m x = (x.parent ≡ t) ⊎ (start ≤ x.parent)

branches_from : (t n : ℕ) (S : List (List ℕ)) → Numbered (From t n) n (branches t n S)
unfolding branches Under From
branches_from t n [] = none
branches_from t n (p ∷ S) =
    numbered_append (n + length p) (ap (λ (k : ℕ). n + k) (sym (run_length t n p)))
    (numbered_map (λ m x a b u. first m x u) (run_under t n (n + length p) t n p (inl refl) (omega arith) refl))
    (numbered_map (λ m x a b u. later m x u) (branches_from t (n + length p) S))
  where
    first : (m : ℕ) (x : Node) → Under t n (n + length p) m x → From t n m x
    first m x (inl q) = inl q
    first m x (inr q) = inr q.0

    later : (m : ℕ) (x : Node) → From t (n + length p) m x → From t n m x
    later m x (inl q) = inl q
    later m x (inr q) = inr (omega arith)

-- no key path is empty
unfoldable pub longs : List (List ℕ) → Type 0
longs [] = Unit {0}
longs (p ∷ S) = (0 < length p) × longs S

pub ends_after : (t n y : ℕ) (S : List (List ℕ)) → longs S → T (any (eqb y) (ends t n S)) → n ≤ y
unfolding any ends longs is_empty
ends_after t n y [] h k = absurd k
ends_after t n y ([] ∷ S) h k = absurd (omega (arith, h.0))
ends_after t n y ((s ∷ p) ∷ S) h k =
    ⊎_elim (λ q. let e = eqb→eq y (n + suc (length p) - 1) q in omega arith)
    (λ q. let r = ends_after t (n + suc (length p)) y S h.1 q in omega arith)
    (or_cases (eqb y (n + suc (length p) - 1)) (any (eqb y) (ends t (n + suc (length p)) S)) k)

-- so no node hangs under a branch's end
unfoldable pub Bare : ℕ → ℕ → List (List ℕ) → ℕ → Node → Type 0
Bare t n S m x = T (any (eqb x.parent) (ends t n S)) → ⊥

bare_own : (t n s : ℕ) (p : List ℕ) (S : List (List ℕ)) (m : ℕ) (x : Node) → t < n → longs S → Under t n (n + suc (length p)) m x
    → Bare t n ((s ∷ p) ∷ S) m x
unfolding any ends Under Bare is_empty
bare_own t n s p S m x h k u q =
    ⊎_elim (λ e. not_end u (eqb→eq x.parent (n + suc (length p) - 1) e)) (λ e. not_later u (ends_after t (n + suc (length p)) x.parent S k e))
    (or_cases (eqb x.parent (n + suc (length p) - 1)) (any (eqb x.parent) (ends t (n + suc (length p)) S)) q)
  where
    not_end : (x.parent ≡ t) ⊎ ((n ≤ x.parent) × (suc x.parent < n + suc (length p))) → x.parent ≡ n + suc (length p) - 1 → ⊥
    not_end (inl a) e = omega arith
    not_end (inr a) e = omega arith

    not_later : (x.parent ≡ t) ⊎ ((n ≤ x.parent) × (suc x.parent < n + suc (length p))) → n + suc (length p) ≤ x.parent → ⊥
    not_later (inl a) e = omega arith
    not_later (inr a) e = omega arith

bare_later : (t n s : ℕ) (p : List ℕ) (S : List (List ℕ)) (m : ℕ) (x : Node) → t < n → From t (n + suc (length p)) m x
    → Bare t (n + suc (length p)) S m x → Bare t n ((s ∷ p) ∷ S) m x
unfolding any ends From Bare is_empty
bare_later t n s p S m x h u b q =
    ⊎_elim (λ e. not_end u (eqb→eq x.parent (n + suc (length p) - 1) e)) b
    (or_cases (eqb x.parent (n + suc (length p) - 1)) (any (eqb x.parent) (ends t (n + suc (length p)) S)) q)
  where
    not_end : (x.parent ≡ t) ⊎ (n + suc (length p) ≤ x.parent) → x.parent ≡ n + suc (length p) - 1 → ⊥
    not_end (inl a) e = omega arith
    not_end (inr a) e = omega arith

pub ends_bare : (t n : ℕ) (S : List (List ℕ)) → t < n → longs S → Numbered (Bare t n S) n (branches t n S)
unfolding branches longs
ends_bare t n [] h k = none
ends_bare t n ([] ∷ S) h k = absurd (omega (arith, k.0))
ends_bare t n ((s ∷ p) ∷ S) h k =
    numbered_append (n + suc (length p)) (ap (λ (j : ℕ). n + j) (sym (run_length t n (s ∷ p))))
    (numbered_map (λ m x a b u. bare_own t n s p S m x h k.1 u)
    (run_under t n (n + suc (length p)) t n (s ∷ p) (inl refl) (omega arith) refl))
    (numbered_map (λ m x a b u. bare_later t n s p S m x h u.0 u.1)
    (numbered_both (branches_from t (n + suc (length p)) S) (ends_bare t (n + suc (length p)) S (omega arith) k.1)))
