-- A tree that breaks a key has a first witness: everything about it can be decided, and numbers below a bound have a least one.
use Rattle.std.specs.Prelude.{ℕ, zero, suc, ◌+◌, ◌<◌, ◌≤◌, ◌≡◌, ◌⊎◌, List, [], ◌∷◌, T}
use Rattle.std.proofs.Common.{sym, arith}
use Rattle.std.proofs.Math.Path.{subst}
use Rattle.std.proofs.Math.Logic.{inl, inr}
use Rattle.std.proofs.Math.Decide.{dec_lt, ℕ_discrete, map_dec}
use Rattle.meaning.specs.Lists.{Each, end, also}
use Rattle.meaning.specs.Paths.{Class}
use Rattle.meaning.specs.Trees.{Table, IsTree, Reached, Equal}
use Rattle.meaning.specs.Keys.{Key, EqualPair, Breaks, FirstWitness}
use Rattle.theory_trees.specs.Below.{ParentsSmaller, tree_smaller}
use Rattle.theory_trees.specs.Breaking.{clash, clash_sound, clash_complete}
use Rattle.theory_trees.specs.Climb.{reached?, T-dec}
use Rattle.theory_trees.specs.Agreeing.{swap_pairs}
use Rattle.theory_trees.specs.Reach.{reached_inside}
use Rattle.theory_trees.specs.Sameness.{equal?}
use Rattle.theory_trees.specs.Witness.{FirstPair, FirstPairs, no_path, one_path, firsts_first}

-- the least number below a bound of which something decidable holds
pub record LeastOf (P : ℕ → Type 0) : Type 0 where
  pub number : ℕ
  pub holds : P number
  pub least : (m : ℕ) → P m → number ≤ m

module _ (P : ℕ → Type 0) (decide : (n : ℕ) → Dec (P n)) where
  -- none below n, or the least is found
  from : (left n : ℕ) → ((m : ℕ) → m < n → P m → ⊥) → ((m : ℕ) → n + left ≤ m → P m → ⊥) → LeastOf P ⊎ ((m : ℕ) → P m → ⊥)
  from zero n below above = inr (λ m p. at m p (dec_lt m n))
    where
      at : (m : ℕ) → P m → Dec (m < n) → ⊥
      at m p (yes h) = below m h p
      at m p (no h) = above m (omega arith) p
  from (suc left) n below above = go (decide n) (λ b. from left (suc n) b (λ m h. above m (omega arith)))
    where
      go : Dec (P n) → (((m : ℕ) → m < suc n → P m → ⊥) → LeastOf P ⊎ ((m : ℕ) → P m → ⊥)) → LeastOf P ⊎ ((m : ℕ) → P m → ⊥)
      go (yes p) ih = inl (record { number = n; holds = p; least = λ m q. at m q (dec_lt m n) })
        where
          at : (m : ℕ) → P m → Dec (m < n) → n ≤ m
          at m q (yes h) = absurd (below m h q)
          at m q (no h) = omega arith
      go (no p) ih = ih (λ m h q. at m h q (ℕ_discrete m n))
        where
          at : (m : ℕ) → m < suc n → P m → Dec (m ≡ n) → ⊥
          at m h q (yes e) = p (subst P e q)
          at m h q (no e) = below m (omega arith) q

  module _ (bound : ℕ) (inside : (n : ℕ) → P n → n < bound) where
    search : LeastOf P ⊎ ((m : ℕ) → P m → ⊥)
    search = from bound 0 (λ m h. absurd (omega arith)) (λ m h p. let i = inside m p in omega arith)

    pub least_of : (n : ℕ) → P n → LeastOf P
    least_of n p = go search
      where
        go : LeastOf P ⊎ ((m : ℕ) → P m → ⊥) → LeastOf P
        go (inl l) = l
        go (inr h) = absurd (h n p)

    pub some? : Dec ((n : ℕ) × P n)
    some? = go search
      where
        go : LeastOf P ⊎ ((m : ℕ) → P m → ⊥) → Dec ((n : ℕ) × P n)
        go (inl l) = yes (l.number, l.holds)
        go (inr h) = no (λ w. h w.0 w.1)

both? : {A B : Type 0} → Dec A → Dec B → Dec (A × B)
both? (yes a) (yes b) = yes (a, b)
both? (yes a) (no b) = no (λ h. b h.1)
both? (no a) d = no (λ h. a h.0)

module _ {κ : ℕ → Class} {t : Table} (tree : IsTree κ t) where
  small : ParentsSmaller t
  small = tree_smaller tree

  -- the second node of a pair, below b; the first, below a, that has one
  Second : (b : ℕ) (P : List ℕ) (x y : ℕ) → Type 0
  Second b P x y = Reached t b P y × Equal κ t x y

  second? : (b : ℕ) (P : List ℕ) (x y : ℕ) → Dec (Second b P x y)
  unfolding Second
  second? b P x y = both? (reached? t small b P y) (equal? small x y)

  First : (a b : ℕ) (P : List ℕ) (x : ℕ) → Type 0
  First a b P x = Reached t a P x × ((y : ℕ) × Second b P x y)

  first? : (a b : ℕ) → b < t.size → (P : List ℕ) (x : ℕ) → Dec (First a b P x)
  unfolding First Second
  first? a b ib P x = both? (reached? t small a P x) (some? (Second b P x) (second? b P x) t.size (λ y h. reached_inside h.0 ib))

  pub first_pair : (a b : ℕ) → a < t.size → b < t.size → (P : List ℕ) → EqualPair κ t a b P → (x : ℕ) × (y : ℕ) × FirstPair κ t a b P x y
  unfolding First Second
  first_pair a b ia ib P p =
      let X = least_of (First a b P) (first? a b ib P) t.size (λ x h. reached_inside h.0 ia) p.x (p.from_first, (p.y, (p.from_second, p.equal))) in
      let Y = least_of (Second b P X.number) (second? b P X.number) t.size (λ y h. reached_inside h.0 ib) X.holds.1.0 X.holds.1.1 in (
        X.number,
        Y.number,
        record {
          from_first = X.holds.0;
          from_second = Y.holds.0;
          equal = Y.holds.1;
          least = λ u v r s e. go u v r s e X.number Y.number (X.least u (r, (v, (s, e)))) (Y.least v) (ℕ_discrete X.number u);
        },
      )
    where
      go : (u v : ℕ) → Reached t a P u → Reached t b P v → Equal κ t u v → (x y : ℕ) → x ≤ u → (Reached t b P v × Equal κ t x v → y ≤ v)
          → Dec (x ≡ u) → (x < u) ⊎ ((x ≡ u) × (y ≤ v))
      go u v r s e x y h k (yes z) = inr (z, k (s, subst (λ (n : ℕ). Equal κ t n v) (sym z) e))
      go u v r s e x y h k (no z) = inl (omega arith)

  pub first_pairs : (a b : ℕ) → a < t.size → b < t.size → {paths : List (List ℕ)} → Each (EqualPair κ t a b) paths
      → (ns : List ℕ) × FirstPairs κ t a b paths ns
  first_pairs a b ia ib end = ([], no_path)
  first_pairs a b ia ib (also {x = P} p w) =
      let f = first_pair a b ia ib P p in
      let r = first_pairs a b ia ib w in
      (f.0 ∷ f.1 ∷ r.0, one_path f.0 f.1 f.2 r.1)

  pairs? : (paths : List (List ℕ)) (a b : ℕ) → a < t.size → b < t.size → a < b → Dec (Each (EqualPair κ t a b) paths)
  pairs? paths a b ia ib o =
      map_dec (λ (h : T (clash κ t paths a b)). (clash_sound paths a b h).1) (clash_complete small paths a b ia ib (λ e. omega arith))
      (T-dec (clash κ t paths a b))

  module _ (key : Key) where
    -- the larger target of a witness; the smaller, that has a larger; the context, that has both
    Mate : (q a b : ℕ) → Type 0
    Mate q a b = Reached t q key.target b × ((a < b) × Each (EqualPair κ t a b) key.paths)

    mate? : (q a b : ℕ) → q < t.size → a < t.size → Dec (Mate q a b)
    unfolding Mate
    mate? q a b iq ia = go (reached? t small q key.target b) (dec_lt a b)
      where
        go : Dec (Reached t q key.target b) → Dec (a < b) → Dec (Mate q a b)
        go (no n) d = no (λ h. n h.0)
        go (yes r) (no n) = no (λ h. n h.1.0)
        go (yes r) (yes o) = both? (yes r) (both? (yes o) (pairs? key.paths a b ia (reached_inside r iq) o))

    Target : (q a : ℕ) → Type 0
    Target q a = Reached t q key.target a × ((b : ℕ) × Mate q a b)

    target? : (q a : ℕ) → q < t.size → Dec (Target q a)
    unfolding Target Mate
    target? q a iq = go (reached? t small q key.target a)
      where
        go : Dec (Reached t q key.target a) → Dec (Target q a)
        go (no n) = no (λ h. n h.0)
        go (yes r) =
            both? (yes r) (some? (Mate q a) (λ b. mate? q a b iq (reached_inside r iq)) t.size (λ b h. reached_inside h.0 iq))

    Context : ℕ → Type 0
    Context q = Reached t 0 key.context q × ((a : ℕ) × Target q a)

    context? : (q : ℕ) → Dec (Context q)
    unfolding Context Target
    context? q = go (reached? t small 0 key.context q)
      where
        go : Dec (Reached t 0 key.context q) → Dec (Context q)
        go (no n) = no (λ h. n h.0)
        go (yes r) =
            let iq = reached_inside r tree.some in
            both? (yes r) (some? (Target q) (λ a. target? q a iq) t.size (λ a h. reached_inside h.0 iq))

    -- the witness that `Breaks` is, the smaller target first
    ordered : Breaks κ t key → (q : ℕ) × Context q
    unfolding Context Target Mate
    ordered w = go (dec_lt w.a w.b) (dec_lt w.b w.a)
      where
        go : Dec (w.a < w.b) → Dec (w.b < w.a) → (q : ℕ) × Context q
        go (yes h) d = (w.q, (w.context, (w.a, (w.first, (w.b, (w.second, (h, w.pairs)))))))
        go (no h) (yes k) = (w.q, (w.context, (w.b, (w.second, (w.a, (w.first, (k, swap_pairs w.pairs)))))))
        go (no h) (no k) = absurd (w.different (omega arith))

    pub first_exists : Breaks κ t key → (numbers : List ℕ) × FirstWitness κ t key numbers
    unfolding Context Target Mate
    first_exists w =
        let s = ordered w in
        let Q = least_of Context context? t.size (λ q h. reached_inside h.0 tree.some) s.0 s.1 in
        let iq = reached_inside Q.holds.0 tree.some in
        let A = least_of (Target Q.number) (λ a. target? Q.number a iq) t.size (λ a h. reached_inside h.0 iq) Q.holds.1.0 Q.holds.1.1 in
        let ia = reached_inside A.holds.0 iq in
        let B = least_of (Mate Q.number A.number) (λ b. mate? Q.number A.number b iq ia) t.size (λ b h. reached_inside h.0 iq) A.holds.1.0 A.holds.1.1 in
        let ps = first_pairs A.number B.number ia (reached_inside {w = B.number} B.holds.0 iq) B.holds.1.1 in (
          Q.number ∷ A.number ∷ B.number ∷ ps.0,
          firsts_first {b = B.number} {ns = ps.0}
              (record {
                agreeing = record { context = Q.holds.0; first = A.holds.0; second = B.holds.0; pairs = B.holds.1.1 };
                ordered = B.holds.1.0;
                highest = λ p c d g o. Q.least p (g.context, (c, (g.first, (d, (g.second, (o, g.pairs))))));
                smaller = λ c d g o. A.least c (g.first, (d, (g.second, (o, g.pairs))));
                larger = λ d g o. B.least d (g.second, (o, g.pairs));
              })
              ps.1,
        )
