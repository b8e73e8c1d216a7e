-- The first witness: there is one at most, it breaks the key, and what makes a witness the first.
use Rattle.std.specs.Prelude.{ℕ, suc, ◌<◌, ◌≤◌, ◌≡◌, refl, ◌⊎◌, not, List, [], ◌∷◌, length}
use Rattle.std.proofs.Common.{sym, ◌∙◌, ap, subst, inl, inr, arith}
use Rattle.std.proofs.Math.Decide.{dec_lt}
use Rattle.std.proofs.Math.Dec.{T}
use Rattle.meaning.specs.Lists.{Each, end, also, lower}
use Rattle.meaning.specs.Paths.{Class}
use Rattle.meaning.specs.Trees.{Table, Reached, Equal}
use Rattle.meaning.specs.Keys.{Key, EqualPair, Breaks, Paired, unpaired, pair, Shows, FirstWitness}
use Rattle.theory_trees.specs.Agreeing.{Agreeing}
use Rattle.theory_trees.specs.Order.{lower_total, not_lower_front, not_lower_behind}

module _ {κ : ℕ → Class} {t : Table} where
  paired_each : {a b : ℕ} {paths : List (List ℕ)} {ns : List ℕ} → Paired κ t a b paths ns → Each (EqualPair κ t a b) paths
  paired_each unpaired = end
  paired_each (pair x y r s e p) = also (record { x = x; y = y; from_first = r; from_second = s; equal = e }) (paired_each p)

  same_length : {a b c d : ℕ} {paths : List (List ℕ)} {ms ns : List ℕ} → Paired κ t a b paths ms → Paired κ t c d paths ns → length ms ≡ length ns
  same_length unpaired unpaired = refl
  same_length (pair x y r s e p) (pair u v k l f q) = ap (λ (n : ℕ). suc (suc n)) (same_length p q)

  shows_agree : {key : Key} {numbers : List ℕ} (w : Shows κ t key numbers) → Agreeing κ t key w.q w.a w.b
  shows_agree w = record { context = w.context; first = w.first; second = w.second; pairs = paired_each w.paired }

  pub shows_breaks : {key : Key} {numbers : List ℕ} → Shows κ t key numbers → Breaks κ t key
  shows_breaks w =
      let h = w.ordered in
      record {
        q = w.q;
        a = w.a;
        b = w.b;
        context = w.context;
        first = w.first;
        second = w.second;
        different = λ e. omega arith;
        pairs = paired_each w.paired;
      }

  shows_length : {key : Key} {ms ns : List ℕ} → Shows κ t key ms → Shows κ t key ns → length ms ≡ length ns
  shows_length v w =
      ap length v.are ∙ ap (λ (n : ℕ). suc (suc (suc n))) (same_length v.paired w.paired) ∙ sym (ap length w.are)

  pub first_unique : {key : Key} {ms ns : List ℕ} → FirstWitness κ t key ms → FirstWitness κ t key ns → ms ≡ ns
  first_unique {ms = ms} {ns} v w =
      lower_total ms ns (shows_length v.shows w.shows) (w.first ms v.shows) (v.first ns w.shows)

-- x and y are the first pair of a key path below a and b
pub record FirstPair (κ : ℕ → Class) (t : Table) (a b : ℕ) (P : List ℕ) (x y : ℕ) : Type 0 where
  pub from_first : Reached t a P x
  pub from_second : Reached t b P y
  pub equal : Equal κ t x y
  pub least : (u v : ℕ) → Reached t a P u → Reached t b P v → Equal κ t u v → (x < u) ⊎ ((x ≡ u) × (y ≤ v))

-- the first pair of each key path
pub data FirstPairs (κ : ℕ → Class) (t : Table) (a b : ℕ) : List (List ℕ) → List ℕ → Type 0 where
  no_path : FirstPairs κ t a b [] []
  one_path : {P : List ℕ} {paths : List (List ℕ)} {numbers : List ℕ} (x y : ℕ) → FirstPair κ t a b P x y → FirstPairs κ t a b paths numbers
      → FirstPairs κ t a b (P ∷ paths) (x ∷ y ∷ numbers)

-- Context and targets come first
pub record FirstTargets (κ : ℕ → Class) (t : Table) (key : Key) (q a b : ℕ) : Type 0 where
  pub agreeing : Agreeing κ t key q a b
  pub ordered : a < b
  pub highest : (p c d : ℕ) → Agreeing κ t key p c d → c < d → q ≤ p
  pub smaller : (c d : ℕ) → Agreeing κ t key q c d → c < d → a ≤ c
  pub larger : (d : ℕ) → Agreeing κ t key q a d → a < d → b ≤ d

module _ {κ : ℕ → Class} {t : Table} where
  pairs_paired : {a b : ℕ} {paths : List (List ℕ)} {ns : List ℕ} → FirstPairs κ t a b paths ns → Paired κ t a b paths ns
  pairs_paired no_path = unpaired
  pairs_paired (one_path x y f p) = pair x y f.from_first f.from_second f.equal (pairs_paired p)

  pairs_first : {a b c d : ℕ} → a ≡ c → b ≡ d → {paths : List (List ℕ)} {ns ms : List ℕ} → FirstPairs κ t a b paths ns → Paired κ t c d paths ms
      → T (not (lower ms ns))
  unfolding lower
  pairs_first e f no_path unpaired = tt
  pairs_first {a} {b} {c} {d} e f (one_path {P} {numbers = ns} x y p ps) (pair {numbers = ms} u v r s q qs) =
      go (pairs_first e f ps qs)
      (p.least u v (subst (λ (n : ℕ). Reached t n P u) (sym e) r) (subst (λ (n : ℕ). Reached t n P v) (sym f) s) q) (dec_lt y v)
    where
      go : T (not (lower ms ns)) → (x < u) ⊎ ((x ≡ u) × (y ≤ v)) → Dec (y < v) → T (not (lower (u ∷ v ∷ ms) (x ∷ y ∷ ns)))
      go ih (inl h) k = not_lower_front u x (v ∷ ms) (y ∷ ns) h
      go ih (inr h) (yes k) = not_lower_behind u x (v ∷ ms) (y ∷ ns) (sym h.0) (not_lower_front v y ms ns k)
      go ih (inr h) (no k) = let i = h.1 in not_lower_behind u x (v ∷ ms) (y ∷ ns) (sym h.0) (not_lower_behind v y ms ns (omega arith) ih)

  -- what the code finds is the first witness
  pub firsts_first : {key : Key} {q a b : ℕ} {ns : List ℕ} → FirstTargets κ t key q a b → FirstPairs κ t a b key.paths ns
      → FirstWitness κ t key (q ∷ a ∷ b ∷ ns)
  firsts_first {key} {q} {a} {b} {ns} f p =
      record {
        shows = record {
          q = q;
          a = a;
          b = b;
          pairs = ns;
          are = refl;
          context = f.agreeing.context;
          first = f.agreeing.first;
          second = f.agreeing.second;
          ordered = f.ordered;
          paired = pairs_paired p;
        };
        first = λ others w. subst (λ (l : List ℕ). T (not (lower l (q ∷ a ∷ b ∷ ns)))) (sym w.are) (later w);
      }
    where
      later : {others : List ℕ} (w : Shows κ t key others) → T (not (lower (w.q ∷ w.a ∷ w.b ∷ w.pairs) (q ∷ a ∷ b ∷ ns)))
      later w = at_q (dec_lt q w.q)
        where
          at_b : q ≡ w.q → a ≡ w.a → Dec (b < w.b) → T (not (lower (w.q ∷ w.a ∷ w.b ∷ w.pairs) (q ∷ a ∷ b ∷ ns)))
          at_b e g (yes h) = not_lower_behind _ _ _ _ (sym e) (not_lower_behind _ _ _ _ (sym g) (not_lower_front _ _ _ _ h))
          at_b e g (no h) =
              let o = w.ordered in
              let l = f.larger w.b
              (subst (λ (n : ℕ). Agreeing κ t key n a w.b) (sym e) (subst (λ (n : ℕ). Agreeing κ t key w.q n w.b) (sym g) (shows_agree w)))
              (omega arith) in
              let z : b ≡ w.b = omega arith in
              not_lower_behind _ _ _ _ (sym e) (not_lower_behind _ _ _ _ (sym g) (not_lower_behind _ _ _ _ (sym z) (pairs_first g z p w.paired)))

          at_a : q ≡ w.q → Dec (a < w.a) → T (not (lower (w.q ∷ w.a ∷ w.b ∷ w.pairs) (q ∷ a ∷ b ∷ ns)))
          at_a e (yes h) = not_lower_behind _ _ _ _ (sym e) (not_lower_front _ _ _ _ h)
          at_a e (no h) =
              let l = f.smaller w.a w.b (subst (λ (n : ℕ). Agreeing κ t key n w.a w.b) (sym e) (shows_agree w)) w.ordered in
              at_b e (omega arith) (dec_lt b w.b)

          at_q : Dec (q < w.q) → T (not (lower (w.q ∷ w.a ∷ w.b ∷ w.pairs) (q ∷ a ∷ b ∷ ns)))
          at_q (yes h) = not_lower_front _ _ _ _ h
          at_q (no h) =
              let l = f.highest w.q w.a w.b (shows_agree w) w.ordered in
              at_a (omega arith) (dec_lt a w.a)
