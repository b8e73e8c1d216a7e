-- Whether a tree breaks a key, as a computation: a search over the nodes that the paths reach.
use Rattle.std.specs.Prelude.{ℕ, ◌<◌, ◌≡◌, ◌≢◌, Bool}
use Rattle.std.proofs.Math.Path.{refl, subst}
use Rattle.std.proofs.Common.{sym, arith, ne_eqb}
use Rattle.std.proofs.Math.Bool.{true, false}
use mathlib.Core.List.{List, Memᴰ}
use Rattle.std.proofs.Math.Decide.{map_dec}
use Rattle.std.proofs.Math.Dec.{T, eqb}
use Rattle.std.proofs.lemmas.Bool.{eqb-false}
use Rattle.meaning.specs.Lists.{Each, every, any, keep, numbers}
use Rattle.meaning.specs.Paths.{Class}
use Rattle.meaning.specs.Trees.{Table, IsTree, Reached}
use Rattle.meaning.specs.Keys.{Key, EqualPair, Breaks}
use Rattle.theory_lists.specs.Bools.{every_each, each_every, any_some, some_any, Each-at, Each-of}
use Rattle.theory_trees.specs.Below.{ParentsSmaller, tree_smaller}
use Rattle.theory_trees.specs.Children.{keep_mem, mem_keep, mem_numbers}
use Rattle.theory_trees.specs.Climb.{reaches, reaches_sound, reaches_complete, T-dec}
use Rattle.theory_trees.specs.Reach.{reached_inside}
use Rattle.theory_trees.specs.Sameness.{same_nodes, same_sound, same_complete}

-- the nodes that a path reaches, in table order
unfoldable pub reached_by : Table → ℕ → List ℕ → List ℕ
reached_by t v path = keep (reaches t v path) (numbers t.size 0)

-- "value-equal pair x, y with x reached from a and y from b by P"
unfoldable pub has_pair : (ℕ → Class) → Table → ℕ → ℕ → List ℕ → Bool
has_pair κ t a b P = any (λ (x : ℕ). any (same_nodes κ t x) (reached_by t b P)) (reached_by t a P)

-- a and b are different and have a pair for each key path
unfoldable pub clash : (ℕ → Class) → Table → List (List ℕ) → ℕ → ℕ → Bool
clash κ t paths a b = elim (eqb a b) [ true ↦ false | false ↦ every (has_pair κ t a b) paths ]

unfoldable pub breaks_at : (ℕ → Class) → Table → List (List ℕ) → List ℕ → Bool
breaks_at κ t paths targets = any (λ (a : ℕ). any (clash κ t paths a) targets) targets

unfoldable pub breaks : (ℕ → Class) → Table → Key → Bool
breaks κ t key = any (λ (q : ℕ). breaks_at κ t key.paths (reached_by t q key.target)) (reached_by t 0 key.context)

module _ (t : Table) (v : ℕ) (path : List ℕ) where
  pub mem_reached : {w : ℕ} → Memᴰ w (reached_by t v path) → Reached t v path w
  unfolding reached_by
  mem_reached {w} m = reaches_sound t v path w (keep_mem (reaches t v path) (numbers t.size 0) m).1

  pub reached_mem : ParentsSmaller t → v < t.size → {w : ℕ} → Reached t v path w → Memᴰ w (reached_by t v path)
  unfolding reached_by
  reached_mem small inside {w} r =
      let h = reached_inside r inside in
      mem_keep (reaches t v path) (numbers t.size 0) (mem_numbers w t.size 0 (omega arith) (omega arith)) (reaches_complete t small v path w r)

module _ {κ : ℕ → Class} {t : Table} where
  pub pair_sound : (a b : ℕ) (P : List ℕ) → T (has_pair κ t a b P) → EqualPair κ t a b P
  unfolding has_pair
  pair_sound a b P h =
      let (x, mx, k) = any_some (λ (x : ℕ). any (same_nodes κ t x) (reached_by t b P)) (reached_by t a P) h in
      let (y, my, s) = any_some (same_nodes κ t x) (reached_by t b P) k in
      record { x = x; y = y; from_first = mem_reached t a P mx; from_second = mem_reached t b P my; equal = same_sound x y s }

  pub pair_complete : ParentsSmaller t → (a b : ℕ) → a < t.size → b < t.size → (P : List ℕ) → EqualPair κ t a b P → T (has_pair κ t a b P)
  unfolding has_pair
  pair_complete small a b ia ib P p =
      some_any (λ (x : ℕ). any (same_nodes κ t x) (reached_by t b P)) p.x (reached_mem t a P small ia p.from_first)
      (some_any (same_nodes κ t p.x) p.y (reached_mem t b P small ib p.from_second) (same_complete small p.x p.y p.equal))

  pub clash_sound : (paths : List (List ℕ)) (a b : ℕ) → T (clash κ t paths a b) → (a ≢ b) × Each (EqualPair κ t a b) paths
  unfolding clash
  clash_sound paths a b h = go (eqb a b) refl h
    where
      go : (c : Bool) → eqb a b ≡ c → T (elim c [ true ↦ false | false ↦ every (has_pair κ t a b) paths ])
          → (a ≢ b) × Each (EqualPair κ t a b) paths
      go true e h = absurd h
      go false e h = (eqb-false a b e, Each-of paths (λ P m. pair_sound a b P (every_each (has_pair κ t a b) paths h P m)))

  pub clash_complete : ParentsSmaller t → (paths : List (List ℕ)) (a b : ℕ) → a < t.size → b < t.size → a ≢ b → Each (EqualPair κ t a b) paths
      → T (clash κ t paths a b)
  unfolding clash
  clash_complete small paths a b ia ib different pairs =
      subst (λ (c : Bool). T (elim c [ true ↦ false | false ↦ every (has_pair κ t a b) paths ])) (sym (ne_eqb a b different))
      (each_every (has_pair κ t a b) paths (λ P m. pair_complete small a b ia ib P (Each-at pairs P m)))

  pub breaks_sound : (key : Key) → T (breaks κ t key) → Breaks κ t key
  unfolding breaks breaks_at
  breaks_sound key h =
      let (q, mq, k) = any_some (λ (q : ℕ). breaks_at κ t key.paths (reached_by t q key.target)) (reached_by t 0 key.context) h in
      let targets = reached_by t q key.target in
      let (a, ma, l) = any_some (λ (a : ℕ). any (clash κ t key.paths a) targets) targets k in
      let (b, mb, s) = any_some (clash κ t key.paths a) targets l in
      let c = clash_sound key.paths a b s in
      record {
        q = q;
        a = a;
        b = b;
        context = mem_reached t 0 key.context mq;
        first = mem_reached t q key.target ma;
        second = mem_reached t q key.target mb;
        different = c.0;
        pairs = c.1;
      }

  pub breaks_complete : IsTree κ t → (key : Key) → Breaks κ t key → T (breaks κ t key)
  unfolding breaks breaks_at
  breaks_complete tree key w =
      let small = tree_smaller tree in
      let iq = reached_inside w.context tree.some in
      let ia = reached_inside w.first iq in
      let ib = reached_inside w.second iq in
      let targets = reached_by t w.q key.target in
      some_any (λ (q : ℕ). breaks_at κ t key.paths (reached_by t q key.target)) w.q (reached_mem t 0 key.context small tree.some w.context)
      (some_any (λ (a : ℕ). any (clash κ t key.paths a) targets) w.a (reached_mem t w.q key.target small iq w.first)
      (some_any (clash κ t key.paths w.a) w.b (reached_mem t w.q key.target small iq w.second)
      (clash_complete small key.paths w.a w.b ia ib w.different w.pairs)))

  pub breaks? : IsTree κ t → (key : Key) → Dec (Breaks κ t key)
  breaks? tree key = map_dec (breaks_sound key) (breaks_complete tree key) (T-dec (breaks κ t key))
