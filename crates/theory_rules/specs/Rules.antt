-- Each rule on one tree: a witness against the conclusion is turned into one against a premise (ARGUMENT 3).
use Rattle.std.specs.Prelude.{ℕ, ◌≡◌, refl}
use Rattle.std.proofs.Common.{sym, ◌∙◌}
use Rattle.std.proofs.Math.Path.{subst}
use mathlib.Core.List.{List, [], ◌++◌, map, Memᴰ}
use Rattle.std.proofs.Math.Decide.{ℕ_discrete}
use Rattle.meaning.specs.Lists.{Each}
use Rattle.meaning.specs.Lists.Each.{end, also}
use Rattle.meaning.specs.Paths.{Class, join}
use Rattle.meaning.specs.Trees.{Table, IsTree, Reached, Equal}
use Rattle.meaning.specs.Keys.{Breaks, Key, EqualPair, Keeps}
use Rattle.meaning.specs.Rules.{Epsilon, PrefixEpsilon, Superkey, Subnodes, ContextTarget, SubnodesEpsilon, Interaction}
use Rattle.theory_lists.specs.Bools.{Each-at, Each-of}
use Rattle.theory_paths.specs.Words.{Word}
use Rattle.theory_lists.specs.Lists.{with_empty_empty, with_empty_path, with_empty_each}
use Rattle.theory_trees.specs.Reach.{reached_empty, reached_self, reached_append, reached_split, reached_append_split, reached_wider, reached_rigid, equal_reached}

-- a node reached by one path is reached by the path that is the same
by_same : {t : Table} {v w : ℕ} {P Q : List ℕ} → P ≡ Q → Reached t v P w → Reached t v Q w
by_same {t} {v} {w} e r = subst (λ (P : List ℕ). Reached t v P w) e r

module _ (κ : ℕ → Class) (t : Table) where
  -- a pair for each path of a set is one for each path of the set that is the same
  same_set : {a b : ℕ} {R S : List (List ℕ)} → R ≡ S → Each (EqualPair κ t a b) R → Each (EqualPair κ t a b) S
  same_set {a} {b} e h = subst (λ (S : List (List ℕ)). Each (EqualPair κ t a b) S) e h

  -- 1 epsilon: a and b are both q
  pub epsilon_kept : (k : Key) → Epsilon k → Keeps κ t k
  unfolding Epsilon Keeps
  epsilon_kept k e w = w.different (sym (reached_empty (by_same e w.first)) ∙ reached_empty (by_same e w.second))

  -- a witness against one key is a witness against another of the same context and target, with pairs for its paths
  other_set : (p k : Key) → k.context ≡ p.context → k.target ≡ p.target → (w : Breaks κ t k) → Each (EqualPair κ t w.a w.b) p.paths
      → Breaks κ t p
  other_set p k c e w pairs =
      record {
        q = w.q;
        a = w.a;
        b = w.b;
        context = by_same c w.context;
        first = by_same e w.first;
        second = by_same e w.second;
        different = w.different;
        pairs = pairs;
      }

  -- 3 superkey: drop pairs
  pub superkey_kept : (p k : Key) → Superkey p k → Keeps κ t p → Keeps κ t k
  unfolding Keeps
  superkey_kept p k rule kept w =
      kept (other_set p k rule.context rule.target w (Each-of p.paths (λ s m. Each-at w.pairs s (Each-at rule.includes s m))))

  -- 5 context path, 6 target path: the new path, read as a run, is a word of the old one
  pub context_kept : (p k : Key) → Word p.context k.context → k.target ≡ p.target → k.paths ≡ p.paths → Keeps κ t p → Keeps κ t k
  unfolding Keeps
  context_kept p k wider target paths kept w =
      kept
      (record {
        q = w.q;
        a = w.a;
        b = w.b;
        context = reached_wider wider w.context;
        first = by_same target w.first;
        second = by_same target w.second;
        different = w.different;
        pairs = same_set paths w.pairs;
      })

  pub target_kept : (p k : Key) → k.context ≡ p.context → Word p.target k.target → k.paths ≡ p.paths → Keeps κ t p → Keeps κ t k
  unfolding Keeps
  target_kept p k context wider paths kept w =
      kept
      (record {
        q = w.q;
        a = w.a;
        b = w.b;
        context = by_same context w.context;
        first = reached_wider wider w.first;
        second = reached_wider wider w.second;
        different = w.different;
        pairs = same_set paths w.pairs;
      })

  -- 7 context target: split the run at X
  pub context_target_kept : (p k : Key) → ContextTarget p k → Keeps κ t p → Keeps κ t k
  unfolding Keeps
  context_target_kept p k rule kept w =
      let way = reached_split p.context rule.X (by_same rule.context w.context) in
      kept
      (record {
        q = way.node;
        a = w.a;
        b = w.b;
        context = way.above;
        first = by_same rule.target (reached_append way.below w.first);
        second = by_same rule.target (reached_append way.below w.second);
        different = w.different;
        pairs = same_set rule.paths w.pairs;
      })

  -- 4 subnodes: go down from a and b by P on the way to x, y; rigid, so the nodes there differ
  pub subnodes_kept : (p k : Key) → Subnodes p k → Keeps κ t p → Keeps κ t k
  unfolding Keeps
  subnodes_kept p k rule kept w =
      let pair = Each-at w.pairs (join rule.P rule.s)
      (subst (λ (S : List (List ℕ)). Memᴰ (join rule.P rule.s) S) (sym rule.new) (Memᴰ.head refl)) in
      let one = reached_split rule.P rule.s pair.from_first in
      let two = reached_split rule.P rule.s pair.from_second in
      kept
      (record {
        q = w.q;
        a = one.node;
        b = two.node;
        context = by_same rule.context w.context;
        first = by_same (sym rule.target) (reached_append w.first one.above);
        second = by_same (sym rule.target) (reached_append w.second two.above);
        different = λ e. w.different
            (reached_rigid rule.P rule.is_simple one.above (subst (λ (n : ℕ). Reached t w.b rule.P n) (sym e) two.above));
        pairs = same_set (sym rule.old)
            (also (record { x = pair.x; y = pair.y; from_first = one.below; from_second = two.below; equal = pair.equal }) end);
      })

  -- 9 interaction: a, b are the nodes on the way, reached by X. If they are one, the second premise is broken there; if not, the first
  pub interaction_kept : (p r k : Key) → Interaction p r k → Keeps κ t p → Keeps κ t r → Keeps κ t k
  unfolding Keeps
  interaction_kept p r k rule first second w =
      let X = p.target in
      let P = r.target in
      let one = reached_split X P (by_same rule.target w.first) in
      let two = reached_split X P (by_same rule.target w.second) in
      let pairs = same_set rule.paths w.pairs in
      elim (ℕ_discrete one.node two.node) [
        | yes e ↦ second
            (record {
              q = one.node;
              a = w.a;
              b = w.b;
              context = by_same (sym rule.second_context) (reached_append (by_same rule.context w.context) one.above);
              first = one.below;
              second = subst (λ (n : ℕ). Reached t n P w.b) (sym e) two.below;
              different = w.different;
              pairs = pairs;
            })
        | no h ↦ first
            (record {
              q = w.q;
              a = one.node;
              b = two.node;
              context = by_same rule.context w.context;
              first = one.above;
              second = two.above;
              different = h;
              pairs = same_set (sym rule.first_paths) (higher one.below two.below pairs);
            })
      ]
    where
      higher : {a b a' b' : ℕ} {S : List (List ℕ)} → Reached t a r.target a' → Reached t b r.target b' → Each (EqualPair κ t a' b') S
          → Each (EqualPair κ t a b) (map (join r.target) S)
      higher f g end = end
      higher f g (also pair more) =
          also
          (record {
            x = pair.x;
            y = pair.y;
            from_first = reached_append f pair.from_first;
            from_second = reached_append g pair.from_second;
            equal = pair.equal;
          })
          (higher f g more)

-- The two rules that use law 3 of value equality
module _ (κ : ℕ → Class) (t : Table) (tree : IsTree κ t) where
  -- the pair of the empty path: a and b are equal
  targets_equal : {a b : ℕ} → EqualPair κ t a b [] → Equal κ t a b
  targets_equal {a} {b} pair =
      subst (λ (n : ℕ). Equal κ t n b) (sym (reached_empty pair.from_first))
      (subst (λ (n : ℕ). Equal κ t pair.x n) (sym (reached_empty pair.from_second)) pair.equal)

  equal_pair : {a b x : ℕ} {P : List ℕ} → Equal κ t a b → Reached t a P x → EqualPair κ t a b P
  equal_pair {x = x} e r =
      let m = equal_reached tree e r in
      record { x = x; y = m.node; from_first = r; from_second = m.reached; equal = m.equal }

  -- 2 prefix-epsilon: for p in S take the path of the new set that p begins, x on the way to its x, and law 3's y
  pub prefix_epsilon_kept : (p k : Key) → PrefixEpsilon p k → Keeps κ t p → Keeps κ t k
  unfolding Keeps
  prefix_epsilon_kept p k rule kept w =
      let e = targets_equal (Each-at w.pairs [] rule.new_empty) in
      kept
      (other_set κ t p k rule.context rule.target w
      (Each-of p.paths (λ s m.
      let long = Each-at rule.begins s m in
      equal_pair e (reached_append_split s long.rest (Each-at w.pairs (s ++ long.rest) long.among).from_first).above)))

  -- 8 subnodes-epsilon: as 4, but the other nodes are found by law 3
  pub subnodes_epsilon_kept : (p k : Key) → SubnodesEpsilon p k → Keeps κ t p → Keeps κ t k
  unfolding Keeps
  subnodes_epsilon_kept p k rule kept w =
      let P = rule.P in
      let s = rule.s in
      let pairs = same_set κ t rule.new w.pairs in
      let e = targets_equal (Each-at pairs [] (with_empty_empty (join P s))) in
      let long = Each-at pairs (join P s) (with_empty_path (join P s)) in
      let way = reached_split P s long.from_first in
      let mate = equal_reached tree e way.above in
      kept
      (record {
        q = w.q;
        a = way.node;
        b = mate.node;
        context = by_same rule.context w.context;
        first = by_same (sym rule.target) (reached_append w.first way.above);
        second = by_same (sym rule.target) (reached_append w.second mate.reached);
        different = λ same. w.different
            (reached_rigid P rule.is_simple way.above (subst (λ (n : ℕ). Reached t w.b P n) (sym same) mate.reached));
        pairs = same_set κ t (sym rule.old)
            (with_empty_each s (equal_pair mate.equal (reached_self way.node)) (equal_pair mate.equal way.below));
      })
