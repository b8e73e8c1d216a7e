-- The search for the first context and targets: the targets in their order, each with its least mate. One law for each turn of the loop.
use Rattle.std.specs.Prelude.{ℕ, ◌+◌, ◌<◌, ◌≤◌, ◌≡◌, ◌≢◌, refl, List, Option, None, Some, MatchOption, get_or}
use Rattle.std.proofs.Common.{sym, ap, subst, arith}
use Rattle.std.proofs.Math.Decide.{dec_lt, ℕ_discrete}
use Rattle.meaning.specs.Paths.{Class}
use Rattle.meaning.specs.Trees.{Table, IsTree}
use Rattle.meaning.specs.Keys.{Key, Breaks}
use Rattle.theory_trees.specs.Reach.{reached_inside}
use Rattle.tree_contexts.specs.Tops.{Tops, tops_at}
use Rattle.theory_trees.specs.Agreeing.{Agreeing, swap_agreeing}
use Rattle.theory_trees.specs.Witness.{FirstTargets}
use Rattle.tree_search.specs.declared.search.BrokenAt.{BrokenAt}

-- b is the least target behind a that agrees with it; 4,096 where there is none
pub record MateIs (κ : ℕ → Class) (t : Table) (key : Key) (tops : List ℕ) (a b : ℕ) : Type 0 where
  pub ordered : b < 4096 → a < b
  pub agrees : b < 4096 → Agreeing κ t key (get_or tops a 0) a b
  pub least : (q c : ℕ) → a < c → Agreeing κ t key q a c → b ≤ c

-- (q, a, b) comes before the pair c, d of targets, or is it
pub data Before (tops : List ℕ) (q a b c d : ℕ) : Type 0 where
  higher : q < get_or tops c 0 → Before tops q a b c d
  smaller : q ≡ get_or tops c 0 → a < c → Before tops q a b c d
  larger : q ≡ get_or tops c 0 → a ≡ c → b ≤ d → Before tops q a b c d

-- The best of the pairs whose smaller target is below n; context 4,096 where there is none
pub record Best (κ : ℕ → Class) (t : Table) (key : Key) (tops : List ℕ) (n q a b : ℕ) : Type 0 where
  pub passed : q < 4096 → a < n
  pub ordered : q < 4096 → a < b
  pub agrees : q < 4096 → Agreeing κ t key q a b
  pub first : (p c d : ℕ) → c < n → c < d → Agreeing κ t key p c d → Before tops q a b c d

module _ (κ : ℕ → Class) (t : Table) (key : Key) (tops : List ℕ) where
  pub best_none : (a b : ℕ) → Best κ t key tops 0 4096 a b
  best_none a b =
      record {
        passed = λ h. absurd (omega arith);
        ordered = λ h. absurd (omega arith);
        agrees = λ h. absurd (omega arith);
        first = λ p c d h k g. absurd (omega arith);
      }

  -- a target whose highest context is no better, or that has no mate
  pub best_pass : (n q a b : ℕ) → Best κ t key tops n q a b → ((p d : ℕ) → n < d → Agreeing κ t key p n d → Before tops q a b n d)
      → Best κ t key tops (n + 1) q a b
  best_pass n q a b s h =
      record {
        passed = λ k. let i = s.passed k in omega arith;
        ordered = s.ordered;
        agrees = s.agrees;
        first = λ p c d k l g. go p c d k l g (ℕ_discrete c n);
      }
    where
      go : (p c d : ℕ) → c < n + 1 → c < d → Agreeing κ t key p c d → Dec (c ≡ n) → Before tops q a b c d
      go p c d k l g (yes e) =
          subst (λ (m : ℕ). Before tops q a b m d) (sym e)
          (h p d (omega arith) (subst (λ (m : ℕ). Agreeing κ t key p m d) e g))
      go p c d k l g (no m) = s.first p c d (omega arith) l g

  pub best_lower : (n q a b : ℕ) → (q < 4096 → a < n) → q ≤ get_or tops n 0 → (p d : ℕ) → get_or tops n 0 < 4096 → Before tops q a b n d
  best_lower n q a b i h p d k = go (dec_lt q (get_or tops n 0))
    where
      go : Dec (q < get_or tops n 0) → Before tops q a b n d
      go (yes l) = higher l
      go (no l) = smaller (omega arith) (i (omega arith))

  -- a better one
  pub best_take : (n q a b m : ℕ) → Best κ t key tops n q a b → get_or tops n 0 < q → get_or tops n 0 < 4096 → MateIs κ t key tops n m → m < 4096
      → Best κ t key tops (n + 1) (get_or tops n 0) n m
  best_take n q a b m s h i w k =
      record {
        passed = λ l. omega arith;
        ordered = λ l. w.ordered k;
        agrees = λ l. w.agrees k;
        first = λ p c d l o g. go p c d l o g (ℕ_discrete c n);
      }
    where
      behind : (c d : ℕ) → Before tops q a b c d → Before tops (get_or tops n 0) n m c d
      behind c d (higher l) = higher (omega arith)
      behind c d (smaller e l) = higher (omega arith)
      behind c d (larger e f l) = higher (omega arith)

      go : (p c d : ℕ) → c < n + 1 → c < d → Agreeing κ t key p c d → Dec (c ≡ n) → Before tops (get_or tops n 0) n m c d
      go p c d l o g (yes e) =
          larger (ap (λ (j : ℕ). get_or tops j 0) (sym e)) (sym e)
          (w.least p d (omega arith) (subst (λ (j : ℕ). Agreeing κ t key p j d) e g))
      go p c d l o g (no f) = behind c d (s.first p c d (omega arith) o g)

module _ (κ : ℕ → Class) (t : Table) (key : Key) (tops : List ℕ) (tree : IsTree κ t) (few : t.size ≤ 4096)
    (highest-of : Tops t key.context key.target tops) (n q a b : ℕ) (all : t.size ≤ n) (s : Best κ t key tops n q a b) where
  -- the highest context of a target that has a mate
  top_of : (p c d : ℕ) → Agreeing κ t key p c d → (c < n) × (get_or tops c 0 ≤ p)
  top_of p c d g =
      let ip = reached_inside g.context tree.some in
      let ic = reached_inside g.first ip in
      (omega arith, (tops_at t key.context key.target tops highest-of c ic).least p g.context g.first)

  pub best_found : q < 4096 → FirstTargets κ t key q a b
  best_found h =
      record {
        agreeing = s.agrees h;
        ordered = s.ordered h;
        highest = λ p c d g o. let u = top_of p c d g in let v = u.1 in high p c d v (s.first p c d u.0 o g);
        smaller = λ c d g o. let u = top_of q c d g in let v = u.1 in small c d v (s.first q c d u.0 o g);
        larger = λ d g o. let u = top_of q a d g in let v = u.1 in large d v (s.first q a d u.0 o g);
      }
    where
      high : (p c d : ℕ) → get_or tops c 0 ≤ p → Before tops q a b c d → q ≤ p
      high p c d v (higher l) = omega arith
      high p c d v (smaller e l) = omega arith
      high p c d v (larger e f l) = omega arith

      small : (c d : ℕ) → get_or tops c 0 ≤ q → Before tops q a b c d → a ≤ c
      small c d v (higher l) = absurd (omega arith)
      small c d v (smaller e l) = omega arith
      small c d v (larger e f l) = omega arith

      large : (d : ℕ) → get_or tops a 0 ≤ q → Before tops q a b a d → b ≤ d
      large d v (higher l) = absurd (omega arith)
      large d v (smaller e l) = absurd (omega arith)
      large d v (larger e f l) = l

  pub best_kept : 4096 ≤ q → Breaks κ t key → ⊥
  best_kept h w = go (dec_lt w.a w.b)
    where
      agreeing : Agreeing κ t key w.q w.a w.b
      agreeing = record { context = w.context; first = w.first; second = w.second; pairs = w.pairs }

      never : (c d : ℕ) → Agreeing κ t key w.q c d → c < d → ⊥
      never c d g o =
          let u = top_of w.q c d g in
          let v = u.1 in
          let i = reached_inside w.context tree.some in
          at c d v i (s.first w.q c d u.0 o g)
        where
          at : (c d : ℕ) → get_or tops c 0 ≤ w.q → w.q < t.size → Before tops q a b c d → ⊥
          at c d v i (higher l) = omega arith
          at c d v i (smaller e l) = omega arith
          at c d v i (larger e f l) = omega arith

      go : Dec (w.a < w.b) → ⊥
      go (yes o) = never w.a w.b agreeing o
      go (no o) = never w.b w.a (swap_agreeing agreeing) (let d = w.different in below d)
        where
          below : w.a ≢ w.b → w.b < w.a
          below d = at (ℕ_discrete w.a w.b)
            where
              at : Dec (w.a ≡ w.b) → w.b < w.a
              at (yes e) = absurd (d e)
              at (no e) = omega arith

-- What the search answers: the first context and targets, or that the tree keeps the key
abbrev pub FirstBy : (ℕ → Class) → Table → Key → Option BrokenAt → Type 0
FirstBy κ t key found = MatchOption found (Breaks κ t key → ⊥) (λ f. FirstTargets κ t key f.context f.first f.second)

-- The best of the pairs so far, where there is one, and its context; else context 4,096
abbrev pub BestBy : (ℕ → Class) → Table → Key → List ℕ → ℕ → ℕ → Option BrokenAt → Type 0
BestBy κ t key tops n best found =
    MatchOption found ((best ≡ 4096) × Best κ t key tops n best 0 0)
    (λ f. (best < 4096) × (f.context ≡ best) × Best κ t key tops n best f.first f.second)

-- One law for each way on of the loop
module _ (κ : ℕ → Class) (t : Table) (key : Key) (tops : List ℕ) (tree : IsTree κ t) (few : t.size ≤ 4096)
    (highest : Tops t key.context key.target tops) (n q a b : ℕ) (inside : n < t.size) (s : Best κ t key tops n q a b) where
  has_top : (p d : ℕ) → Agreeing κ t key p n d → get_or tops n 0 < 4096
  has_top p d g =
      let i = reached_inside g.context tree.some in
      let l = (tops_at t key.context key.target tops highest n inside).least p g.context g.first in
      omega arith

  pub best_later : (own : ℕ) → own ≡ get_or tops n 0 → q ≤ own → Best κ t key tops (n + 1) q a b
  best_later own e h =
      best_pass κ t key tops n q a b s (λ p d k g. best_lower κ t key tops n q a b s.passed (omega arith) p d (has_top p d g))

  pub best_unmated : (m : ℕ) → 4096 ≤ m → MateIs κ t key tops n m → Best κ t key tops (n + 1) q a b
  best_unmated m h w =
      best_pass κ t key tops n q a b s
      (λ p d k g. absurd
      (let l = w.least p d k g in
      let i = reached_inside g.second (reached_inside g.context tree.some) in
      omega arith))

  pub best_better : (own m : ℕ) → own ≡ get_or tops n 0 → own < q → own < 4096 → m < 4096 → MateIs κ t key tops n m
      → Best κ t key tops (n + 1) own n m
  best_better own m e h k i w =
      subst (λ (o : ℕ). Best κ t key tops (n + 1) o n m) (sym e) (best_take κ t key tops n q a b m s (omega arith) (omega arith) w i)

module _ (κ : ℕ → Class) (t : Table) (key : Key) (tops : List ℕ) (tree : IsTree κ t) (few : t.size ≤ 4096)
    (highest : Tops t key.context key.target tops) (n best : ℕ) where
  pub by_later : (found : Option BrokenAt) (own : ℕ) → n < t.size → own ≡ get_or tops n 0 → best ≤ own → BestBy κ t key tops n best found
      → BestBy κ t key tops (n + 1) best found
  by_later None own i e h b = (b.0, best_later κ t key tops tree few highest n best 0 0 i b.1 own e h)
  by_later (Some f) own i e h b = (b.0, b.1, best_later κ t key tops tree few highest n best f.first f.second i b.2 own e h)

  pub by_unmated : (found : Option BrokenAt) (m : ℕ) → n < t.size → 4096 ≤ m → MateIs κ t key tops n m → BestBy κ t key tops n best found
      → BestBy κ t key tops (n + 1) best found
  by_unmated None m i h w b = (b.0, best_unmated κ t key tops tree few highest n best 0 0 i b.1 m h w)
  by_unmated (Some f) m i h w b = (b.0, b.1, best_unmated κ t key tops tree few highest n best f.first f.second i b.2 m h w)

  pub by_better : (found : Option BrokenAt) (own m : ℕ) → n < t.size → own ≡ get_or tops n 0 → own < best → m < 4096 → MateIs κ t key tops n m
      → BestBy κ t key tops n best found → BestBy κ t key tops (n + 1) own (Some (record { context = own; first = n; second = m }))
  by_better None own m i e h k w b =
      let f = b.0 in
      let l : own < 4096 = omega arith in
      (l, refl, best_better κ t key tops tree few highest n best 0 0 i b.1 own m e h l k w)
  by_better (Some f) own m i e h k w b =
      let g = b.0 in
      let l : own < 4096 = omega arith in
      (l, refl, best_better κ t key tops tree few highest n best f.first f.second i b.2 own m e h l k w)

  -- all targets
  pub by_all : (found : Option BrokenAt) → t.size ≤ n → BestBy κ t key tops n best found → FirstBy κ t key found
  by_all None all b = best_kept κ t key tops tree few highest n best 0 0 all b.1 (let e = b.0 in omega arith)
  by_all (Some f) all b =
      subst (λ (q : ℕ). FirstTargets κ t key q f.first f.second) (sym b.1)
      (best_found κ t key tops tree few highest n best f.first f.second all b.2 b.0)
