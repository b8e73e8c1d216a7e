-- The steps of a pattern as tests, and what a test shows of the definition: a route shows that the steps lead from one node to another, a
-- border that they do not.
use Rattle.std.specs.Prelude.{ℕ, ◌-◌, ◌≤◌, ◌<◌, ◌≡◌, ◌⊎◌, Bool, ◌&&◌, ◌||◌, not, T, ltb, leb}
use Rattle.std.proofs.Common.{sym, subst, inl, inr, lt→ltb}
use Rattle.std.proofs.Math.Logic.{⊎_elim}
use mathlib.Core.List.{List, [], ◌∷◌, Memᴰ}
use native.Mathlib.Omega.{arith}
use Rattle.std.proofs.Math.Decide.{dec_lt}
use Rattle.std.proofs.Math.Dec.{eqb, eqb→eq, ltb→lt, leb→le, T_not}
use Rattle.meaning.specs.Lists.{Each, every, any, numbers}
use Rattle.meaning.specs.Trees.{Table, Down, here, step, Reached}
use Rattle.meaning.specs.Keys.{Key}
use Rattle.meaning.specs.Pattern.{pattern, marked, q_of, t_of, Lands, Step, to_child, to_parent, by_key, Leads, arrived, onward}
use Rattle.theory_lists.specs.Bools.{and_left, and_right, both, or_cases, or_left, or_right, eqb_of, every_each, each_every, any_some, some_any, Each-at, Each-of}
use Rattle.theory_trees.specs.Below.{ParentsSmaller, down_inside}
use Rattle.theory_trees.specs.Children.{mem_numbers}
use Rattle.theory_trees.specs.Climb.{reaches, reaches_sound, reaches_complete}

-- a key path reaches a marked node from x
unfoldable pub lands_test : Key → ℕ → List ℕ → Bool
lands_test asked x p = any (λ (m : ℕ). marked asked m && reaches (pattern asked) x p m) (numbers (pattern asked).size 0)

-- a profile key lets x step to y
unfoldable pub key_test : Key → ℕ → ℕ → Key → Bool
key_test asked x y k =
    reaches (pattern asked) 0 k.context y && (reaches (pattern asked) y k.target x && every (lands_test asked x) k.paths)

-- a single label's node steps to its parent
unfoldable pub up_test : (ℕ → Bool) → Key → ℕ → ℕ → Bool
up_test single asked x y = single ((pattern asked).label x) && (ltb 0 x && (ltb x (pattern asked).size && eqb ((pattern asked).parent x) y))

unfoldable pub step_test : (ℕ → Bool) → List Key → Key → ℕ → ℕ → Bool
step_test single keys asked x y = any (key_test asked x y) keys || up_test single asked x y

-- A route from h to q: down to x, by a key or as an attribute to y, and on from there
pub record Hop : Type 0 where
  pub from : ℕ
  pub to : ℕ

unfoldable pub route : (ℕ → Bool) → List Key → Key → ℕ → List Hop → Bool
route single keys asked h [] = reaches (pattern asked) h (0 ∷ []) (q_of asked)
route single keys asked h (s ∷ rest) =
    reaches (pattern asked) h (0 ∷ []) s.from && (step_test single keys asked s.from s.to && route single keys asked s.to rest)

unfoldable pub parents_test : Table → Bool
parents_test t = every (λ (n : ℕ). ltb (t.parent n) n) (numbers (t.size - 1) 1)

-- A border: q lies before it, t behind it, and no key leads back over it
unfoldable pub border : (ℕ → Bool) → List Key → Key → ℕ → Bool
border single keys asked m =
    ltb (q_of asked) m && (leb m (t_of asked) && (parents_test (pattern asked)
    && every (λ (x : ℕ). every (λ (y : ℕ). not (step_test single keys asked x y)) (numbers m 0)) (numbers ((pattern asked).size - m) m)))

same_or_inside : {t : Table} {v w : ℕ} {run : List ℕ} → Down t v run w → (v ≡ w) ⊎ (w < t.size)
same_or_inside (here p) = inl p
same_or_inside (step x c e d) = inr (down_inside d c.inside)

pub parents_of_test : (t : Table) → T (parents_test t) → ParentsSmaller t
unfolding parents_test ParentsSmaller
parents_of_test t h n low high = ltb→lt (t.parent n) n (every_each _ (numbers (t.size - 1) 1) h n (mem_numbers n (t.size - 1) 1 low (omega arith)))

module _ (single : ℕ → Bool) (keys : List Key) (asked : Key) where
  leads_trans : {x y z : ℕ} → Leads single keys asked x y → Leads single keys asked y z → Leads single keys asked x z
  leads_trans {z} (arrived p) l = subst (λ (n : ℕ). Leads single keys asked n z) (sym p) l
  leads_trans (onward w s r) l = onward w s (leads_trans r l)

  down_leads : {x y : ℕ} {run : List ℕ} → Down (pattern asked) x run y → Leads single keys asked x y
  down_leads (here p) = arrived p
  down_leads (step w c e d) = onward w (to_child c) (down_leads d)

  lands_sound : (x : ℕ) (p : List ℕ) → T (lands_test asked x p) → Lands asked x p
  unfolding lands_test
  lands_sound x p h =
      let s = any_some _ (numbers (pattern asked).size 0) h in
      record {
        mark = s.0;
        is_marked = and_left (marked asked s.0) _ s.2;
        reached = reaches_sound (pattern asked) x p s.0 (and_right (marked asked s.0) _ s.2);
      }

  lands_complete : ParentsSmaller (pattern asked) → (x : ℕ) (p : List ℕ) → x < (pattern asked).size → Lands asked x p → T (lands_test asked x p)
  unfolding lands_test
  lands_complete small x p h l =
      some_any _ l.mark (mem_numbers l.mark (pattern asked).size 0 (omega arith) (let i = down_inside l.reached.down h in omega arith))
      (both (marked asked l.mark) _ l.is_marked (reaches_complete (pattern asked) small x p l.mark l.reached))

  key_sound : (x y : ℕ) → T (any (key_test asked x y) keys) → Step single keys asked x y
  unfolding key_test
  key_sound x y h =
      let s = any_some (key_test asked x y) keys h in
      let k = s.0 in
      let rest = and_right (reaches (pattern asked) 0 k.context y) _ s.2 in
      by_key k s.1 (reaches_sound _ 0 k.context y (and_left (reaches (pattern asked) 0 k.context y) _ s.2))
      (reaches_sound _ y k.target x (and_left (reaches (pattern asked) y k.target x) _ rest))
      (Each-of k.paths (λ p m. lands_sound x p (every_each (lands_test asked x) k.paths (and_right (reaches (pattern asked) y k.target x) _ rest) p m)))

  up_sound : (x y : ℕ) → T (up_test single asked x y) → Step single keys asked x y
  unfolding up_test
  up_sound x y h =
      let a = and_right (single ((pattern asked).label x)) _ h in
      let b = and_right (ltb 0 x) _ a in
      to_parent (and_left (single ((pattern asked).label x)) _ h)
      (record {
        not_root = ltb→lt 0 x (and_left (ltb 0 x) _ a);
        inside = ltb→lt x (pattern asked).size (and_left (ltb x (pattern asked).size) _ b);
        below = eqb→eq _ _ (and_right (ltb x (pattern asked).size) _ b);
      })

  step_sound : (x y : ℕ) → T (step_test single keys asked x y) → Step single keys asked x y
  unfolding step_test
  step_sound x y h = ⊎_elim (key_sound x y) (up_sound x y) (or_cases (any (key_test asked x y) keys) (up_test single asked x y) h)

  pub route_leads : (h : ℕ) (hops : List Hop) → T (route single keys asked h hops) → Leads single keys asked h (q_of asked)
  unfolding route
  route_leads h [] r = down_leads (reaches_sound _ h (0 ∷ []) (q_of asked) r).down
  route_leads h (s ∷ rest) r =
      let more = and_right (reaches (pattern asked) h (0 ∷ []) s.from) _ r in
      leads_trans (down_leads (reaches_sound _ h (0 ∷ []) s.from (and_left (reaches (pattern asked) h (0 ∷ []) s.from) _ r)).down)
      (onward s.to (step_sound s.from s.to (and_left (step_test single keys asked s.from s.to) _ more))
      (route_leads s.to rest (and_right (step_test single keys asked s.from s.to) _ more)))

module _ (single : ℕ → Bool) (keys : List Key) (asked : Key) (m : ℕ) (closed : T (border single keys asked m)) where
  small : ParentsSmaller (pattern asked)
  unfolding border
  small =
      parents_of_test (pattern asked)
      (and_left (parents_test (pattern asked)) _ (and_right (leb m (t_of asked)) _ (and_right (ltb (q_of asked) m) _ closed)))

  behind_t : m ≤ t_of asked
  unfolding border
  behind_t = leb→le m (t_of asked) (and_left (leb m (t_of asked)) _ (and_right (ltb (q_of asked) m) _ closed))

  before_q : q_of asked < m
  unfolding border
  before_q = ltb→lt (q_of asked) m (and_left (ltb (q_of asked) m) _ closed)

  no_step : (x y : ℕ) → m ≤ x → x < (pattern asked).size → y < m → T (step_test single keys asked x y) → ⊥
  unfolding border
  no_step x y low high under h =
      let all = and_right (parents_test (pattern asked)) _ (and_right (leb m (t_of asked)) _ (and_right (ltb (q_of asked) m) _ closed)) in
      let here = every_each _ (numbers ((pattern asked).size - m) m) all x (mem_numbers x ((pattern asked).size - m) m low (omega arith)) in
      T_not (step_test single keys asked x y) (every_each _ (numbers m 0) here y (mem_numbers y m 0 (omega arith) (omega arith))) h

  key_complete : (x y : ℕ) (k : Key) → Memᴰ k keys → x < (pattern asked).size → Reached (pattern asked) 0 k.context y
      → Reached (pattern asked) y k.target x → Each (Lands asked x) k.paths → T (any (key_test asked x y) keys)
  unfolding key_test
  key_complete x y k mem inside c r l =
      some_any (key_test asked x y) k mem
      (both (reaches (pattern asked) 0 k.context y) _ (reaches_complete _ small 0 k.context y c)
      (both (reaches (pattern asked) y k.target x) _ (reaches_complete _ small y k.target x r)
      (each_every (lands_test asked x) k.paths (λ p h. lands_complete single keys asked small x p inside (Each-at l p h)))))

  step_stays : (x y : ℕ) → m ≤ x → Step single keys asked x y → m ≤ y
  unfolding ParentsSmaller
  step_stays x y low (to_child c) = let s = small y c.not_root c.inside in let e = c.below in omega arith
  step_stays x y low (to_parent t c) = at (dec_lt y m)
    where
      at : Dec (y < m) → m ≤ y
      at (no h) = omega arith
      at (yes h) =
          absurd
          (no_step x y low c.inside h
          (unfold step_test up_test in
          or_right (any (key_test asked x y) keys) (single ((pattern asked).label x) && (ltb 0 x && (ltb x (pattern asked).size && eqb ((pattern asked).parent x) y)))
          (both (single ((pattern asked).label x)) _ t
          (both (ltb 0 x) _ (lt→ltb 0 x c.not_root)
          (both (ltb x (pattern asked).size) (eqb ((pattern asked).parent x) y) (lt→ltb x (pattern asked).size c.inside) (eqb_of _ _ c.below))))))
  step_stays x y low (by_key k mem c r l) = go (dec_lt y m)
    where
      go : Dec (y < m) → m ≤ y
      go (no h) = omega arith
      go (yes h) = ⊎_elim (λ e. omega arith) (λ i. absurd (no_step x y low i h (unfold step_test in or_left (any (key_test asked x y) keys) (up_test single asked x y) (key_complete x y k mem i c r l)))) (same_or_inside r.down)

  leads_stays : {x z : ℕ} → m ≤ x → Leads single keys asked x z → m ≤ z
  leads_stays low (arrived p) = omega arith
  leads_stays {x} low (onward y s r) = leads_stays (step_stays x y low s) r

  pub border_holds : Leads single keys asked (t_of asked) (q_of asked) → ⊥
  border_holds l = let h = leads_stays behind_t l in let b = before_q in omega arith
