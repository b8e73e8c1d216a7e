-- The test of a step and what it says: `fires` is true exactly where `Fires` holds.
use Rattle.std.specs.Prelude.{ℕ, zero, suc, ◌+◌, ◌≤◌, ◌<◌, ◌≡◌, ◌⊎◌, ltb}
use Rattle.std.proofs.Math.Path.{refl}
use Rattle.std.proofs.Common.{subst, inl, inr, arith, le-leb}
use mathlib.Core.List.{List, ◌∷◌, Memᴰ}
use Rattle.std.proofs.Math.Option.{Option, none, some}
use Rattle.std.proofs.Math.Dec.{T, ltb→lt, lt→ltb, leb→le, le→leb}
use Rattle.std.proofs.Math.ListN.{length, get_elem?}
use Rattle.std.proofs.lemmas.Bool.{lt-leb}
use Rattle.meaning.specs.Lists.{same, numbers}
use Rattle.meaning.specs.Keys.{Key}
use Rattle.meaning.specs.Pattern.{t_of}
use Rattle.theory_lists.specs.Bools.{and_left, and_right, both, any_some, some_any, same_eq, eq_same, every_Each, Each-every}
use Rattle.theory_lists.specs.Logic.{less_or, each_imp}
use Rattle.theory_pattern.specs.Spots.{Taken, row_of, part, lands_on, lands, fires_by, fires_found, fires, LandsAt, FiresBy, Fires}

-- `numbers` holds the numbers from the first on
pub numbers_mem : (count n x : ℕ) → n ≤ x → x < n + count → Memᴰ x (numbers count n)
unfolding numbers
numbers_mem zero n x l h = absurd (omega arith)
numbers_mem (suc count) n x l h = go (less_or n x) (λ k. numbers_mem count (suc n) x k (omega arith))
  where
    go : (n < x) ⊎ (x ≤ n) → (suc n ≤ x → Memᴰ x (numbers count (suc n))) → Memᴰ x (n ∷ numbers count (suc n))
    go (inl k) f = Memᴰ.tail (f k)
    go (inr k) f = Memᴰ.head {x = n} (omega arith)

pub mem_numbers : (count n : ℕ) {x : ℕ} → Memᴰ x (numbers count n) → (n ≤ x) × (x < n + count)
unfolding numbers
mem_numbers (suc count) n (Memᴰ.head e) = (omega arith, omega arith)
mem_numbers (suc count) n {x} (Memᴰ.tail m) = let r = mem_numbers count (suc n) m in (omega arith, omega arith)
mem_numbers zero n {x = x} x3 = elim x3 [ ]

module _ (asked : Key) where
  lands_on_lem : (j k at : ℕ) (p : List ℕ) → at < length asked.paths → (t_of asked < k → at ≡ j) → T (lands_on asked k p at) → LandsAt asked j k p
  unfolding lands_on
  lands_on_lem j k at p l b t =
      record {
        at = at;
        is_branch = l;
        in_branch = b;
        reads = same_eq _ _ (and_left (same (part k (k + length p) (row_of asked at)) p) _ t);
        mark = and_right (same (part k (k + length p) (row_of asked at)) p) _ t;
      }

  pub lands_says : (j k : ℕ) (p : List ℕ) → j < length asked.paths → T (lands asked j k p) → LandsAt asked j k p
  unfolding lands
  lands_says j k p l t = go (less_or (t_of asked) k)
    where
      go : (t_of asked < k) ⊎ (k ≤ t_of asked) → LandsAt asked j k p
      go (inl h) = lands_on_lem j k j p l (λ h. refl) (rw (lt-leb k (t_of asked) h) at t)
      go (inr h) =
          let r = any_some (lands_on asked k p) (numbers (length asked.paths) 0) (rw (le-leb k (t_of asked) h) at t) in
          let m = mem_numbers (length asked.paths) 0 r.1 in
          lands_on_lem j k r.0 p (omega arith) (λ g. absurd (omega arith)) r.2

  pub lands_test : (j k : ℕ) (p : List ℕ) → LandsAt asked j k p → T (lands asked j k p)
  unfolding lands lands_on
  lands_test j k p h = go (less_or (t_of asked) k)
    where
      on : T (lands_on asked k p h.at)
      on = both (same (part k (k + length p) (row_of asked h.at)) p) _ (eq_same _ _ h.reads) h.mark

      go : (t_of asked < k) ⊎ (k ≤ t_of asked) → T (lands asked j k p)
      go (inl l) = rw (lt-leb k (t_of asked) l) (subst (λ at. T (lands_on asked k p at)) (h.in_branch l) on)
      go (inr l) =
          rw (le-leb k (t_of asked) l)
          (some_any (lands_on asked k p) h.at (numbers_mem (length asked.paths) 0 h.at (omega arith) (omega (arith, h.is_branch))) on)

  module _ (s : Key) (i j k : ℕ) where
    pub fires_by_says : T (fires_by asked s i j k) → FiresBy asked s i j k
    unfolding fires_by
    fires_by_says t =
        let a : T (ltb j (length asked.paths)) = search (and_left, and_right) depth 8 in
        let l = ltb→lt j (length asked.paths) a in
        record {
          is_branch = l;
          on_chain = leb→le i (t_of asked) (search (and_left, and_right) depth 8);
          above = leb→le i k (search (and_left, and_right) depth 8);
          on_row = leb→le k (length (row_of asked j)) (search (and_left, and_right) depth 8);
          context = search (and_left, and_right) depth 8;
          target = search (and_left, and_right) depth 8;
          landing = each_imp (λ p h. lands_says j k p l h) (every_Each (lands asked j k) s.paths (search (and_left, and_right) depth 8));
        }

    pub fires_by_test : FiresBy asked s i j k → T (fires_by asked s i j k)
    unfolding fires_by
    fires_by_test f =
        let a = lt→ltb j (length asked.paths) f.is_branch in
        let b = le→leb i (t_of asked) f.on_chain in
        let c = le→leb i k f.above in
        let d = le→leb k (length (row_of asked j)) f.on_row in
        let e = f.context in
        let g = f.target in
        let h = Each-every (lands asked j k) (each_imp (λ p r. lands_test j k p r) f.landing) in
        search both depth 8

module _ (keys : List Key) (asked : Key) where
  pub fires_says : (t : Taken) → T (fires keys asked t) → Fires keys asked t
  unfolding fires fires_found
  fires_says t h = go (get_elem? keys t.key) refl
    where
      go : (found : Option Key) → get_elem? keys t.key ≡ found → Fires keys asked t
      go none e = absurd (rw e at h)
      go (some s) e = record { by = s; cited = e; firing = fires_by_says asked s t.node t.branch t.spot (rw e at h) }

  pub fires_test : (t : Taken) → Fires keys asked t → T (fires keys asked t)
  unfolding fires fires_found
  fires_test t f = rw f.cited (fires_by_test asked f.by t.node t.branch t.spot f.firing)
