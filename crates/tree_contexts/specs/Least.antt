-- Numbers handed down a path: to each node the least of the numbers at the nodes that reach it, symbol by symbol. One law for each return.
use Prim.Native.Nat.{ℕ, zero, suc, ◌<◌, ◌≤◌}
use Rattle.std.specs.Prelude.{◌≡◌, ◌+◌, ◌⊎◌, length, take}
use Rattle.std.proofs.Math.Path.{refl, sym, ap}
use Rattle.std.proofs.Common.{◌∙◌, subst, inl, inr, take-suc}
use mathlib.Core.List.{List, [], ◌∷◌, ◌++◌, append-nil}
use native.Mathlib.Omega.{arith}
use Rattle.std.proofs.Math.Decide.{ℕ_discrete}
use Rattle.std.proofs.Math.ListN.{get_or}
use Rattle.meaning.specs.Trees.{Table, Down, here, step, Reached}
use Rattle.theory_paths.specs.Words.{Word, word_append}
use Rattle.theory_trees.specs.Below.{ParentsSmaller, down_append, down_child, down_greater}
use Rattle.theory_trees.specs.Reach.{ReachedWay, reached_by, reached_word, reached_run, reached_self, reached_empty, reached_append_split}
use Rattle.tree_contexts.specs.Above.{Above, above_parent, above_root}
use Rattle.tree_contexts.specs.Tabled.{Tabled}

-- r stands at a node that reaches v by the path
pub record Handed (t : Table) (path from : List ℕ) (v r : ℕ) : Type 0 where
  pub node : ℕ
  pub reached : Reached t node path v
  pub number : r ≡ get_or from node 0

-- r is the least of the numbers at the nodes that reach v by the path; 4,096 stands for none
pub record LeastAt (t : Table) (path from : List ℕ) (v r : ℕ) : Type 0 where
  pub least : (u : ℕ) → Reached t u path v → r ≤ get_or from u 0
  pub handed : r < 4096 → Handed t path from v r

unfoldable pub Least : Table → List ℕ → List ℕ → List ℕ → Type 0
Least t path from to = Tabled (LeastAt t path from) to t.size

module _ {t : Table} where
  -- by one label: from the parent
  by_label : {u v : ℕ} (l : ℕ) → 0 < l → Reached t u (l ∷ []) v → (0 < v) × (t.label v ≡ l) × (t.parent v ≡ u)
  unfolding Word
  by_label zero p r = absurd (omega arith)
  by_label {u} {v} (suc a) p r =
      let w = reached_word r in
      last (subst (λ (run : List ℕ). Down t u run v) (w.1 ∙ ap (λ (s : List ℕ). suc a ∷ s) w.2) r.down)
    where
      last : Down t u (suc a ∷ []) v → (0 < v) × (t.label v ≡ suc a) × (t.parent v ≡ u)
      last (step x c e (here q)) =
          let z = c.not_root in
          (omega arith, ap (λ (k : ℕ). t.label k) (sym q) ∙ e, ap (λ (k : ℕ). t.parent k) (sym q) ∙ c.below)

  -- by the any-path: from wherever lies above
  by_any : {u v : ℕ} → Above t u v → Reached t u (0 ∷ []) v
  unfolding Word
  by_any a = reached_by a.down (a.run, [], sym (append-nil a.run), refl)

  pub reached_above : {u v : ℕ} {path : List ℕ} → Reached t u path v → Above t u v
  reached_above r = record { run = r.run; down = r.down }

  pub above_inside : ParentsSmaller t → {u v : ℕ} → Above t u v → v < t.size → u < t.size
  above_inside small a h = let g = down_greater small a.down in omega arith

  reached_both : {u v w : ℕ} {P Q : List ℕ} → Reached t u P v → Reached t v Q w → Reached t u (P ++ Q) w
  reached_both {P = P} {Q} r s =
      reached_by (down_append r.down s.down) (word_append P Q r.run s.run (reached_word r) (reached_word s))

module _ (t : Table) (from : List ℕ) (v : ℕ) where
  none_so : (path : List ℕ) → ((u : ℕ) → Reached t u path v → ⊥) → LeastAt t path from v 4096
  none_so path h = record { least = λ u r. absurd (h u r); handed = λ g. absurd (omega arith) }

  pub label_root : (l : ℕ) → 0 < l → v ≡ 0 → LeastAt t (l ∷ []) from v 4096
  label_root l p z = none_so (l ∷ []) (λ u r. let b = (by_label l p r).0 in omega arith)

  pub label_other : (l k : ℕ) → 0 < l → k ≡ t.label v → (k ≡ l → ⊥) → LeastAt t (l ∷ []) from v 4096
  label_other l k p e n = none_so (l ∷ []) (λ u r. n (e ∙ (by_label l p r).1))

  pub label_same : (l k p r : ℕ) → 0 < l → (v ≡ 0 → ⊥) → v < t.size → k ≡ t.label v → k ≡ l → p ≡ t.parent v → r ≡ get_or from p 0
      → LeastAt t (l ∷ []) from v r
  label_same l k p r q n h e f g z =
      record {
        least = λ u s. let b = z ∙ ap (λ (m : ℕ). get_or from m 0) (g ∙ (by_label l q s).2) in omega arith;
        handed = λ s. record {
          node = t.parent v;
          reached = subst (λ (m : ℕ). Reached t (t.parent v) (m ∷ []) v) (sym e ∙ f)
              (reached_run (down_child (record { not_root = omega arith; inside = h; below = refl })));
          number = z ∙ ap (λ (m : ℕ). get_or from m 0) g;
        };
      }

  own : (r : ℕ) → r ≡ get_or from v 0 → Handed t (0 ∷ []) from v r
  own r e = record { node = v; reached = by_any (record { run = []; down = here refl }); number = e }

  pub any_root : (r : ℕ) → v ≡ 0 → r ≡ get_or from v 0 → LeastAt t (0 ∷ []) from v r
  any_root r z e =
      record {
        least = λ u s. let b = e ∙ ap (λ (m : ℕ). get_or from m 0) (sym (above_root z (reached_above s))) in omega arith;
        handed = λ h. own r e;
      }

  module _ (small : ParentsSmaller t) (n : v ≡ 0 → ⊥) (h : v < t.size) (p r s : ℕ) (e : p ≡ t.parent v) (own_is : r ≡ get_or from v 0)
      (l : LeastAt t (0 ∷ []) from p s) where
    from_above : (u : ℕ) → Reached t u (0 ∷ []) v → Dec (u ≡ v) → (r ≤ get_or from u 0) ⊎ (s ≤ get_or from u 0)
    from_above u w (yes z) = inl (let b = own_is ∙ ap (λ (m : ℕ). get_or from m 0) (sym z) in omega arith)
    from_above u w (no m) = inr (l.least u (subst (λ (k : ℕ). Reached t u (0 ∷ []) k) (sym e) (by_any (above_parent m (reached_above w)))))

    pub any_above : s < r → LeastAt t (0 ∷ []) from v s
    any_above g = record { least = λ u w. pick u (from_above u w (ℕ_discrete u v)); handed = λ k. on (l.handed k) }
      where
        pick : (u : ℕ) → (r ≤ get_or from u 0) ⊎ (s ≤ get_or from u 0) → s ≤ get_or from u 0
        pick u (inl a) = omega arith
        pick u (inr a) = a

        on : Handed t (0 ∷ []) from p s → Handed t (0 ∷ []) from v s
        on k =
            let d = subst (λ (m : ℕ). Down t k.node k.reached.run m) e k.reached.down in
            record {
              node = k.node;
              reached = by_any (record {
                run = k.reached.run ++ (t.label v ∷ []);
                down = down_append d (down_child (record { not_root = omega arith; inside = h; below = refl }));
              });
              number = k.number;
            }

    pub any_own : r ≤ s → LeastAt t (0 ∷ []) from v r
    any_own g = record { least = λ u w. pick u (from_above u w (ℕ_discrete u v)); handed = λ k. own r own_is }
      where
        pick : (u : ℕ) → (r ≤ get_or from u 0) ⊎ (s ≤ get_or from u 0) → r ≤ get_or from u 0
        pick u (inl a) = a
        pick u (inr a) = omega arith

module _ (t : Table) (from : List ℕ) where
  -- "The empty path reaches v."
  pub least_empty : (path : List ℕ) → length path ≡ 0 → length from ≡ 4096 → Least t path from from
  unfolding Least
  least_empty [] e l =
      record {
        long = l;
        each = λ v h. record {
          least = λ u r. let b = ap (λ (m : ℕ). get_or from m 0) (reached_empty r) in omega arith;
          handed = λ g. record { node = v; reached = reached_self v; number = refl };
        };
      }
  least_empty (s ∷ path) e l = absurd (omega arith)

  -- a path and one behind it
  pub least_both : ParentsSmaller t → (first path mid to : List ℕ) → Least t first from mid → Least t path mid to → Least t (first ++ path) from to
  unfolding Least
  least_both small first path mid to a b =
      record { long = b.long; each = λ v h. record { least = λ u r. low v h u (reached_append_split first path r); handed = λ g. on v h g } }
    where
      low : (v : ℕ) → v < t.size → (u : ℕ) → ReachedWay t u first path v → get_or to v 0 ≤ get_or from u 0
      low v h u w =
          let i = (a.each w.node (above_inside small (reached_above w.below) h)).least u w.above in
          let j = (b.each v h).least w.node w.below in
          omega arith

      on : (v : ℕ) → v < t.size → get_or to v 0 < 4096 → Handed t (first ++ path) from v (get_or to v 0)
      on v h g =
          let k = (b.each v h).handed g in
          let e = k.number in
          let j = (a.each k.node (above_inside small (reached_above k.reached) h)).handed (omega arith) in
          record { node = j.node; reached = reached_both j.reached k.reached; number = e ∙ j.number }

-- one symbol more of a path
pub least_more : (t : Table) (path from mid to : List ℕ) → ParentsSmaller t → (i s : ℕ) → i < length path → s ≡ get_or path i 0
    → Least t (take i path) from mid → Least t (s ∷ []) mid to → Least t (take (i + 1) path) from to
least_more t path from mid to small i s h e a b =
    let n : i + 1 ≡ suc i = omega arith in
    subst (λ (p : List ℕ). Least t p from to) (sym (ap (λ (k : ℕ). take k path) n ∙ take-suc path i 0 h))
    (least_both t from small (take i path) (get_or path i 0 ∷ []) mid to a (subst (λ (k : ℕ). Least t (k ∷ []) mid to) e b))

pub least_long : (t : Table) (path from to : List ℕ) → Least t path from to → length to ≡ 4096
unfolding Least
least_long t path from to l = l.long
