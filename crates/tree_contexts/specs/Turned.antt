-- A table whose entries are turned in place, one after the other: from the front, where parents are turned already (the any-path), and from the
-- back, where they are not yet (a label).
use Prim.Native.Nat.{ℕ, zero, suc, ◌+◌, ◌-◌, ◌<◌, ◌≤◌}
use Rattle.std.specs.Prelude.{◌≡◌, refl, min, List, [], ◌∷◌, set}
use Rattle.std.proofs.Common.{sym, ◌∙◌, subst, length-set, get_or-set_same, get_or-set_other}
use Rattle.std.proofs.Math.Path.{ap}
use native.Mathlib.Omega.{arith}
use Rattle.std.proofs.Math.Decide.{dec_lt, ℕ_discrete}
use Rattle.std.proofs.Math.ListN.{length, get_or}
use Rattle.meaning.specs.Trees.{Table, Reached}
use Rattle.theory_paths.specs.Words.{Word}
use Rattle.theory_trees.specs.Below.{ParentsSmaller, down_greater}
use Rattle.theory_trees.specs.Reach.{reached_word}
use Rattle.tree_contexts.specs.Tabled.{Tabled}
use Rattle.tree_contexts.specs.Least.{LeastAt, Least, any_root, any_above, any_own}

-- What stands before i is turned, what stands from i on is as it was
pub record TurnedTo (Right : ℕ → ℕ → Type 0) (from table : List ℕ) (i : ℕ) : Type 0 where
  pub long : length table ≡ 4096
  pub done : (v : ℕ) → v < i → Right v (get_or table v 0)
  pub left : (v : ℕ) → i ≤ v → get_or table v 0 ≡ get_or from v 0

-- What stands from i on, up to the last node, is turned, what stands before i is as it was
pub record TurnedFrom (Right : ℕ → ℕ → Type 0) (from table : List ℕ) (count i : ℕ) : Type 0 where
  pub long : length table ≡ 4096
  pub done : (v : ℕ) → i ≤ v → v < count → Right v (get_or table v 0)
  pub left : (v : ℕ) → v < i → get_or table v 0 ≡ get_or from v 0

module _ (Right : ℕ → ℕ → Type 0) (from : List ℕ) where
  pub turned_none : length from ≡ 4096 → TurnedTo Right from from 0
  turned_none l = record { long = l; done = λ v g. absurd (omega arith); left = λ v g. refl }

  -- entry 0 may stay
  pub turned_one : length from ≡ 4096 → Right 0 (get_or from 0 0) → TurnedTo Right from from 1
  turned_one l r =
      record {
        long = l;
        done = λ v g. let e : v ≡ 0 = omega arith in subst (λ (n : ℕ). Right n (get_or from n 0)) (sym e) r;
        left = λ v g. refl;
      }

  pub back_none : (count n : ℕ) → count ≤ n → length from ≡ 4096 → TurnedFrom Right from from count n
  back_none count n k l = record { long = l; done = λ v g h. absurd (omega arith); left = λ v g. refl }

  module _ (table : List ℕ) where
    put : (i r : ℕ) → i < 4096 → length table ≡ 4096 → Right i r → (v : ℕ) → Dec (v ≡ i) → ((v ≡ i → ⊥) → Right v (get_or table v 0))
        → Right v (get_or (set table i r) v 0)
    put i r h l d v (yes e) k =
        subst (λ (n : ℕ). Right n (get_or (set table i r) n 0)) (sym e)
        (subst (Right i) (sym (get_or-set_same table i r 0 (omega arith))) d)
    put i r h l d v (no n) k = subst (Right v) (sym (get_or-set_other table i v r 0 n)) (k n)

    pub turned_more : (i r : ℕ) → i < 4096 → TurnedTo Right from table i → Right i r → TurnedTo Right from (set table i r) (i + 1)
    turned_more i r h t d =
        record {
          long = length-set table i r ∙ t.long;
          done = λ v g. put i r h t.long d v (ℕ_discrete v i) (λ n. t.done v (omega arith));
          left = λ v g. get_or-set_other table i v r 0 (λ e. omega arith) ∙ t.left v (omega arith);
        }

    pub turned_all : (n count : ℕ) → count ≤ n → TurnedTo Right from table n → Tabled Right table count
    turned_all n count h t = record { long = t.long; each = λ v g. t.done v (omega arith) }

    -- as the code goes: from j to the entry before it
    pub back_more : (count j r : ℕ) → 0 < j → j ≤ 4096 → TurnedFrom Right from table count j → Right (j - 1) r
        → TurnedFrom Right from (set table (j - 1) r) count (j - 1)
    back_more count j r p h t d =
        record {
          long = length-set table (j - 1) r ∙ t.long;
          done = λ v g k. put (j - 1) r (omega arith) t.long d v (ℕ_discrete v (j - 1)) (λ n. t.done v (omega arith) k);
          left = λ v g. get_or-set_other table (j - 1) v r 0 (λ e. omega arith) ∙ t.left v (omega arith);
        }

    pub back_all : (count i : ℕ) → i ≤ 0 → TurnedFrom Right from table count i → Tabled Right table count
    back_all count i h t = record { long = t.long; each = λ v g. t.done v (omega arith) g }

module _ {t : Table} where
  -- a label hands down from a smaller node
  label_below : ParentsSmaller t → {u v : ℕ} (l : ℕ) → 0 < l → Reached t u (l ∷ []) v → u < v
  unfolding Word
  label_below small zero p r = absurd (omega arith)
  label_below small (suc a) p r =
      let w = reached_word r in
      let g = down_greater small r.down in
      let e : length r.run ≡ suc (length w.0) = ap length w.1 in
      omega arith

module _ (t : Table) (from table : List ℕ) where
  -- before v the table is as it was: so what a label hands down to v is the same
  pub label_turned : ParentsSmaller t → (l j r count : ℕ) → 0 < l → 0 < j → TurnedFrom (LeastAt t (l ∷ []) from) from table count j
      → LeastAt t (l ∷ []) table (j - 1) r → LeastAt t (l ∷ []) from (j - 1) r
  label_turned small l j r count p q d a =
      record {
        least = λ u w. let e = d.left u (below u w) in let k = a.least u w in omega arith;
        handed = λ g. let k = a.handed g in
            record { node = k.node; reached = k.reached; number = k.number ∙ d.left k.node (below k.node k.reached) };
      }
    where
      below : (u : ℕ) → Reached t u (l ∷ []) (j - 1) → u < j
      below u w = let b = label_below small l p w in omega arith

  pub least_back : (path : List ℕ) (i : ℕ) → i ≤ 0 → TurnedFrom (LeastAt t path from) from table t.size i → Least t path from table
  unfolding Least
  least_back path i h d = back_all (LeastAt t path from) from table t.size i h d

  pub least_front : (path : List ℕ) (n : ℕ) → t.size ≤ n → TurnedTo (LeastAt t path from) from table n → Least t path from table
  unfolding Least
  least_front path n h d = turned_all (LeastAt t path from) from table n t.size h d

module _ (t : Table) (from : List ℕ) (small : ParentsSmaller t) where
  pub any_start : length from ≡ 4096 → TurnedTo (LeastAt t (0 ∷ []) from) from from 1
  any_start l = turned_one (LeastAt t (0 ∷ []) from) from l (any_root t from 0 (get_or from 0 0) refl refl)

  pub any_turned : (table : List ℕ) (v p s r m : ℕ) → 0 < v → v < t.size → p ≡ t.parent v → s ≡ get_or table p 0 → r ≡ get_or table v 0 → m ≡ min s r
      → TurnedTo (LeastAt t (0 ∷ []) from) from table v → LeastAt t (0 ∷ []) from v m
  unfolding ParentsSmaller
  any_turned table v p s r m q h e f g l d = go (dec_lt s r)
    where
      own : r ≡ get_or from v 0
      own = g ∙ d.left v (omega arith)

      above : LeastAt t (0 ∷ []) from p s
      above = let b = small v q h in subst (LeastAt t (0 ∷ []) from p) (sym f) (d.done p (omega arith))

      go : Dec (s < r) → LeastAt t (0 ∷ []) from v m
      go (yes k) = subst (LeastAt t (0 ∷ []) from v) (let e : s ≡ m = omega arith in e) (any_above t from v small (λ z. omega arith) h p r s e own above k)
      go (no k) = subst (LeastAt t (0 ∷ []) from v) (let e : r ≡ m = omega arith in e) (any_own t from v small (λ z. omega arith) h p r s e own above (omega arith))

-- the symbol that the code has found to be the any-path
pub least_symbol : (t : Table) (s : ℕ) (from to : List ℕ) → s ≡ 0 → Least t (0 ∷ []) from to → Least t (s ∷ []) from to
least_symbol t s from to e l = subst (λ (k : ℕ). Least t (k ∷ []) from to) (sym e) l
