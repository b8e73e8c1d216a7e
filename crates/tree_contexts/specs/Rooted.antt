-- Contexts by handing down: the root alone holds a number, 0; a node is a context exactly when it arrives.
use Rattle.std.specs.Prelude.{ℕ, ◌+◌, ◌<◌, ◌≤◌, ◌≡◌, refl, List, length, get_or, set}
use Rattle.std.proofs.Common.{sym, ◌∙◌, ap, arith, length-set, get_or-set_same, get_or-set_other}
use Rattle.std.proofs.Math.Path.{subst}
use Rattle.std.proofs.Math.Decide.{dec_lt, ℕ_discrete}
use Rattle.meaning.specs.Trees.{Table, Reached}
use Rattle.theory_trees.specs.Below.{ParentsSmaller}
use Rattle.tree_contexts.specs.Tabled.{Tabled}
use Rattle.tree_contexts.specs.Least.{LeastAt, Least, Handed, reached_above, above_inside}
use Rattle.tree_contexts.specs.Tops.{OwnAt, Tops, tops_so}

pub record Rooted (from : List ℕ) (count : ℕ) : Type 0 where
  pub long : length from ≡ 4096
  pub root : get_or from 0 0 ≡ 0
  pub rest : (v : ℕ) → 0 < v → v < count → 4096 ≤ get_or from v 0

pub rooted_start : (table : List ℕ) → length table ≡ 4096 → Rooted (set table 0 0) 1
rooted_start table l =
    record {
      long = length-set table 0 0 ∙ l;
      root = get_or-set_same table 0 0 0 (omega arith);
      rest = λ v p h. absurd (omega arith);
    }

pub rooted_more : (table : List ℕ) (i : ℕ) → 0 < i → i < 4096 → Rooted table i → Rooted (set table i 4096) (i + 1)
rooted_more table i p h r =
    record {
      long = length-set table i 4096 ∙ r.long;
      root = get_or-set_other table i 0 4096 0 (λ e. omega arith) ∙ r.root;
      rest = λ v q g. go v q g (ℕ_discrete v i);
    }
  where
    go : (v : ℕ) → 0 < v → v < i + 1 → Dec (v ≡ i) → 4096 ≤ get_or (set table i 4096) v 0
    go v q g (yes e) =
        let l = r.long in
        let k = ap (λ (n : ℕ). get_or (set table i 4096) n 0) e ∙ get_or-set_same table i 4096 0 (omega arith) in
        omega arith
    go v q g (no n) = let k = get_or-set_other table i v 4096 0 n in let b = r.rest v q (omega arith) in omega arith

pub rooted_all : (table : List ℕ) (n count : ℕ) → count ≤ n → Rooted table n → Rooted table count
rooted_all table n count h r = record { long = r.long; root = r.root; rest = λ v p g. r.rest v p (omega arith) }

module _ (t : Table) (path from : List ℕ) (small : ParentsSmaller t) (rooted : Rooted from t.size) (v r : ℕ) (inside : v < t.size)
    (l : LeastAt t path from v r) where
  own_arrived : r < 4096 → OwnAt t path v v
  own_arrived h = record { yes = λ g. (from_root (l.handed h), refl); no = λ g. refl }
    where
      from_root : Handed t path from v r → Reached t 0 path v
      from_root k = go (ℕ_discrete k.node 0)
        where
          go : Dec (k.node ≡ 0) → Reached t 0 path v
          go (yes z) = subst (λ (u : ℕ). Reached t u path v) z k.reached
          go (no n) =
              let i = above_inside small (reached_above k.reached) inside in
              let b = rooted.rest k.node (omega arith) i in
              let e = k.number in
              absurd (omega arith)

  own_missed : 4096 ≤ r → OwnAt t path v 4096
  own_missed h =
      record { yes = λ g. absurd (omega arith); no = λ g. absurd (let b = l.least 0 g in let e = rooted.root in omega arith) }

-- What stands at v where `arrived` arrived: its own number, or 4,096
pub record Own (v arrived r : ℕ) : Type 0 where
  pub yes : arrived < 4096 → r ≡ v
  pub no : 4096 ≤ arrived → r ≡ 4096

-- .. of a whole table
pub record Owned (from : List ℕ) (v r : ℕ) : Type 0 where
  pub own : Own v (get_or from v 0) r

pub owned_at : (from : List ℕ) (v a r : ℕ) → a ≡ get_or from v 0 → Own v a r → Owned from v r
owned_at from v a r e o = record { own = subst (λ (k : ℕ). Own v k r) e o }

module _ (t : Table) (context target from mid to tops : List ℕ) (small : ParentsSmaller t) (some : 0 < t.size) where
  pub owns_so : Rooted from t.size → Least t context from mid → Tabled (Owned mid) to t.size → Tabled (OwnAt t context) to t.size
  unfolding Least
  owns_so rooted l o = record { long = o.long; each = λ v h. at v h (o.each v h).own (dec_lt (get_or mid v 0) 4096) }
    where
      at : (v : ℕ) → v < t.size → Own v (get_or mid v 0) (get_or to v 0) → Dec (get_or mid v 0 < 4096) → OwnAt t context v (get_or to v 0)
      at v h k (yes g) =
          subst (OwnAt t context v) (sym (k.yes g)) (own_arrived t context from small rooted v (get_or mid v 0) h (l.each v h) g)
      at v h k (no g) =
          subst (OwnAt t context v) (sym (k.no (omega arith)))
          (own_missed t context from small rooted v (get_or mid v 0) h (l.each v h) (omega arith))

  pub tops_handed : Rooted from t.size → Least t context from mid → Tabled (Owned mid) to t.size → Least t target to tops
      → Tops t context target tops
  tops_handed rooted l o k = tops_so t context target to tops small some (owns_so rooted l o) k
