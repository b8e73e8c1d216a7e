-- The lists of one key path as they are filled, and of the key paths one by one.
use Rattle.std.specs.Prelude.{ℕ, ◌+◌, ◌<◌, ◌≤◌, ◌≡◌, List, [], length, get_or, set}
use Rattle.std.proofs.Common.{sym, ◌∙◌, ap, subst, arith, get_or-set_same, get_or-set_other}
use Rattle.std.proofs.Math.Decide.{ℕ_discrete}
use Rattle.meaning.specs.Trees.{Table}
use Rattle.tree_rows.specs.Hung.{Hung, HungIn, none_hung, HungAll}
use Rattle.tree_rows.specs.declared.hung.Hung as lists
use Rattle.tree_sorted.specs.Origin.{OriginIs}
use Rattle.tree_sorted.specs.Hung.{HungFrom, hung_all}

-- The nodes before x have their origin, and no list has begun
pub record OriginsTo (t : Table) (path from first : List ℕ) (x : ℕ) : Type 0 where
  pub origins : (v : ℕ) → v < x → OriginIs t path v (get_or from v 0)
  pub zeros : (v : ℕ) → v < x → get_or first v 0 ≡ 0

pub origins_none : (t : Table) (path from first : List ℕ) → OriginsTo t path from first 0
origins_none t path from first = record { origins = λ v h. absurd (omega arith); zeros = λ v h. absurd (omega arith) }

pub origins_step : (t : Table) (path from first : List ℕ) (x a : ℕ) → length from ≡ 4096 → length first ≡ 4096 → x < 4096 → OriginIs t path x a
    → OriginsTo t path from first x → OriginsTo t path (set from x a) (set first x 0) (x + 1)
origins_step t path from first x a lf lg h o s =
    record { origins = λ v g. origin v g (ℕ_discrete v x); zeros = λ v g. nought v g (ℕ_discrete v x) }
  where
    origin : (v : ℕ) → v < x + 1 → Dec (v ≡ x) → OriginIs t path v (get_or (set from x a) v 0)
    origin v g (yes e) =
        subst (λ (n : ℕ). OriginIs t path n (get_or (set from x a) n 0)) (sym e)
        (subst (OriginIs t path x) (sym (get_or-set_same from x a 0 (omega arith))) o)
    origin v g (no n) = subst (OriginIs t path v) (sym (get_or-set_other from x v a 0 n)) (s.origins v (omega arith))

    nought : (v : ℕ) → v < x + 1 → Dec (v ≡ x) → get_or (set first x 0) v 0 ≡ 0
    nought v g (yes e) = ap (λ (n : ℕ). get_or (set first x 0) n 0) e ∙ get_or-set_same first x 0 0 (omega arith)
    nought v g (no n) = get_or-set_other first x v 0 0 n ∙ s.zeros v (omega arith)

-- what the second loop asks of the first
pub record OriginsFound (count : ℕ) (from first : List ℕ) : Type 0 where
  pub inside : (x : ℕ) → x < count → get_or from x 0 < 4096 → get_or from x 0 < count
  pub zeros : (v : ℕ) → v < count → get_or first v 0 ≡ 0

pub origins_ready : (t : Table) (path from first : List ℕ) (count : ℕ) → count ≡ t.size → OriginsTo t path from first t.size
    → OriginsFound count from first
origins_ready t path from first count e o =
    record {
      inside = λ x h g. let b = (o.origins x (omega arith)).inside (λ z. absurd (omega arith)) in omega arith;
      zeros = λ v h. o.zeros v (omega arith);
    }

-- The key paths before number i hang
pub record HungTo (t : Table) (paths : List (List ℕ)) (hung : List lists.Hung) (i : ℕ) : Type 0 where
  pub each : (j : ℕ) → j < i → HungIn t (get_or paths j []) (get_or hung j none_hung)

pub hung_to_none : (t : Table) (paths : List (List ℕ)) (hung : List lists.Hung) → HungTo t paths hung 0
hung_to_none t paths hung = record { each = λ j h. absurd (omega arith) }

pub hung_to_more : (t : Table) (paths : List (List ℕ)) (path : List ℕ) (hung : List lists.Hung) (list : lists.Hung) (i : ℕ) → i < length hung
    → path ≡ get_or paths i [] → HungTo t paths hung i → HungIn t path list → HungTo t paths (set hung i list) (i + 1)
hung_to_more t paths path hung list i b e s h = record { each = λ j g. go j g (ℕ_discrete j i) }
  where
    go : (j : ℕ) → j < i + 1 → Dec (j ≡ i) → HungIn t (get_or paths j []) (get_or (set hung i list) j none_hung)
    go j g (yes z) =
        subst (λ (n : ℕ). HungIn t (get_or paths n []) (get_or (set hung i list) n none_hung)) (sym z)
        (subst (HungIn t (get_or paths i [])) (sym (get_or-set_same hung i list none_hung b)) (subst (λ (P : List ℕ). HungIn t P list) e h))
    go j g (no n) = subst (HungIn t (get_or paths j [])) (sym (get_or-set_other hung i j list none_hung n)) (s.each j (omega arith))

pub hung_to_all : (t : Table) (paths : List (List ℕ)) (hung : List lists.Hung) (i : ℕ) → length paths ≤ i → HungTo t paths hung i
    → HungAll t paths hung
hung_to_all t paths hung i h s = record { each = λ j g. s.each j (omega arith) }

-- the two loops together
pub hung_done : (t : Table) (path from from' start first next : List ℕ) (count : ℕ) → t.size ≤ 4096 → count ≡ t.size
    → OriginsTo t path from start t.size → HungFrom count from first next 1 → from' ≡ from → Hung t path from' first next
hung_done t path from from' start first next count few e o h f =
    subst (λ (l : List ℕ). Hung t path l first next) (sym f)
    (hung_all t path from first next few 1 (omega arith) (omega arith) o.origins (subst (λ (n : ℕ). HungFrom n from first next 1) e h))
