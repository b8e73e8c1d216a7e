-- The nodes that a key path reaches from each node, in ascending lists: the first, and the next behind each; 0 where there is none. The root is
-- in no list: it is equal to no other node.
use Prim.Native.Nat.{ℕ, zero, suc, ◌+◌, ◌-◌, ◌<◌, ◌≤◌}
use Rattle.std.specs.Prelude.{◌≡◌, List, length, set}
use Rattle.std.proofs.Math.Path.{sym, ap}
use Rattle.std.proofs.Common.{◌∙◌, subst, get_or-set_same, get_or-set_other}
use native.Mathlib.Omega.{arith}
use Rattle.std.proofs.Math.Decide.{ℕ_discrete}
use Rattle.std.proofs.Math.ListN.{get_or}
use Rattle.meaning.specs.Trees.{Table, Child, Down}
use Rattle.tree_table.specs.Links.{LeastChild}
use Rattle.tree_rows.specs.Chain.{by_family}
use Rattle.tree_rows.specs.Hung.{Hung}
use Rattle.tree_sorted.specs.Origin.{OriginIs, origin_is}

-- The lists of the nodes from number i on
pub record HungFrom (count : ℕ) (from first next : List ℕ) (i : ℕ) : Type 0 where
  pub firsts : (v : ℕ) → v < count → LeastChild (by_family count from) v i (get_or first v 0)
  pub nexts : (x : ℕ) → i ≤ x → 0 < x → x < count → get_or from x 0 < 4096
      → LeastChild (by_family count from) (get_or from x 0) (x + 1) (get_or next x 0)

module _ (count : ℕ) (from : List ℕ) where
  pub hung_none : (first next : List ℕ) → ((v : ℕ) → v < count → get_or first v 0 ≡ 0) → HungFrom count from first next count
  unfolding by_family
  hung_none first next zeros =
      record {
        firsts = λ v h.
            record {
              child = λ p. absurd (let z = zeros v h in omega arith);
              skipped = λ k g c. absurd (let i = c.inside in omega arith);
            };
        nexts = λ x g p h f. absurd (omega arith);
      }

  module _ (first next : List ℕ) (j a : ℕ) (low : 1 < j) (high : j ≤ count) (few : count ≤ 4096) (is : a ≡ get_or from (j - 1) 0)
      (linked : HungFrom count from first next j) where
    -- what hangs under another node
    other : (v : ℕ) → v < count → (v ≡ a → ⊥) → LeastChild (by_family count from) v (j - 1) (get_or first v 0)
    unfolding by_family
    other v h n =
        let l = linked.firsts v h in
        record {
          child = λ p. let r = l.child p in (r.0, (let b = r.1 in omega arith));
          skipped = λ k g c. l.skipped k (later k g c (ℕ_discrete k (j - 1))) c;
        }
      where
        later : (k : ℕ) → j - 1 ≤ k → Child (by_family count from) v k → Dec (k ≡ j - 1) → j ≤ k
        later k g c (yes e) = absurd (n (sym c.below ∙ ap (λ (z : ℕ). get_or from z 0) e ∙ sym is))
        later k g c (no m) = omega arith

    -- node j - 1 hangs under no node
    pub hung_pass : 4096 ≤ a → HungFrom count from first next (j - 1)
    hung_pass h =
        record {
          firsts = λ v b. other v b (λ e. omega arith);
          nexts = λ x g p b f. linked.nexts x (later x g f (ℕ_discrete x (j - 1))) p b f;
        }
      where
        later : (x : ℕ) → j - 1 ≤ x → get_or from x 0 < 4096 → Dec (x ≡ j - 1) → j ≤ x
        later x g f (yes e) = absurd (let d = ap (λ (z : ℕ). get_or from z 0) e in omega arith)
        later x g f (no m) = omega arith

    -- it goes in front of the list of node a
    pub hung_more : length first ≡ 4096 → length next ≡ 4096 → a < count
        → HungFrom count from (set first a (j - 1)) (set next (j - 1) (get_or first a 0)) (j - 1)
    unfolding by_family
    hung_more lf ln b =
        record { firsts = λ v h. at_first v h (ℕ_discrete v a); nexts = λ x g p h f. at_next x g p h f (ℕ_discrete x (j - 1)) }
      where
        same : LeastChild (by_family count from) a (j - 1) (j - 1)
        same =
            record {
              child = λ p. (record { not_root = omega arith; inside = omega arith; below = sym is }, omega arith);
              skipped = λ k g c. (omega arith, g);
            }

        at_first : (v : ℕ) → v < count → Dec (v ≡ a) → LeastChild (by_family count from) v (j - 1) (get_or (set first a (j - 1)) v 0)
        at_first v h (yes e) =
            subst (λ (z : ℕ). LeastChild (by_family count from) z (j - 1) (get_or (set first a (j - 1)) z 0)) (sym e)
            (subst (LeastChild (by_family count from) a (j - 1)) (sym (get_or-set_same first a (j - 1) 0 (omega arith))) same)
        at_first v h (no n) = subst (LeastChild (by_family count from) v (j - 1)) (sym (get_or-set_other first a v (j - 1) 0 n)) (other v h n)

        at_next : (x : ℕ) → j - 1 ≤ x → 0 < x → x < count → get_or from x 0 < 4096 → Dec (x ≡ j - 1)
            → LeastChild (by_family count from) (get_or from x 0) (x + 1) (get_or (set next (j - 1) (get_or first a 0)) x 0)
        at_next x g p h f (yes e) =
            let k : j - 1 + 1 ≡ j = omega arith in
            subst (λ (z : ℕ). LeastChild (by_family count from) (get_or from z 0) (z + 1) (get_or (set next (j - 1) (get_or first a 0)) z 0)) (sym e)
            (subst (LeastChild (by_family count from) (get_or from (j - 1) 0) (j - 1 + 1))
            (sym (get_or-set_same next (j - 1) (get_or first a 0) 0 (omega arith)))
            (subst (λ (z : ℕ). LeastChild (by_family count from) z (j - 1 + 1) (get_or first a 0)) is
            (subst (λ (z : ℕ). LeastChild (by_family count from) a z (get_or first a 0)) (sym k) (linked.firsts a b))))
        at_next x g p h f (no n) =
            subst (LeastChild (by_family count from) (get_or from x 0) (x + 1)) (sym (get_or-set_other next (j - 1) x (get_or first a 0) 0 n))
            (linked.nexts x (omega arith) p h f)

-- r is the least node from number i on, behind the root, that the path reaches from a; 0 where there is none
pub record Listed (t : Table) (path : List ℕ) (a i r : ℕ) : Type 0 where
  pub inside : r < t.size
  pub down : 0 < r → Down t a path r
  pub behind : 0 < r → i ≤ r
  pub least : (k : ℕ) → i ≤ k → 0 < k → k < t.size → Down t a path k → (0 < r) × (r ≤ k)

module _ (t : Table) (path from first next : List ℕ) where
  pub hung_all : t.size ≤ 4096 → (j : ℕ) → j ≤ 1 → 0 < j → ((x : ℕ) → x < t.size → OriginIs t path x (get_or from x 0))
      → HungFrom t.size from first next j → Hung t path from first next
  hung_all few j low p o h =
      let e : j ≡ 1 = omega arith in
      record {
        above = λ x q b n. ((o x b).inside n, (o x b).down n);
        every = λ x a q b d. (origin_is (o x b) a d).0;
        firsts = λ v b. subst (λ (k : ℕ). LeastChild (by_family t.size from) v k (get_or first v 0)) e (h.firsts v b);
        nexts = λ x q b f. h.nexts x (omega arith) q b (omega arith);
      }

  module _ (few : t.size ≤ 4096) (some : 0 < t.size) (h : Hung t path from first next) where
    listed_so : (a i r : ℕ) → a < t.size → LeastChild (by_family t.size from) a i r → Listed t path a i r
    unfolding by_family
    listed_so a i r b l =
        record {
          inside = within r l;
          down = λ p. reached r (l.child p).0;
          behind = λ p. (l.child p).1;
          least = λ k g p c d. l.skipped k g (record { not_root = p; inside = c; below = h.every k a p c d });
        }
      where
        within : (r : ℕ) → LeastChild (by_family t.size from) a i r → r < t.size
        within zero l = some
        within (suc r) l = (l.child (omega arith)).0.inside

        reached : (r : ℕ) → Child (by_family t.size from) a r → Down t a path r
        reached r c =
            subst (λ (v : ℕ). Down t v path r) c.below
            (h.above r c.not_root c.inside (λ e. let z = c.below in absurd (omega arith))).1

    pub listed_first : (a r : ℕ) → a < t.size → r ≡ get_or first a 0 → Listed t path a 1 r
    listed_first a r b e = listed_so a 1 r b (subst (LeastChild (by_family t.size from) a 1) (sym e) (h.firsts a b))

    pub listed_next : (a x r : ℕ) → a < t.size → 0 < x → x < t.size → Down t a path x → r ≡ get_or next x 0 → Listed t path a (x + 1) r
    listed_next a x r b p c d e =
        let z = h.every x a p c d in
        listed_so a (x + 1) r b
        (subst (λ (v : ℕ). LeastChild (by_family t.size from) v (x + 1) r) z
        (subst (LeastChild (by_family t.size from) (get_or from x 0) (x + 1)) (sym e) (h.nexts x p c (omega arith))))
