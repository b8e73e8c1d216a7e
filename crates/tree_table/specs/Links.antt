-- Child links: to each node its first child, and the next child of the same parent; 0 where there is none (no child is node 0).
use Rattle.std.specs.Prelude.{ℕ, ◌+◌, ◌-◌, ◌<◌, ◌≤◌, ◌≡◌, refl, List, length, get_or, set}
use Rattle.std.proofs.Common.{sym, subst, arith, get_or-set_same, get_or-set_other}
use Rattle.std.proofs.Math.Decide.{ℕ_discrete}
use Rattle.meaning.specs.Trees.{Table, Child}

-- r is the least child of v from number i on, or 0
pub record LeastChild (t : Table) (v i r : ℕ) : Type 0 where
  pub child : 0 < r → Child t v r × (i ≤ r)
  pub skipped : (k : ℕ) → i ≤ k → Child t v k → (0 < r) × (r ≤ k)

-- The links of the nodes from number i on
pub record LinkedFrom (t : Table) (i : ℕ) (first next : List ℕ) : Type 0 where
  pub firsts : (v : ℕ) → v < t.size → LeastChild t v i (get_or first v 0)
  pub nexts : (x : ℕ) → i ≤ x → 0 < x → x < t.size → LeastChild t (t.parent x) (x + 1) (get_or next x 0)

-- The first children, and the next siblings, of a whole table
pub record Firsts (t : Table) (first : List ℕ) : Type 0 where
  pub link : (v : ℕ) → v < t.size → LeastChild t v 1 (get_or first v 0)

pub record Nexts (t : Table) (next : List ℕ) : Type 0 where
  pub link : (x : ℕ) → 0 < x → x < t.size → LeastChild t (t.parent x) (x + 1) (get_or next x 0)

pub record Linked (t : Table) (first next : List ℕ) : Type 0 where
  pub firsts : Firsts t first
  pub nexts : Nexts t next

module _ (t : Table) where
  -- before any node is linked
  pub linked_none : (n : ℕ) (first next : List ℕ) → n ≡ t.size → ((v : ℕ) → v < t.size → get_or first v 0 ≡ 0) → LinkedFrom t n first next
  linked_none n first next e zeros =
      record {
        firsts = λ v h.
            record {
              child = λ p. absurd (let z = zeros v h in omega arith);
              skipped = λ k g c. absurd (let i = c.inside in omega arith);
            };
        nexts = λ x g p h. absurd (omega arith);
      }

  -- node i goes in front of the later children of its parent
  module _ (first next : List ℕ) (i : ℕ) (positive : 0 < i) (inside : i < t.size) (fits : t.size ≤ length first) (fits' : t.size ≤ length next)
      (parent : t.parent i < t.size) (linked : LinkedFrom t (i + 1) first next) where
    first_same : LeastChild t (t.parent i) i i
    first_same =
        record {
          child = λ p. (record { not_root = positive; inside = inside; below = refl }, omega arith);
          skipped = λ k g c. (positive, g);
        }

    first_other : (v : ℕ) → v < t.size → (v ≡ t.parent i → ⊥) → LeastChild t v i (get_or first v 0)
    first_other v h n =
        let l = linked.firsts v h in
        record {
          child = λ p. let r = l.child p in (r.0, (let b = r.1 in omega arith));
          skipped = λ k g c. l.skipped k (later k g c (ℕ_discrete k i)) c;
        }
      where
        later : (k : ℕ) → i ≤ k → Child t v k → Dec (k ≡ i) → i + 1 ≤ k
        later k g c (yes e) = absurd (n (subst (λ (z : ℕ). v ≡ t.parent z) e (sym c.below)))
        later k g c (no m) = omega arith

    linked_more : LinkedFrom t i (set first (t.parent i) i) (set next i (get_or first (t.parent i) 0))
    linked_more =
        record {
          firsts = λ v h. at_first v h (ℕ_discrete v (t.parent i));
          nexts = λ x g p h. at_next x g p h (ℕ_discrete x i);
        }
      where
        at_first : (v : ℕ) → v < t.size → Dec (v ≡ t.parent i) → LeastChild t v i (get_or (set first (t.parent i) i) v 0)
        at_first v h (yes e) =
            subst (λ (z : ℕ). LeastChild t z i (get_or (set first (t.parent i) i) z 0)) (sym e)
            (subst (LeastChild t (t.parent i) i) (sym (get_or-set_same first (t.parent i) i 0 (omega arith))) first_same)
        at_first v h (no n) = subst (LeastChild t v i) (sym (get_or-set_other first (t.parent i) v i 0 n)) (first_other v h n)

        at_next : (x : ℕ) → i ≤ x → 0 < x → x < t.size → Dec (x ≡ i)
            → LeastChild t (t.parent x) (x + 1) (get_or (set next i (get_or first (t.parent i) 0)) x 0)
        at_next x g p h (yes e) =
            subst (λ (z : ℕ). LeastChild t (t.parent z) (z + 1) (get_or (set next i (get_or first (t.parent i) 0)) z 0)) (sym e)
            (subst (LeastChild t (t.parent i) (i + 1)) (sym (get_or-set_same next i (get_or first (t.parent i) 0) 0 (omega arith)))
            (linked.firsts (t.parent i) parent))
        at_next x g p h (no n) =
            subst (LeastChild t (t.parent x) (x + 1)) (sym (get_or-set_other next i x (get_or first (t.parent i) 0) 0 n))
            (linked.nexts x (omega arith) p h)

  pub linked_all : (first next : List ℕ) (i : ℕ) → i ≤ 1 → 0 < i → LinkedFrom t i first next → Linked t first next
  linked_all first next i h p l =
      let e : i ≡ 1 = omega arith in
      record {
        firsts = record { link = λ v b. subst (λ (k : ℕ). LeastChild t v k (get_or first v 0)) e (l.firsts v b) };
        nexts = record { link = λ x q b. l.nexts x (omega arith) q b };
      }

  -- as the code goes: from j to the node before it
  pub linked_step : (first next : List ℕ) (j p : ℕ) → 1 < j → j ≤ t.size → t.size ≤ length first → t.size ≤ length next → p ≡ t.parent (j - 1)
      → p < t.size → LinkedFrom t j first next → LinkedFrom t (j - 1) (set first p (j - 1)) (set next (j - 1) (get_or first p 0))
  linked_step first next j p low high f n e b l =
      subst (λ (q : ℕ). LinkedFrom t (j - 1) (set first q (j - 1)) (set next (j - 1) (get_or first q 0))) (sym e)
      (linked_more first next (j - 1) (omega arith) (omega arith) f n (omega arith)
      (let s : j ≡ j - 1 + 1 = omega arith in subst (λ (k : ℕ). LinkedFrom t k first next) s l))
