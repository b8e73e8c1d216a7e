-- The next node of the same family: the links of the table whose "parent" is the family.
use Rattle.std.specs.Prelude.{ℕ, zero, suc, ◌+◌, ◌-◌, ◌<◌, ◌≤◌, ◌≡◌, refl, List, length, get_or, set}
use Rattle.std.proofs.Common.{sym, ◌∙◌, subst, arith}
use Rattle.meaning.specs.Trees.{Table, Child}
use Rattle.tree_table.specs.Links.{LeastChild, Nexts, Linked, LinkedFrom, linked_none, linked_step, linked_all}
use Rattle.tree_table.specs.Seek.{left, left_falls}

unfoldable pub by_family : ℕ → List ℕ → Table
by_family count family = record { size = count; parent = λ x. get_or family x 0; label = λ x. 0; value = λ x. 0 }

module _ (count : ℕ) (family : List ℕ) where
  pub chain_none : (last same : List ℕ) → ((v : ℕ) → v < count → get_or last v 0 ≡ 0) → LinkedFrom (by_family count family) count last same
  unfolding by_family
  chain_none last same zeros = linked_none (by_family count family) count last same refl zeros

  pub chain_step : (last same : List ℕ) (j p : ℕ) → 1 < j → j ≤ count → count ≤ 4096 → length last ≡ 4096 → length same ≡ 4096
      → p ≡ get_or family (j - 1) 0 → p < count → LinkedFrom (by_family count family) j last same
      → LinkedFrom (by_family count family) (j - 1) (set last p (j - 1)) (set same (j - 1) (get_or last p 0))
  unfolding by_family
  chain_step last same j p low high few l m e h k =
      linked_step (by_family count family) last same j p low high (omega arith) (omega arith) e h k

  pub chain_all : (last same : List ℕ) (j : ℕ) → j ≤ 1 → 0 < j → LinkedFrom (by_family count family) j last same → Linked (by_family count family) last same
  chain_all last same j low high k = linked_all (by_family count family) last same j low high k

-- the next node of the family of v, as its chain says
pub record NextIn (count : ℕ) (family : List ℕ) (v n : ℕ) : Type 0 where
  pub inside : n < count
  pub member : 0 < n → (v < n) × (get_or family n 0 ≡ get_or family v 0)
  pub least : (k : ℕ) → v < k → k < count → get_or family k 0 ≡ get_or family v 0 → (0 < n) × (n ≤ k)

pub next_in : (count : ℕ) (family same : List ℕ) → Nexts (by_family count family) same → (v n : ℕ) → 0 < v → v < count → n ≡ get_or same v 0
    → NextIn count family v n
unfolding by_family
next_in count family same links v n p h e =
    let l = subst (LeastChild (by_family count family) (get_or family v 0) (v + 1)) (sym e) (links.link v p h) in
    record {
      inside = within n l;
      member = λ q. let c = l.child q in (let b = c.1 in omega arith, c.0.below);
      least = λ k g i f. l.skipped k (omega arith) (record { not_root = omega arith; inside = i; below = f });
    }
  where
    within : (n : ℕ) → LeastChild (by_family count family) (get_or family v 0) (v + 1) n → n < count
    within zero l = omega arith
    within (suc n) l = (l.child (omega arith)).0.inside

pub next_falls : (count : ℕ) (family same : List ℕ) → Nexts (by_family count family) same → (v n : ℕ) → 0 < v → v < count → n ≡ get_or same v 0
    → left count n < left count v
next_falls count family same links v n p h e = left_falls count v n p h (λ q. ((next_in count family same links v n p h e).member q).0)

-- the child links of a table whose parents are the owners
pub linked_table : (t : Table) (count : ℕ) (owner first next : List ℕ) → count ≡ t.size
    → ((v : ℕ) → v < t.size → get_or owner v 0 ≡ t.parent v) → Linked (by_family count owner) first next → Linked t first next
unfolding by_family
linked_table t count owner first next e same l =
    record {
      firsts = record { link = λ v h. least v 1 (get_or first v 0) (l.firsts.link v (omega arith)) };
      nexts =
          record {
            link = λ x p h.
                subst (λ (v : ℕ). LeastChild t v (x + 1) (get_or next x 0)) (same x h)
                (least (get_or owner x 0) (x + 1) (get_or next x 0) (l.nexts.link x p (omega arith)));
          };
    }
  where
    there : (v k : ℕ) → Child (by_family count owner) v k → Child t v k
    there v k c = record { not_root = c.not_root; inside = let i = c.inside in omega arith; below = sym (same k (let i = c.inside in omega arith)) ∙ c.below }

    back : (v k : ℕ) → Child t v k → Child (by_family count owner) v k
    back v k c = record { not_root = c.not_root; inside = let i = c.inside in omega arith; below = same k c.inside ∙ c.below }

    least : (v i r : ℕ) → LeastChild (by_family count owner) v i r → LeastChild t v i r
    least v i r l =
        record {
          child = λ p. let c = l.child p in (there v r c.0, c.1);
          skipped = λ k g c. l.skipped k g (back v k c);
        }
