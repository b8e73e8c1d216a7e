-- Numbers of the nodes that a key path reaches: nodes of one family below targets of one group get one number. The families are gone through one by
-- one, each along its chain; at each group stand the family that was there last (stamp) and the first node of it (lead).
use Rattle.std.specs.Prelude.{ℕ, ◌+◌, ◌<◌, ◌≤◌, ◌≡◌, refl, List, length, get_or, set}
use Rattle.std.proofs.Common.{sym, ◌∙◌, ap, arith, get_or-set_same, get_or-set_other}
use Rattle.std.proofs.Math.Decide.{ℕ_discrete, dec_lt}
use Rattle.meaning.specs.Paths.{Class}
use Rattle.meaning.specs.Trees.{Table, IsTree}
use Rattle.theory_trees.specs.Below.{tree_smaller}
use Rattle.theory_trees.specs.Laws.{equal_label, equal_reflexive}
use Rattle.tree_table.specs.Links.{Nexts}
use Rattle.tree_rows.specs.Families.{Families, Smallest}
use Rattle.tree_rows.specs.Chain.{by_family, NextIn, next_in}

-- Each family is one of its nodes, the smallest
pub record ByLeast (count : ℕ) (family : List ℕ) : Type 0 where
  pub positive : (x : ℕ) → 0 < x → x < count → 0 < get_or family x 0
  pub least : (x : ℕ) → x < count → get_or family x 0 ≤ x
  pub own : (x : ℕ) → x < count → get_or family (get_or family x 0) 0 ≡ get_or family x 0

pub by_least : (κ : ℕ → Class) (t : Table) (family : List ℕ) → IsTree κ t → Families κ t family → Smallest κ t family → ByLeast t.size family
by_least κ t family tree families smallest =
    record {
      positive = λ x p h. above x p h (ℕ_discrete (get_or family x 0) 0);
      least = λ x h. smallest.least x x h h (equal_reflexive (tree_smaller tree) x);
      own = λ x h. families.equal (get_or family x 0) x (families.inside x h) h (smallest.equal x h);
    }
  where
    above : (x : ℕ) → 0 < x → x < t.size → Dec (get_or family x 0 ≡ 0) → 0 < get_or family x 0
    above x p h (no n) = omega arith
    above x p h (yes z) =
        absurd ((tree.rest x p h).not_root (sym (equal_label (smallest.equal x h)) ∙ ap (λ (k : ℕ). t.label k) z ∙ tree.root))

-- The group of the node above x; count or more where there is none
pub record GroupIs (count : ℕ) (from group : List ℕ) (x r : ℕ) : Type 0 where
  pub yes : r < count → (get_or from x 0 < count) × (get_or group (get_or from x 0) 0 ≡ r)
  pub no : get_or from x 0 < count → get_or group (get_or from x 0) 0 < count → r ≡ get_or group (get_or from x 0) 0

module _ (count : ℕ) (from group : List ℕ) (x : ℕ) where
  pub group_none : (a : ℕ) → a ≡ get_or from x 0 → count ≤ a → GroupIs count from group x count
  group_none a e h = record { yes = λ g. absurd (omega arith); no = λ g k. absurd (omega arith) }

  pub group_some : (a r : ℕ) → a ≡ get_or from x 0 → a < count → r ≡ get_or group a 0 → GroupIs count from group x r
  group_some a r e h f =
      let k : r ≡ get_or group (get_or from x 0) 0 = f ∙ ap (λ (n : ℕ). get_or group n 0) e in
      record { yes = λ g. (omega arith, sym k); no = λ g j. k }

-- At node at of the chain of family c; 0 behind its end
pub record Passing (count : ℕ) (family from group : List ℕ) (c : ℕ) (old number stamp lead : List ℕ) (at : ℕ) : Type 0 where
  pub inside : at < count
  pub member : 0 < at → get_or family at 0 ≡ c
  pub low : (x : ℕ) → x < count → get_or number x 0 ≤ x
  pub kept : (x : ℕ) → (get_or family x 0 ≡ c → ⊥) → get_or number x 0 ≡ get_or old x 0
  pub stamps : (g : ℕ) → g < count → get_or stamp g 0 ≤ c
  pub leads : (g : ℕ) → g < count → get_or stamp g 0 ≡ c → 0 < at → get_or lead g 0 < at
  pub done : (x : ℕ) → 0 < x → x < count → get_or family x 0 ≡ c → (0 < at → x < at) → get_or from x 0 < count → get_or group (get_or from x 0) 0 < count
      → (get_or stamp (get_or group (get_or from x 0) 0) 0 ≡ c) × (get_or number x 0 ≡ get_or lead (get_or group (get_or from x 0) 0) 0)

-- What is left behind
pub record FamilyNumbered (count : ℕ) (family from group : List ℕ) (c : ℕ) (old number stamp : List ℕ) : Type 0 where
  pub low : (x : ℕ) → x < count → get_or number x 0 ≤ x
  pub kept : (x : ℕ) → (get_or family x 0 ≡ c → ⊥) → get_or number x 0 ≡ get_or old x 0
  pub stamps : (g : ℕ) → g < count → get_or stamp g 0 ≤ c
  pub same : (x y : ℕ) → 0 < x → x < count → 0 < y → y < count → get_or family x 0 ≡ c → get_or family y 0 ≡ c → get_or from x 0 < count
      → get_or from y 0 < count → get_or group (get_or from x 0) 0 ≡ get_or group (get_or from y 0) 0 → get_or group (get_or from x 0) 0 < count
      → get_or number x 0 ≡ get_or number y 0

-- Before family c
pub record Unstamped (count : ℕ) (number stamp : List ℕ) (c : ℕ) : Type 0 where
  pub low : (x : ℕ) → x < count → get_or number x 0 ≤ x
  pub stamps : (g : ℕ) → g < count → get_or stamp g 0 < c

module _ (count : ℕ) (family from group : List ℕ) (c : ℕ) (old : List ℕ) where
  pub passing_start : (stamp lead : List ℕ) → 0 < c → c < count → ByLeast count family → get_or family c 0 ≡ c → Unstamped count old stamp c
      → Passing count family from group c old old stamp lead c
  passing_start stamp lead p h l e u =
      record {
        inside = h;
        member = λ q. e;
        low = u.low;
        kept = λ x n. refl;
        stamps = λ g b. let s = u.stamps g b in omega arith;
        leads = λ g b f q. absurd (let s = u.stamps g b in omega arith);
        done = λ x q b f n k j. absurd (let s = l.least x b in let r = n p in omega arith);
      }

  module _ (same number stamp lead : List ℕ) (links : Nexts (by_family count family) same) (at : ℕ) (positive : 0 < at)
      (w : Passing count family from group c old number stamp lead at) (g : ℕ) (is : GroupIs count from group at g) (next : ℕ)
      (chain : next ≡ get_or same at 0) where
    n : NextIn count family at next
    n = next_in count family same links at next positive w.inside chain

    -- a passed node is at itself or was passed before
    before : (x : ℕ) → 0 < x → x < count → get_or family x 0 ≡ c → (0 < next → x < next) → (x ≡ at → ⊥) → 0 < at → x < at
    before x p h e k m q = go (dec_lt x at)
      where
        go : Dec (x < at) → x < at
        go (yes b) = b
        go (no b) =
            let r = n.least x (omega arith) h (e ∙ sym (w.member positive)) in
            let r1 = r.1 in
            let z = k r.0 in
            absurd (omega arith)

    pub passing_none : count ≤ g → Passing count family from group c old number stamp lead next
    passing_none h =
        record {
          inside = n.inside;
          member = λ q. (n.member q).1 ∙ w.member positive;
          low = w.low;
          kept = w.kept;
          stamps = w.stamps;
          leads = λ k b e q. let l = w.leads k b e positive in let m = (n.member q).0 in omega arith;
          done = λ x p b e k f j. go x p b e k f j (ℕ_discrete x at);
        }
      where
        go : (x : ℕ) → 0 < x → x < count → get_or family x 0 ≡ c → (0 < next → x < next) → get_or from x 0 < count
            → get_or group (get_or from x 0) 0 < count → Dec (x ≡ at)
            → (get_or stamp (get_or group (get_or from x 0) 0) 0 ≡ c) × (get_or number x 0 ≡ get_or lead (get_or group (get_or from x 0) 0) 0)
        go x p b e k f j (no m) = w.done x p b e (before x p b e k m) f j
        go x p b e k f j (yes z) =
            let z1 = ap (λ (v : ℕ). get_or from v 0) z in
            let z2 = ap (λ (v : ℕ). get_or group v 0) z1 in
            let r = is.no (omega arith) (omega arith) in
            absurd (omega arith)

    module _ (inside : g < count) where
      group_at : (x : ℕ) → x ≡ at → get_or group (get_or from x 0) 0 ≡ g
      group_at x z = ap (λ (v : ℕ). get_or group (get_or from v 0) 0) z ∙ (is.yes inside).1

      -- the family was here: the node takes the first one's number
      pub passing_again : length number ≡ 4096 → count ≤ 4096 → get_or stamp g 0 ≡ c
          → Passing count family from group c old (set number at (get_or lead g 0)) stamp lead next
      passing_again long few e =
          record {
            inside = n.inside;
            member = λ q. (n.member q).1 ∙ w.member positive;
            low = λ x b. low x b (ℕ_discrete x at);
            kept = λ x m. get_or-set_other number at x (get_or lead g 0) 0 (λ z. m (ap (λ (v : ℕ). get_or family v 0) z ∙ w.member positive)) ∙ w.kept x m;
            stamps = w.stamps;
            leads = λ k b f q. let l = w.leads k b f positive in let m = (n.member q).0 in omega arith;
            done = λ x p b f k i j. go x p b f k i j (ℕ_discrete x at);
          }
        where
          put : get_or (set number at (get_or lead g 0)) at 0 ≡ get_or lead g 0
          put = get_or-set_same number at (get_or lead g 0) 0 (let i = w.inside in omega arith)

          low : (x : ℕ) → x < count → Dec (x ≡ at) → get_or (set number at (get_or lead g 0)) x 0 ≤ x
          low x b (no m) = let z = get_or-set_other number at x (get_or lead g 0) 0 m in let l = w.low x b in omega arith
          low x b (yes z) =
              let l = w.leads g inside e positive in
              let y = ap (λ (v : ℕ). get_or (set number at (get_or lead g 0)) v 0) z ∙ put in
              omega arith

          go : (x : ℕ) → 0 < x → x < count → get_or family x 0 ≡ c → (0 < next → x < next) → get_or from x 0 < count
              → get_or group (get_or from x 0) 0 < count → Dec (x ≡ at)
              → (get_or stamp (get_or group (get_or from x 0) 0) 0 ≡ c)
              × (get_or (set number at (get_or lead g 0)) x 0 ≡ get_or lead (get_or group (get_or from x 0) 0) 0)
          go x p b f k i j (no m) =
              let d = w.done x p b f (before x p b f k m) i j in
              (d.0, get_or-set_other number at x (get_or lead g 0) 0 m ∙ d.1)
          go x p b f k i j (yes z) =
              let q = group_at x z in (
                ap (λ (v : ℕ). get_or stamp v 0) q ∙ e,
                ap (λ (v : ℕ). get_or (set number at (get_or lead g 0)) v 0) z ∙ put ∙ sym (ap (λ (v : ℕ). get_or lead v 0) q),
              )

      -- it was not: the node is its first one in this group
      pub passing_first : length number ≡ 4096 → length stamp ≡ 4096 → length lead ≡ 4096 → count ≤ 4096 → (get_or stamp g 0 ≡ c → ⊥)
          → Passing count family from group c old (set number at at) (set stamp g c) (set lead g at) next
      passing_first ln ls ll few e =
          record {
            inside = n.inside;
            member = λ q. (n.member q).1 ∙ w.member positive;
            low = λ x b. low x b (ℕ_discrete x at);
            kept = λ x m. get_or-set_other number at x at 0 (λ z. m (ap (λ (v : ℕ). get_or family v 0) z ∙ w.member positive)) ∙ w.kept x m;
            stamps = λ k b. stamps k b (ℕ_discrete k g);
            leads = λ k b f q. leads k b f q (ℕ_discrete k g);
            done = λ x p b f k i j. go x p b f k i j (ℕ_discrete x at);
          }
        where
          put : get_or (set number at at) at 0 ≡ at
          put = get_or-set_same number at at 0 (let i = w.inside in omega arith)

          stamped : get_or (set stamp g c) g 0 ≡ c
          stamped = get_or-set_same stamp g c 0 (omega arith)

          led : get_or (set lead g at) g 0 ≡ at
          led = get_or-set_same lead g at 0 (omega arith)

          low : (x : ℕ) → x < count → Dec (x ≡ at) → get_or (set number at at) x 0 ≤ x
          low x b (no m) = let z = get_or-set_other number at x at 0 m in let l = w.low x b in omega arith
          low x b (yes z) = let y = ap (λ (v : ℕ). get_or (set number at at) v 0) z ∙ put in omega arith

          stamps : (k : ℕ) → k < count → Dec (k ≡ g) → get_or (set stamp g c) k 0 ≤ c
          stamps k b (yes z) = let y = ap (λ (v : ℕ). get_or (set stamp g c) v 0) z ∙ stamped in omega arith
          stamps k b (no m) = let z = get_or-set_other stamp g k c 0 m in let l = w.stamps k b in omega arith

          leads : (k : ℕ) → k < count → get_or (set stamp g c) k 0 ≡ c → 0 < next → Dec (k ≡ g) → get_or (set lead g at) k 0 < next
          leads k b f q (yes z) =
              let y = ap (λ (v : ℕ). get_or (set lead g at) v 0) z ∙ led in
              let m = (n.member q).0 in
              omega arith
          leads k b f q (no d) =
              let y = get_or-set_other lead g k at 0 d in
              let l = w.leads k b (sym (get_or-set_other stamp g k c 0 d) ∙ f) positive in
              let m = (n.member q).0 in
              omega arith

          go : (x : ℕ) → 0 < x → x < count → get_or family x 0 ≡ c → (0 < next → x < next) → get_or from x 0 < count
              → get_or group (get_or from x 0) 0 < count → Dec (x ≡ at)
              → (get_or (set stamp g c) (get_or group (get_or from x 0) 0) 0 ≡ c)
              × (get_or (set number at at) x 0 ≡ get_or (set lead g at) (get_or group (get_or from x 0) 0) 0)
          go x p b f k i j (yes z) =
              let q = group_at x z in (
                ap (λ (v : ℕ). get_or (set stamp g c) v 0) q ∙ stamped,
                ap (λ (v : ℕ). get_or (set number at at) v 0) z ∙ put ∙ sym (ap (λ (v : ℕ). get_or (set lead g at) v 0) q ∙ led),
              )
          go x p b f k i j (no m) =
              let d = w.done x p b f (before x p b f k m) i j in
              let o : get_or group (get_or from x 0) 0 ≡ g → ⊥ = λ z. e (ap (λ (v : ℕ). get_or stamp v 0) (sym z) ∙ d.0) in (
                get_or-set_other stamp g (get_or group (get_or from x 0) 0) c 0 o ∙ d.0,
                get_or-set_other number at x at 0 m ∙ d.1 ∙ sym (get_or-set_other lead g (get_or group (get_or from x 0) 0) at 0 o),
              )

  pub passing_end : (number stamp lead : List ℕ) (at : ℕ) → at ≡ 0 → Passing count family from group c old number stamp lead at
      → FamilyNumbered count family from group c old number stamp
  passing_end number stamp lead at z w =
      record {
        low = w.low;
        kept = w.kept;
        stamps = w.stamps;
        same = λ x y p h q k e f i j g b.
            (w.done x p h e (λ r. absurd (omega arith)) i b).1 ∙ ap (λ (v : ℕ). get_or lead v 0) g
            ∙ sym (w.done y q k f (λ r. absurd (omega arith)) j (omega arith)).1;
      }

-- The families below c are numbered
pub record NumberedTo (count : ℕ) (family from group number stamp : List ℕ) (c : ℕ) : Type 0 where
  pub ready : Unstamped count number stamp c
  pub same : (x y : ℕ) → 0 < x → x < count → 0 < y → y < count → get_or family x 0 ≡ get_or family y 0 → get_or family x 0 < c → get_or from x 0 < count
      → get_or from y 0 < count → get_or group (get_or from x 0) 0 ≡ get_or group (get_or from y 0) 0 → get_or group (get_or from x 0) 0 < count
      → get_or number x 0 ≡ get_or number y 0

module _ (count : ℕ) (family from group : List ℕ) (l : ByLeast count family) where
  pub numbered_start : (number stamp : List ℕ) → Unstamped count number stamp 1 → NumberedTo count family from group number stamp 1
  numbered_start number stamp u =
      record { ready = u; same = λ x y p h q k e f i j g b. absurd (let s = l.positive x p h in omega arith) }

  pub numbered_family : (old stamp' number stamp : List ℕ) (c : ℕ) → NumberedTo count family from group old stamp' c
      → FamilyNumbered count family from group c old number stamp → NumberedTo count family from group number stamp (c + 1)
  numbered_family old stamp' number stamp c s r =
      record {
        ready = record { low = r.low; stamps = λ g b. let z = r.stamps g b in omega arith };
        same = λ x y p h q k e f i j g b. go x y p h q k e f i j g b (ℕ_discrete (get_or family x 0) c);
      }
    where
      go : (x y : ℕ) → 0 < x → x < count → 0 < y → y < count → get_or family x 0 ≡ get_or family y 0 → get_or family x 0 < c + 1 → get_or from x 0 < count
          → get_or from y 0 < count → get_or group (get_or from x 0) 0 ≡ get_or group (get_or from y 0) 0 → get_or group (get_or from x 0) 0 < count
          → Dec (get_or family x 0 ≡ c) → get_or number x 0 ≡ get_or number y 0
      go x y p h q k e f i j g b (yes z) = r.same x y p h q k z (sym e ∙ z) i j g b
      go x y p h q k e f i j g b (no m) =
          r.kept x m ∙ s.same x y p h q k e (omega arith) i j g b ∙ sym (r.kept y (λ z. m (e ∙ z)))

  -- no node has the family c
  pub numbered_pass : (number stamp : List ℕ) (c d : ℕ) → d ≡ get_or family c 0 → (d ≡ c → ⊥) → NumberedTo count family from group number stamp c
      → NumberedTo count family from group number stamp (c + 1)
  numbered_pass number stamp c d e n s =
      record {
        ready = record { low = s.ready.low; stamps = λ g b. let z = s.ready.stamps g b in omega arith };
        same = λ x y p h q k w f i j g b. s.same x y p h q k w (smaller x h f (ℕ_discrete (get_or family x 0) c)) i j g b;
      }
    where
      smaller : (x : ℕ) → x < count → get_or family x 0 < c + 1 → Dec (get_or family x 0 ≡ c) → get_or family x 0 < c
      smaller x h f (no m) = omega arith
      smaller x h f (yes z) = absurd (n (e ∙ ap (λ (v : ℕ). get_or family v 0) (sym z) ∙ l.own x h ∙ z))
