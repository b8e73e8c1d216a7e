-- The first node of each family that a path reaches from a node, and with it the first pair: one law for each turn of a loop.
use Rattle.std.specs.Prelude.{ℕ, ◌<◌, ◌≤◌, ◌≡◌, ◌⊎◌, List, T, length, get_or, set}
use Rattle.std.proofs.Common.{sym, ◌∙◌, ap, subst, inl, inr, arith, length-set, get_or-set_same, get_or-set_other}
use Rattle.std.proofs.Math.Decide.{ℕ_discrete}
use Rattle.meaning.specs.Paths.{Class, simple}
use Rattle.meaning.specs.Trees.{Table, IsTree, Down, Reached, Equal}
use Rattle.meaning.specs.Keys.{EqualPair}
use Rattle.theory_trees.specs.Below.{down_inside}
use Rattle.theory_trees.specs.Agreeing.{pair_below}
use Rattle.theory_trees.specs.Reach.{reached_run, reached_down}
use Rattle.theory_trees.specs.Witness.{FirstPair}
use Rattle.tree_table.specs.Links.{LeastChild}
use Rattle.tree_rows.specs.Families.{Families}
use Rattle.tree_rows.specs.Chain.{by_family}
use Rattle.tree_rows.specs.Hung.{Hung}
use Rattle.tree_pairs.specs.Along.{Along, along_start, along_next}
use Rattle.tree_pairs.specs.Marks.{next_link, hung_down}

-- y is the first node of family c that the path reaches from b
pub record FirstOf (t : Table) (family path : List ℕ) (b c y : ℕ) : Type 0 where
  pub inside : y < t.size
  pub down : Down t b path y
  pub is : get_or family y 0 ≡ c
  pub least : (k : ℕ) → 0 < k → k < t.size → Down t b path k → get_or family k 0 ≡ c → y ≤ k

-- What stands at a family is its first node
pub record Put (t : Table) (family path : List ℕ) (b : ℕ) (table : List ℕ) : Type 0 where
  pub long : length table ≡ 4096
  pub each : (c : ℕ) → c < t.size → 0 < get_or table c 0 → FirstOf t family path b c (get_or table c 0)

-- .. and each family that has one has it
pub record Firsts (t : Table) (family path : List ℕ) (b : ℕ) (table : List ℕ) : Type 0 where
  pub put : Put t family path b table
  pub all : (y : ℕ) → 0 < y → y < t.size → Down t b path y → 0 < get_or table (get_or family y 0) 0

-- nothing, or something, stands at the family of k
pub record Bare (family table : List ℕ) (k : ℕ) : Type 0 where
  pub is : get_or table (get_or family k 0) 0 ≡ 0

pub record Holds (family table : List ℕ) (k : ℕ) : Type 0 where
  pub some : 0 < get_or table (get_or family k 0) 0

module _ (t : Table) (family path : List ℕ) (b : ℕ) (some : 0 < t.size) (from first next : List ℕ) (lists : Hung t path from first next) where
  -- the list of v from its front, and behind y
  start : (F : ℕ → Type 0) (v r : ℕ) → v < t.size → r ≡ get_or first v 0 → Along t.size from F v r
  start F v r h e = along_start t.size from F v r some (subst (LeastChild (by_family t.size from) v 1) (sym e) (lists.firsts v h))

  on : (F G : ℕ → Type 0) (v y r : ℕ) → v < t.size → 0 < y → r ≡ get_or next y 0 → Along t.size from F v y → (G y → ⊥)
      → ((k : ℕ) → G k → F k) → Along t.size from G v r
  on F G v y r h p e a miss less =
      along_next t.size from F G v y r some a (next_link t path from first next lists v y r h p a.inside (a.hangs p) e) miss less

  pub put_none : (table : List ℕ) → length table ≡ 4096 → ((k : ℕ) → get_or table k 0 ≡ 0) → Put t family path b table
  put_none table l z = record { long = l; each = λ c h p. absurd (let e = z c in omega arith) }

  pub put_start : (table : List ℕ) (r : ℕ) → b < t.size → r ≡ get_or first b 0 → Along t.size from (Bare family table) b r
  put_start table r h e = start (Bare family table) b r h e

  pub put_all : (table : List ℕ) (y : ℕ) → y ≡ 0 → Put t family path b table → Along t.size from (Bare family table) b y → Firsts t family path b table
  put_all table y z m a = record { put = m; all = λ k p h d. go k p h d (ℕ_discrete (get_or table (get_or family k 0) 0) 0) }
    where
      go : (k : ℕ) → 0 < k → k < t.size → Down t b path k → Dec (get_or table (get_or family k 0) 0 ≡ 0) → 0 < get_or table (get_or family k 0) 0
      go k p h d (yes e) = absurd (let l = a.later k p h (lists.every k b p h d) (record { is = e }) in let l0 = l.0 in omega arith)
      go k p h d (no n) = omega arith

  module _ (table : List ℕ) (y c : ℕ) (is_family : c ≡ get_or family y 0) (inb : b < t.size) (p : 0 < y)
      (a : Along t.size from (Bare family table) b y) where
    -- the family of y has its first node already
    pub put_pass : (m r : ℕ) → m ≡ get_or table c 0 → (m ≡ 0 → ⊥) → r ≡ get_or next y 0 → Along t.size from (Bare family table) b r
    put_pass m r e n f =
        on (Bare family table) (Bare family table) b y r inb p f a (λ u. n (e ∙ ap (λ (j : ℕ). get_or table j 0) is_family ∙ u.is)) (λ k u. u)

    module _ (few : c < 4096) (m : ℕ) (is_memo : m ≡ get_or table c 0) (bare : m ≡ 0) (put : Put t family path b table) where
      stands : get_or (set table c y) c 0 ≡ y
      stands = get_or-set_same table c y 0 (let l = put.long in omega arith)

      -- y is the first node of its family
      pub put_more : t.size ≤ 4096 → Put t family path b (set table c y)
      put_more top = record { long = length-set table c y ∙ put.long; each = λ d h q. go d h q (ℕ_discrete d c) }
        where
          here : FirstOf t family path b c y
          here =
              record {
                inside = a.inside;
                down = hung_down t path from first next lists b y inb top p a.inside (a.hangs p);
                is = sym is_family;
                least = λ k q h d e.
                    (a.later k q h (lists.every k b q h d) (record { is = ap (λ (j : ℕ). get_or table j 0) e ∙ sym is_memo ∙ bare })).1;
              }

          go : (d : ℕ) → d < t.size → 0 < get_or (set table c y) d 0 → Dec (d ≡ c) → FirstOf t family path b d (get_or (set table c y) d 0)
          go d h q (yes z) =
              subst (λ (n : ℕ). FirstOf t family path b n (get_or (set table c y) n 0)) (sym z)
              (subst (FirstOf t family path b c) (sym stands) here)
          go d h q (no n) =
              let e = get_or-set_other table c d y 0 n in
              subst (FirstOf t family path b d) (sym e) (put.each d h (omega arith))

      pub put_next : (r : ℕ) → r ≡ get_or next y 0 → Along t.size from (Bare family (set table c y)) b r
      put_next r f =
          on (Bare family table) (Bare family (set table c y)) b y r inb p f a (λ u. let z = u.is in let s = here in omega arith)
          (λ k u. record { is = still k u.is (ℕ_discrete (get_or family k 0) c) })
        where
          here : get_or (set table c y) (get_or family y 0) 0 ≡ y
          here = subst (λ (n : ℕ). get_or (set table c y) n 0 ≡ y) is_family stands

          still : (k : ℕ) → get_or (set table c y) (get_or family k 0) 0 ≡ 0 → Dec (get_or family k 0 ≡ c) → get_or table (get_or family k 0) 0 ≡ 0
          still k z (yes w) = absurd (let s = subst (λ (n : ℕ). get_or (set table c y) n 0 ≡ y) (sym w) stands in omega arith)
          still k z (no n) = sym (get_or-set_other table c (get_or family k 0) y 0 n) ∙ z

  module _ (table : List ℕ) (firsts : Firsts t family path b table) (a : ℕ) (ia : a < t.size) where
    pub look_start : (r : ℕ) → r ≡ get_or first a 0 → Along t.size from (Holds family table) a r
    look_start r e = start (Holds family table) a r ia e

    pub look_next : (x c y r : ℕ) → 0 < x → c ≡ get_or family x 0 → y ≡ get_or table c 0 → y ≡ 0 → r ≡ get_or next x 0
        → Along t.size from (Holds family table) a x → Along t.size from (Holds family table) a r
    look_next x c y r p e f z g w =
        on (Holds family table) (Holds family table) a x r ia p g w
        (λ u. let s = u.some in let q = f ∙ ap (λ (j : ℕ). get_or table j 0) e in omega arith) (λ k u. u)

    module _ (κ : ℕ → Class) (tree : IsTree κ t) (top : t.size ≤ 4096) (families : Families κ t family) (simples : T (simple path))
        (ordered : a < b) (ib : b < t.size) where
      -- a node of a pair below a has a family at which something stands
      pub record Mated (u v : ℕ) : Type 0 where
        pub not_root : 0 < u
        pub inside : u < t.size
        pub hangs : get_or from u 0 ≡ a
        pub holds : Holds family table u
        pub other : (0 < v) × (v < t.size)
        pub down : Down t b path v
        pub same : get_or family v 0 ≡ get_or family u 0

      mated : (u v : ℕ) → Reached t a path u → Reached t b path v → Equal κ t u v → Mated u v
      mated u v r s e =
          let du = reached_down path simples r in
          let dv = reached_down path simples s in
          let hu = down_inside du ia in
          let hv = down_inside dv ib in
          let q = pair_below tree a b path (λ z. omega arith) u v du dv e hu hv in
          let c = families.equal u v hu hv e in
          record {
            not_root = q.0;
            inside = hu;
            hangs = lists.every u a q.0 hu du;
            holds = record { some = subst (λ (n : ℕ). 0 < get_or table n 0) (sym c) (firsts.all v q.1 hv dv) };
            other = (q.1, hv);
            down = dv;
            same = sym c;
          }

      pub look_found : (x c y : ℕ) → 0 < x → c ≡ get_or family x 0 → y ≡ get_or table c 0 → 0 < y → Along t.size from (Holds family table) a x
          → FirstPair κ t a b path x y
      look_found x c y p e f q w =
          record {
            from_first = reached_run (hung_down t path from first next lists a x ia top p w.inside (w.hangs p));
            from_second = reached_run own.down;
            equal = families.same x y w.inside own.inside (sym own.is);
            least = λ u v r s k. go u v (mated u v r s k) (ℕ_discrete x u);
          }
        where
          own : FirstOf t family path b (get_or family x 0) y
          own =
              let g = f ∙ ap (λ (j : ℕ). get_or table j 0) e in
              subst (FirstOf t family path b (get_or family x 0)) (sym g)
              (firsts.put.each (get_or family x 0) (families.inside x w.inside) (omega arith))

          go : (u v : ℕ) → Mated u v → Dec (x ≡ u) → (x < u) ⊎ ((x ≡ u) × (y ≤ v))
          go u v m (yes z) =
              inr (z, own.least v m.other.0 m.other.1 m.down (m.same ∙ ap (λ (j : ℕ). get_or family j 0) (sym z)))
          go u v m (no n) = inl (let l = (w.later u m.not_root m.inside m.hangs m.holds).1 in omega arith)

      pub look_none : (x : ℕ) → x ≡ 0 → EqualPair κ t a b path → Along t.size from (Holds family table) a x → ⊥
      look_none x e p w =
          let m = mated p.x p.y p.from_first p.from_second p.equal in
          let l = w.later p.x m.not_root m.inside m.hangs m.holds in
          let l0 = l.0 in
          omega arith
