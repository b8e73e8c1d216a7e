-- The least mate of a target: the nodes that the pivot reaches from it, and along the chain of each one's number the nodes of other targets.
use Rattle.std.specs.Prelude.{ℕ, zero, suc, ◌+◌, ◌<◌, ◌≤◌, ◌≡◌, ◌≢◌, Bool, true, false, List, [], T, length, get_or, set}
use Rattle.std.proofs.Common.{sym, ◌∙◌, ap, arith, length-set, get_or-set_same, get_or-set_other}
use Rattle.std.proofs.Math.Path.{subst}
use Rattle.std.proofs.lemmas.Bool.{false≢true}
use Rattle.std.proofs.Math.Decide.{ℕ_discrete, dec_lt}
use Rattle.meaning.specs.Lists.{Each}
use Rattle.meaning.specs.Paths.{Class, simple}
use Rattle.meaning.specs.Trees.{Table, IsTree, Down, Reached}
use Rattle.meaning.specs.Keys.{Key, EqualPair}
use Rattle.theory_trees.specs.Below.{tree_smaller}
use Rattle.tree_table.specs.Tells.{Tells}
use Rattle.tree_table.specs.Links.{LeastChild, Linked}
use Rattle.tree_rows.specs.Families.{Families}
use Rattle.tree_rows.specs.Chain.{by_family, NextIn, next_in}
use Rattle.tree_contexts.specs.Tops.{Tops, tops_at, tops_equal}
use Rattle.tree_rows.specs.Hung.{Hung}
use Rattle.theory_trees.specs.Agreeing.{Agreeing}
use Rattle.tree_sorted.specs.Groups.{Grouped, Numbered, ends, ends_number}
use Rattle.tree_sorted.specs.Hung.{Listed, listed_first, listed_next}
use Rattle.tree_search.specs.Best.{MateIs}

-- What one comparison says: b is a mate of a below the least so far; or if it is a mate, it is no less
pub record MateTest (κ : ℕ → Class) (t : Table) (key : Key) (tops : List ℕ) (a b least : ℕ) (r : Bool) : Type 0 where
  pub ordered : r ≡ true → a < b
  pub lower : r ≡ true → b < least
  pub agrees : r ≡ true → Agreeing κ t key (get_or tops a 0) a b
  pub no : r ≡ false → (q : ℕ) → a < b → Agreeing κ t key q a b → least ≤ b

module _ (κ : ℕ → Class) (t : Table) (key : Key) (tops : List ℕ) (a b least : ℕ) where
  test_not : ((q : ℕ) → a < b → Agreeing κ t key q a b → least ≤ b) → MateTest κ t key tops a b least false
  test_not h =
      record { ordered = λ e. absurd (false≢true e); lower = λ e. absurd (false≢true e); agrees = λ e. absurd (false≢true e); no = λ e. h }

  pub test_before : b ≤ a → MateTest κ t key tops a b least false
  test_before h = test_not (λ q o g. absurd (omega arith))

  pub test_later : least ≤ b → MateTest κ t key tops a b least false
  test_later h = test_not (λ q o g. h)

  module _ (tree : IsTree κ t) (few : t.size ≤ 4096) (highest : Tops t key.context key.target tops) (ia : a < t.size)
      (ib : b < t.size) where
    pub test_apart : (x y : ℕ) → x ≡ get_or tops a 0 → y ≡ get_or tops b 0 → (x ≡ y → ⊥) → MateTest κ t key tops a b least false
    test_apart x y e f n =
        test_not (λ q o g. absurd (n (e
        ∙ tops_equal (tree_smaller tree) tree.some few (tops_at t key.context key.target tops highest a ia)
        (tops_at t key.context key.target tops highest b ib) g.context g.first g.second
        ∙ sym f)))

    pub test_pairs : (x y : ℕ) (r : Bool) → x ≡ get_or tops a 0 → y ≡ get_or tops b 0 → x ≡ y → get_or tops a 0 < 4096 → a < b → b < least
        → Tells (Each (EqualPair κ t a b) key.paths) r → MateTest κ t key tops a b least r
    test_pairs x y r e f g h o l d =
        let u = tops_at t key.context key.target tops highest a ia in
        let v = tops_at t key.context key.target tops highest b ib in
        let s : get_or tops a 0 ≡ get_or tops b 0 = sym e ∙ g ∙ f in
        record {
          ordered = λ z. o;
          lower = λ z. l;
          agrees = λ z.
              record {
                context = u.above h;
                first = u.reached h;
                second = subst (λ (p : ℕ). Reached t p key.target b) (sym s) (v.reached (omega arith));
                pairs = d.yes z;
              };
          no = λ z q k w. absurd (d.no z w.pairs);
        }

-- The least so far is a mate, or none was found
pub record LeastSo (κ : ℕ → Class) (t : Table) (key : Key) (tops : List ℕ) (a least : ℕ) : Type 0 where
  pub bound : least ≤ 4096
  pub ordered : least < 4096 → a < least
  pub agrees : least < 4096 → Agreeing κ t key (get_or tops a 0) a least

-- A mate c of a that has a node of number f
pub record MateVia (κ : ℕ → Class) (t : Table) (key : Key) (from number : List ℕ) (a f c : ℕ) : Type 0 where
  pub y : ℕ
  pub q : ℕ
  pub positive : 0 < y
  pub inside : y < t.size
  pub is : get_or number y 0 ≡ f
  pub above : get_or from y 0 ≡ c
  pub later : a < c
  pub agreeing : Agreeing κ t key q a c

-- All nodes of number f were looked at
pub record Looked (κ : ℕ → Class) (t : Table) (key : Key) (from number : List ℕ) (a least f : ℕ) : Type 0 where
  pub all : (c : ℕ) → MateVia κ t key from number a f c → least ≤ c

pub looked_less : {κ : ℕ → Class} {t : Table} {key : Key} {from number : List ℕ} {a least less f : ℕ} → less ≤ least
    → Looked κ t key from number a least f → Looked κ t key from number a less f
looked_less h l = record { all = λ c m. let k = l.all c m in omega arith }

-- A number that holds the target and one more was looked at
pub record Seen (κ : ℕ → Class) (t : Table) (key : Key) (from number : List ℕ) (a least : ℕ) (seen : List ℕ) : Type 0 where
  pub long : length seen ≡ 4096
  pub low : (f : ℕ) → f < t.size → get_or seen f 0 ≤ a + 1
  pub looked : (f : ℕ) → f < t.size → get_or seen f 0 ≡ a + 1 → Looked κ t key from number a least f

-- Before a
pub record Lower (t : Table) (seen : List ℕ) (a : ℕ) : Type 0 where
  pub long : length seen ≡ 4096
  pub low : (f : ℕ) → f < t.size → get_or seen f 0 ≤ a

module _ (κ : ℕ → Class) (t : Table) (key : Key) (from number : List ℕ) (a : ℕ) where
  pub seen_start : (least : ℕ) (seen : List ℕ) → Lower t seen a → Seen κ t key from number a least seen
  seen_start least seen l =
      record {
        long = l.long;
        low = λ f h. let g = l.low f h in omega arith;
        looked = λ f h e. absurd (let g = l.low f h in omega arith);
      }

  pub seen_end : (least : ℕ) (seen : List ℕ) → Seen κ t key from number a least seen → Lower t seen (a + 1)
  seen_end least seen s = record { long = s.long; low = s.low }

  seen_more : (least less f : ℕ) (seen : List ℕ) → f < 4096 → less ≤ least → Looked κ t key from number a less f
      → Seen κ t key from number a least seen → Seen κ t key from number a less (set seen f (a + 1))
  seen_more least less f seen h g l s =
      record {
        long = length-set seen f (a + 1) ∙ s.long;
        low = λ k b. low k b (ℕ_discrete k f);
        looked = λ k b e. looked k b e (ℕ_discrete k f);
      }
    where
      put : get_or (set seen f (a + 1)) f 0 ≡ a + 1
      put = get_or-set_same seen f (a + 1) 0 (let n = s.long in omega arith)

      low : (k : ℕ) → k < t.size → Dec (k ≡ f) → get_or (set seen f (a + 1)) k 0 ≤ a + 1
      low k b (yes z) = let e = ap (λ (n : ℕ). get_or (set seen f (a + 1)) n 0) z ∙ put in omega arith
      low k b (no n) = let e = get_or-set_other seen f k (a + 1) 0 n in let o = s.low k b in omega arith

      looked : (k : ℕ) → k < t.size → get_or (set seen f (a + 1)) k 0 ≡ a + 1 → Dec (k ≡ f) → Looked κ t key from number a less k
      looked k b e (yes z) = subst (Looked κ t key from number a less) (sym z) l
      looked k b e (no n) = looked_less g (s.looked k b (sym (get_or-set_other seen f k (a + 1) 0 n) ∙ e))

  -- .. in what is remembered, which stood as before
  pub seen_put : (least less f : ℕ) (old seen : List ℕ) → f < 4096 → less ≤ least → Looked κ t key from number a less f → seen ≡ old
      → Seen κ t key from number a least old → Seen κ t key from number a less (set seen f (a + 1))
  seen_put least less f old seen h g l e s = seen_more least less f seen h g l (subst (Seen κ t key from number a least) (sym e) s)

-- At node y of the chain of number f; 0 behind its end
pub record Chasing (κ : ℕ → Class) (t : Table) (key : Key) (tops from number : List ℕ) (a f start least y : ℕ) : Type 0 where
  pub inside : y < t.size
  pub member : 0 < y → get_or number y 0 ≡ f
  pub so : LeastSo κ t key tops a least
  pub less : least ≤ start
  pub passed : (c : ℕ) (m : MateVia κ t key from number a f c) → (0 < y → m.y < y) → least ≤ c

module _ (κ : ℕ → Class) (t : Table) (key : Key) (tops from number lead chain : List ℕ) (links : Linked (by_family t.size number) lead chain)
    (some : 0 < t.size) (a f start : ℕ) where
  pub chasing_start : (y : ℕ) → f < t.size → y ≡ get_or lead f 0 → LeastSo κ t key tops a start
      → Chasing κ t key tops from number a f start start y
  unfolding by_family
  chasing_start y h e s =
      record {
        inside = within y l;
        member = λ p. (l.child p).0.below;
        so = s;
        less = omega arith;
        passed = λ c m n. absurd
            (let k = l.skipped m.y (let p = m.positive in omega arith)
            (record { not_root = m.positive; inside = m.inside; below = m.is }) in
            let k1 = k.1 in
            let o = n k.0 in
            omega arith);
      }
    where
      l : LeastChild (by_family t.size number) f 1 y
      l = subst (LeastChild (by_family t.size number) f 1) (sym e) (links.firsts.link f h)

      within : (y : ℕ) → LeastChild (by_family t.size number) f 1 y → y < t.size
      within zero l = some
      within (suc y) l = (l.child (omega arith)).0.inside

  module _ (least y : ℕ) (positive : 0 < y) (w : Chasing κ t key tops from number a f start least y) (b : ℕ) (is : b ≡ get_or from y 0) (r : Bool)
      (test : MateTest κ t key tops a b least r) (next : ℕ) (link : next ≡ get_or chain y 0) where
    n : NextIn t.size number y next
    n = next_in t.size number chain links.nexts y next positive w.inside link

    -- a passed mate's node is y, or was passed before
    earlier : (c : ℕ) (m : MateVia κ t key from number a f c) → (0 < next → m.y < next) → (m.y ≡ y → ⊥) → 0 < y → m.y < y
    earlier c m k d p = go (dec_lt m.y y)
      where
        go : Dec (m.y < y) → m.y < y
        go (yes h) = h
        go (no h) =
            let g = n.least m.y (omega arith) m.inside (m.is ∙ sym (w.member positive)) in
            let g1 = g.1 in
            let o = k g.0 in
            absurd (omega arith)

    pub chasing_pass : r ≡ false → Chasing κ t key tops from number a f start least next
    chasing_pass e =
        record {
          inside = n.inside;
          member = λ p. (n.member p).1 ∙ w.member positive;
          so = w.so;
          less = w.less;
          passed = λ c m k. go c m k (ℕ_discrete m.y y);
        }
      where
        go : (c : ℕ) (m : MateVia κ t key from number a f c) → (0 < next → m.y < next) → Dec (m.y ≡ y) → least ≤ c
        go c m k (no d) = w.passed c m (earlier c m k d)
        go c m k (yes d) =
            let z : c ≡ b = sym m.above ∙ ap (λ (v : ℕ). get_or from v 0) d ∙ sym is in
            let o = m.later in
            let l = test.no e m.q (omega arith) (subst (Agreeing κ t key m.q a) z m.agreeing) in
            omega arith

    pub chasing_take : r ≡ true → Chasing κ t key tops from number a f start b next
    chasing_take e =
        let l = test.lower e in
        let s = w.less in
        let u = w.so.bound in
        record {
          inside = n.inside;
          member = λ p. (n.member p).1 ∙ w.member positive;
          so = record { bound = omega arith; ordered = λ h. test.ordered e; agrees = λ h. test.agrees e };
          less = omega arith;
          passed = λ c m k. go c m k (ℕ_discrete m.y y);
        }
      where
        go : (c : ℕ) (m : MateVia κ t key from number a f c) → (0 < next → m.y < next) → Dec (m.y ≡ y) → b ≤ c
        go c m k (no d) = let l = test.lower e in let p = w.passed c m (earlier c m k d) in omega arith
        go c m k (yes d) =
            let z : c ≡ b = sym m.above ∙ ap (λ (v : ℕ). get_or from v 0) d ∙ sym is in
            omega arith

  pub chasing_end : (least y : ℕ) → y ≡ 0 → Chasing κ t key tops from number a f start least y → Looked κ t key from number a least f
  chasing_end least y z w = record { all = λ c m. w.passed c m (λ p. absurd (omega arith)) }

-- At node x of the list of a: the numbers of the nodes before it were looked at
pub record Mating (κ : ℕ → Class) (t : Table) (key : Key) (path tops from number : List ℕ) (a least x : ℕ) : Type 0 where
  pub inside : x < t.size
  pub down : 0 < x → Down t a path x
  pub so : LeastSo κ t key tops a least
  pub passed : (z : ℕ) → 0 < z → z < t.size → Down t a path z → (0 < x → z < x) → Looked κ t key from number a least (get_or number z 0)

module _ (κ : ℕ → Class) (t : Table) (key : Key) (path tops from first next number : List ℕ) (few : t.size ≤ 4096) (some : 0 < t.size)
    (h : Hung t path from first next) (a : ℕ) (ia : a < t.size) where
  pub mating_start : (x : ℕ) → x ≡ get_or first a 0 → Mating κ t key path tops from number a 4096 x
  mating_start x e =
      let l = listed_first t path from first next few some h a x ia e in
      record {
        inside = l.inside;
        down = l.down;
        so = record { bound = omega arith; ordered = λ g. absurd (omega arith); agrees = λ g. absurd (omega arith) };
        passed = λ z p i d k. absurd (let m = l.least z (omega arith) p i d in let m1 = m.1 in let o = k m.0 in omega arith);
      }

  pub mating_next : (least less x y : ℕ) → 0 < x → Mating κ t key path tops from number a least x → LeastSo κ t key tops a less → less ≤ least
      → Looked κ t key from number a less (get_or number x 0) → y ≡ get_or next x 0 → Mating κ t key path tops from number a less y
  mating_next least less x y p w s g k e =
      let l = listed_next t path from first next few some h a x y ia p w.inside (w.down p) e in
      record { inside = l.inside; down = l.down; so = s; passed = λ z q i d o. go l z q i d o (ℕ_discrete z x) (dec_lt z x) }
    where
      go : Listed t path a (x + 1) y → (z : ℕ) → 0 < z → z < t.size → Down t a path z → (0 < y → z < y) → Dec (z ≡ x) → Dec (z < x)
          → Looked κ t key from number a less (get_or number z 0)
      go l z q i d o (yes c) b = subst (λ (v : ℕ). Looked κ t key from number a less (get_or number v 0)) (sym c) k
      go l z q i d o (no c) (yes b) = looked_less g (w.passed z q i d (λ r. b))
      go l z q i d o (no c) (no b) =
          absurd (let m = l.least z (omega arith) q i d in let m1 = m.1 in let j = o m.0 in omega arith)

-- all nodes of the pivot below a were looked at
pub mating_end : (κ : ℕ → Class) (t : Table) (key : Key) (tops family group from first next number : List ℕ) (pivot : ℕ) → IsTree κ t
    → pivot < length key.paths → T (simple (get_or key.paths pivot [])) → Families κ t family → Grouped κ t key group
    → Numbered t family group (get_or key.paths pivot []) number → Hung t (get_or key.paths pivot []) from first next → (a least x : ℕ) → x ≡ 0
    → Mating κ t key (get_or key.paths pivot []) tops from number a least x → MateIs κ t key tops a least
mating_end κ t key tops family group from first next number pivot tree within simple families grouped numbered h a least x z w =
    record { ordered = w.so.ordered; agrees = w.so.agrees; least = λ q c o g. go q c o g }
  where
    go : (q c : ℕ) → a < c → Agreeing κ t key q a c → least ≤ c
    go q c o g =
        let d : a ≢ c = λ e. absurd (omega arith) in
        let e = ends κ t key tree pivot within simple q a c g d in
        let n = ends_number κ t key tree pivot within simple family group number families grouped numbered q a c g d e in
        (w.passed e.x e.positive e.inside e.below (λ p. absurd (omega arith))).all c
        (record {
          y = e.y;
          q = q;
          positive = e.positive';
          inside = e.inside';
          is = sym n;
          above = h.every e.y c e.positive' e.inside' e.across;
          later = o;
          agreeing = g;
        })

pub lower_more : (t : Table) (seen : List ℕ) (a : ℕ) → Lower t seen a → Lower t seen (a + 1)
lower_more t seen a l = record { long = l.long; low = λ f h. let g = l.low f h in omega arith }

pub lower_none : (t : Table) (seen : List ℕ) (n : ℕ) → n ≡ t.size → length seen ≡ 4096 → ((v : ℕ) → v < n → get_or seen v 0 ≡ 0) → Lower t seen 0
lower_none t seen n e l z = record { long = l; low = λ f h. let g = z f (omega arith) in omega arith }
