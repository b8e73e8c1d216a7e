-- Groups of targets: a filter that never parts two targets that agree. Numbers of nodes: the same for the nodes of one path.
use Rattle.std.specs.Prelude.{ℕ, ◌<◌, ◌≤◌, ◌≡◌, refl, ◌≢◌, List, [], T, length, get_or}
use Rattle.std.proofs.Common.{sym, ◌∙◌, ap, subst, arith}
use Rattle.std.proofs.Math.Decide.{ℕ_discrete}
use Rattle.meaning.specs.Paths.{Class, simple}
use Rattle.meaning.specs.Trees.{Table, IsTree, Down, Equal}
use Rattle.meaning.specs.Keys.{Key}
use Rattle.theory_trees.specs.Below.{ParentsSmaller, rigid_node, down_inside, down_greater}
use Rattle.theory_trees.specs.Laws.{equal_label, equal_symmetric}
use Rattle.theory_trees.specs.Reach.{reached_inside, reached_down}
use Rattle.tree_rows.specs.Families.{Families}
use Rattle.tree_rows.specs.Hung.{Hung}
use Rattle.tree_pairs.specs.Pairs.{each_one}
use Rattle.theory_trees.specs.Agreeing.{Agreeing}
use Rattle.tree_sorted.specs.Numbers.{NumberedTo}

-- Two different targets that agree below one context stand in one group; what is no node is no group
pub record Grouped (κ : ℕ → Class) (t : Table) (key : Key) (group : List ℕ) : Type 0 where
  pub together : (q a b : ℕ) → Agreeing κ t key q a b → a ≢ b → get_or group a 0 ≡ get_or group b 0
  pub some : (q a b : ℕ) → Agreeing κ t key q a b → a ≢ b → get_or group a 0 < t.size

-- Nodes of one family that the path reaches from targets of one group have one number
pub record Numbered (t : Table) (family group path number : List ℕ) : Type 0 where
  pub low : (x : ℕ) → x < t.size → get_or number x 0 ≤ x
  pub same : (x y a b : ℕ) → 0 < x → x < t.size → 0 < y → y < t.size → Down t a path x → Down t b path y
      → get_or family x 0 ≡ get_or family y 0 → get_or group a 0 ≡ get_or group b 0 → get_or group a 0 < t.size → get_or number x 0 ≡ get_or number y 0

-- Each target has the number of each node that the path reaches from it: so it has one number only
pub record Adopted (t : Table) (group path number fresh : List ℕ) : Type 0 where
  pub each : (x a : ℕ) → 0 < x → x < t.size → Down t a path x → get_or group a 0 < t.size → get_or fresh a 0 ≡ get_or number x 0

-- What two targets that agree have at the ends of one key path
pub record Ends (κ : ℕ → Class) (t : Table) (a b : ℕ) (path : List ℕ) : Type 0 where
  pub x : ℕ
  pub y : ℕ
  pub below : Down t a path x
  pub across : Down t b path y
  pub equal : Equal κ t x y
  pub positive : 0 < x
  pub positive' : 0 < y
  pub inside : x < t.size
  pub inside' : y < t.size

module _ (κ : ℕ → Class) (t : Table) (key : Key) (tree : IsTree κ t) (i : ℕ) (within : i < length key.paths)
    (simples : T (simple (get_or key.paths i []))) where
  pub ends : (q a b : ℕ) → Agreeing κ t key q a b → a ≢ b → Ends κ t a b (get_or key.paths i [])
  ends q a b g d =
      let p = each_one g.pairs i within in
      let iq = reached_inside g.context tree.some in
      let ia = reached_inside g.first iq in
      let ib = reached_inside g.second iq in
      let dx = reached_down (get_or key.paths i []) simples p.from_first in
      let dy = reached_down (get_or key.paths i []) simples p.from_second in
      record {
        x = p.x;
        y = p.y;
        below = dx;
        across = dy;
        equal = p.equal;
        positive = above p.x p.y dx dy p.equal (down_inside dy ib) (ℕ_discrete p.x 0) (ℕ_discrete p.y 0);
        positive' = above' p.x p.y dx dy p.equal (down_inside dx ia) (ℕ_discrete p.x 0) (ℕ_discrete p.y 0);
        inside = down_inside dx ia;
        inside' = down_inside dy ib;
      }
    where
      path : List ℕ
      path = get_or key.paths i []

      -- the root alone has its label, and two different targets do not share a node of one key path
      alone : (x y : ℕ) → x ≡ 0 → 0 < y → y < t.size → Equal κ t x y → ⊥
      alone x y z p h e = (tree.rest y p h).not_root (sym (equal_label e) ∙ ap (λ (k : ℕ). t.label k) z ∙ tree.root)

      above : (x y : ℕ) → Down t a path x → Down t b path y → Equal κ t x y → y < t.size → Dec (x ≡ 0) → Dec (y ≡ 0) → 0 < x
      above x y dx dy e h (no n) c = omega arith
      above x y dx dy e h (yes z) (yes w) = absurd (d (rigid_node (subst (Down t a path) (z ∙ sym w) dx) dy refl))
      above x y dx dy e h (yes z) (no m) = absurd (alone x y z (omega arith) h e)

      above' : (x y : ℕ) → Down t a path x → Down t b path y → Equal κ t x y → x < t.size → Dec (x ≡ 0) → Dec (y ≡ 0) → 0 < y
      above' x y dx dy e h c (no n) = omega arith
      above' x y dx dy e h (yes z) (yes w) = absurd (d (rigid_node (subst (Down t a path) (z ∙ sym w) dx) dy refl))
      above' x y dx dy e h (no m) (yes w) = absurd (alone y x w (omega arith) h (equal_symmetric e))

  -- the numbers of the ends are the same
  pub ends_number : (family group number : List ℕ) → Families κ t family → Grouped κ t key group
      → Numbered t family group (get_or key.paths i []) number → (q a b : ℕ) → (g : Agreeing κ t key q a b) (d : a ≢ b) (e : Ends κ t a b (get_or key.paths i []))
      → get_or number e.x 0 ≡ get_or number e.y 0
  ends_number family group number families grouped numbered q a b g d e =
      numbered.same e.x e.y a b e.positive e.inside e.positive' e.inside' e.below e.across
      (families.equal e.x e.y e.inside e.inside' e.equal) (grouped.together q a b g d) (grouped.some q a b g d)

  -- a path that reaches one node from each target refines the groups
  pub adopt_grouped : (family group number fresh : List ℕ) → Families κ t family → Grouped κ t key group
      → Numbered t family group (get_or key.paths i []) number → Adopted t group (get_or key.paths i []) number fresh → Grouped κ t key fresh
  adopt_grouped family group number fresh families grouped numbered adopted =
      record { together = λ q a b g d. same q a b g d (ends q a b g d); some = λ q a b g d. has q a b g d (ends q a b g d) }
    where
      same : (q a b : ℕ) (g : Agreeing κ t key q a b) (d : a ≢ b) → Ends κ t a b (get_or key.paths i []) → get_or fresh a 0 ≡ get_or fresh b 0
      same q a b g d e =
          let s = grouped.some q a b g d in
          let z = grouped.together q a b g d in
          adopted.each e.x a e.positive e.inside e.below s
          ∙ ends_number family group number families grouped numbered q a b g d e
          ∙ sym (adopted.each e.y b e.positive' e.inside' e.across (omega arith))

      has : (q a b : ℕ) (g : Agreeing κ t key q a b) (d : a ≢ b) → Ends κ t a b (get_or key.paths i []) → get_or fresh a 0 < t.size
      has q a b g d e =
          let n = adopted.each e.x a e.positive e.inside e.below (grouped.some q a b g d) in
          let l = numbered.low e.x e.inside in
          let h = e.inside in
          omega arith

-- the numbers by the lists of the path
pub numbered_path : (t : Table) (family group path from first next number stamp : List ℕ) → ParentsSmaller t → t.size ≤ 4096
    → ((x : ℕ) → x < t.size → get_or family x 0 < t.size) → Hung t path from first next
    → NumberedTo t.size family from group number stamp t.size → Numbered t family group path number
numbered_path t family group path from first next number stamp small few inside h n =
    record { low = n.ready.low; same = λ x y a b p ix q iy dx dy e g i. go x y a b p ix q iy dx dy e g i }
  where
    go : (x y a b : ℕ) → 0 < x → x < t.size → 0 < y → y < t.size → Down t a path x → Down t b path y → get_or family x 0 ≡ get_or family y 0
        → get_or group a 0 ≡ get_or group b 0 → get_or group a 0 < t.size → get_or number x 0 ≡ get_or number y 0
    go x y a b p ix q iy dx dy e g i =
        let ex = h.every x a p ix dx in
        let ey = h.every y b q iy dy in
        let gx = down_greater small dx in
        let gy = down_greater small dy in
        let fx = ap (λ (v : ℕ). get_or group v 0) ex in
        let fy = ap (λ (v : ℕ). get_or group v 0) ey in
        n.same x y p ix q iy e (inside x ix) (omega arith) (omega arith) (fx ∙ g ∙ sym fy) (omega arith)
