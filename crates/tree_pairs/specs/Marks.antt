-- Marks at families: 4 b + i + 1 where key path i reaches a node of the family from b. No mark is ever taken away.
use Rattle.std.specs.Prelude.{ℕ, ◌+◌, ◌*◌, ◌<◌, ◌≤◌, ◌≡◌, true, false, ◌≢◌, List, [], T, length, get_or, set}
use Rattle.std.proofs.Common.{sym, ◌∙◌, ap, subst, true≢false, arith, length-set, get_or-set_same, get_or-set_other}
use Rattle.std.proofs.lemmas.Bool.{false≢true}
use Rattle.std.proofs.Math.Decide.{ℕ_discrete}
use Rattle.meaning.specs.Lists.{every}
use Rattle.meaning.specs.Paths.{Class, simple}
use Rattle.meaning.specs.Trees.{Table, IsTree, Down}
use Rattle.meaning.specs.Keys.{EqualPair}
use Rattle.meaning.specs.Records.{read_key, key_in, is_some}
use Rattle.theory_trees.specs.Agreeing.{pair_below}
use Rattle.theory_trees.specs.Below.{down_inside}
use Rattle.theory_trees.specs.Reach.{reached_run, reached_down}
use Rattle.tree_table.specs.Tells.{Tells}
use Rattle.tree_table.specs.FileTable.{file_table}
use Rattle.tree_table.specs.Links.{LeastChild}
use Rattle.tree_rows.specs.Families.{Families}
use Rattle.tree_rows.specs.Chain.{by_family}
use Rattle.tree_rows.specs.declared.rows.Rows.{Rows}
use Rattle.tree_rows.specs.declared.hung.Hung as lists
use Rattle.tree_rows.specs.Prepared.{Prepared}
use Rattle.tree_rows.specs.Hung.{Hung, HungAll}
use Rattle.tree_pairs.specs.Along.{Along, along_start, along_next}

-- A key of at most four simple key paths, and the lists of the nodes that they reach
pub record Hanging (classes tree : List ℕ) (rows : Rows) (hung : List lists.Hung) (body : List ℕ) : Type 0 where
  pub prepared : Prepared classes tree rows
  pub reads : is_some (read_key body) ≡ true
  pub simples : T (every simple (key_in body).paths)
  pub few : length (key_in body).paths ≤ 4
  pub lists : HungAll (file_table tree) (key_in body).paths hung

-- The path reaches a node of the family from b
pub record Meets (t : Table) (family : List ℕ) (b : ℕ) (path : List ℕ) (c : ℕ) : Type 0 where
  pub node : ℕ
  pub inside : node < t.size
  pub down : Down t b path node
  pub is : get_or family node 0 ≡ c

pub record Marked (t : Table) (family : List ℕ) (paths : List (List ℕ)) (marks : List ℕ) : Type 0 where
  pub long : length marks ≡ 4096
  pub each : (b i c : ℕ) → i < length paths → c < t.size → get_or marks c 0 ≡ 4 * b + i + 1 → Meets t family b (get_or paths i []) c

pub marked_none : (t : Table) (family : List ℕ) (paths : List (List ℕ)) (marks : List ℕ) → length marks ≡ 4096
    → ((c : ℕ) → c < t.size → get_or marks c 0 ≡ 0) → Marked t family paths marks
marked_none t family paths marks l z = record { long = l; each = λ b i c h g e. absurd (let n = z c g in omega arith) }

-- .. and each family that key path i reaches from b is marked
pub record Stamped (t : Table) (family : List ℕ) (paths : List (List ℕ)) (i b : ℕ) (marks : List ℕ) : Type 0 where
  pub marked : Marked t family paths marks
  pub all : (y : ℕ) → 0 < y → y < t.size → Down t b (get_or paths i []) y → get_or marks (get_or family y 0) 0 ≡ 4 * b + i + 1

pub record Unmarked (family marks : List ℕ) (s k : ℕ) : Type 0 where
  pub not : get_or marks (get_or family k 0) 0 ≢ s

pub record IsMarked (family marks : List ℕ) (s k : ℕ) : Type 0 where
  pub is : get_or marks (get_or family k 0) 0 ≡ s

module _ (t : Table) (family : List ℕ) (paths : List (List ℕ)) (few : length paths ≤ 4) (i b s : ℕ) (within : i < length paths)
    (stamp : s ≡ 4 * b + i + 1) where
  pub mark_more : (marks : List ℕ) (k y : ℕ) → k < 4096 → y < t.size → Down t b (get_or paths i []) y → k ≡ get_or family y 0 → Marked t family paths marks
      → Marked t family paths (set marks k s)
  mark_more marks k y h g d e m =
      record { long = length-set marks k s ∙ m.long; each = λ p j c l o q. go p j c l o q (ℕ_discrete c k) }
    where
      go : (p j c : ℕ) → j < length paths → c < t.size → get_or (set marks k s) c 0 ≡ 4 * p + j + 1 → Dec (c ≡ k)
          → Meets t family p (get_or paths j []) c
      go p j c l o q (no n) = m.each p j c l o (sym (get_or-set_other marks k c s 0 n) ∙ q)
      go p j c l o q (yes z) =
          let u = m.long in
          let w = get_or-set_same marks k s 0 (omega arith) in
          let x = sym (ap (λ (n : ℕ). get_or (set marks k s) n 0) z) ∙ q in
          let f : i ≡ j = omega arith in
          let a : b ≡ p = omega arith in
          record {
            node = y;
            inside = g;
            down = subst (λ (n : ℕ). Down t p (get_or paths n []) y) f (subst (λ (n : ℕ). Down t n (get_or paths i []) y) a d);
            is = sym e ∙ sym z;
          }

module _ (t : Table) (path from first next : List ℕ) (lists : Hung t path from first next) where
  -- the list's next link
  pub next_link : (v y r : ℕ) → v < t.size → 0 < y → y < t.size → get_or from y 0 ≡ v → r ≡ get_or next y 0
      → LeastChild (by_family t.size from) v (y + 1) r
  next_link v y r h p g e f =
      subst (LeastChild (by_family t.size from) v (y + 1)) (sym f)
      (subst (λ (u : ℕ). LeastChild (by_family t.size from) u (y + 1) (get_or next y 0)) e (lists.nexts y p g (omega arith)))

  -- where a node hangs it is reached from
  pub hung_down : (v y : ℕ) → v < t.size → t.size ≤ 4096 → 0 < y → y < t.size → get_or from y 0 ≡ v → Down t v (path) y
  hung_down v y h g p q e = subst (λ (u : ℕ). Down t u (path) y) e (lists.above y p q (λ z. omega arith)).1

module _ (t : Table) (family : List ℕ) (paths : List (List ℕ)) (few : length paths ≤ 4) (i b s : ℕ) (within : i < length paths)
    (stamp : s ≡ 4 * b + i + 1) (some : 0 < t.size) (from first next : List ℕ) (lists : Hung t (get_or paths i []) from first next) where
  pub mark_start : (marks : List ℕ) (r : ℕ) → b < t.size → r ≡ get_or first b 0 → Along t.size from (Unmarked family marks s) b r
  mark_start marks r h e =
      along_start t.size from (Unmarked family marks s) b r some (subst (LeastChild (by_family t.size from) b 1) (sym e) (lists.firsts b h))

  pub mark_next : (marks : List ℕ) (k y r : ℕ) → k < 4096 → length marks ≡ 4096 → b < t.size → 0 < y → k ≡ get_or family y 0 → r ≡ get_or next y 0
      → Along t.size from (Unmarked family marks s) b y → Along t.size from (Unmarked family (set marks k s) s) b r
  mark_next marks k y r h l ib p e f a =
      along_next t.size from (Unmarked family marks s) (Unmarked family (set marks k s) s) b y r some a
      (next_link t (get_or paths i []) from first next lists b y r ib p a.inside (a.hangs p) f) (λ u. u.not here)
      (λ j u. record { not = λ z. u.not (still j z (ℕ_discrete (get_or family j 0) k)) })
    where
      put : get_or (set marks k s) k 0 ≡ s
      put = get_or-set_same marks k s 0 (omega arith)

      here : get_or (set marks k s) (get_or family y 0) 0 ≡ s
      here = subst (λ (n : ℕ). get_or (set marks k s) n 0 ≡ s) e put

      still : (j : ℕ) → get_or marks (get_or family j 0) 0 ≡ s → Dec (get_or family j 0 ≡ k) → get_or (set marks k s) (get_or family j 0) 0 ≡ s
      still j z (yes w) = subst (λ (n : ℕ). get_or (set marks k s) n 0 ≡ s) (sym w) put
      still j z (no n) = get_or-set_other marks k (get_or family j 0) s 0 n ∙ z

  pub mark_all : (marks : List ℕ) (y : ℕ) → y ≡ 0 → Marked t family paths marks → Along t.size from (Unmarked family marks s) b y
      → Stamped t family paths i b marks
  mark_all marks y z m a = record { marked = m; all = λ k p h d. go k p h d (ℕ_discrete (get_or marks (get_or family k 0) 0) s) }
    where
      go : (k : ℕ) → 0 < k → k < t.size → Down t b (get_or paths i []) k → Dec (get_or marks (get_or family k 0) 0 ≡ s)
          → get_or marks (get_or family k 0) 0 ≡ 4 * b + i + 1
      go k p h d (yes e) = e ∙ stamp
      go k p h d (no n) =
          absurd (let l = a.later k p h (lists.every k b p h d) (record { not = n }) in let l0 = l.0 in omega arith)

  pub meet_start : (marks : List ℕ) (a r : ℕ) → a < t.size → r ≡ get_or first a 0 → Along t.size from (IsMarked family marks s) a r
  meet_start marks a r h e =
      along_start t.size from (IsMarked family marks s) a r some (subst (LeastChild (by_family t.size from) a 1) (sym e) (lists.firsts a h))

  pub meet_next : (marks : List ℕ) (a x r k m : ℕ) → a < t.size → 0 < x → k ≡ get_or family x 0 → m ≡ get_or marks k 0 → (m ≡ s → ⊥)
      → r ≡ get_or next x 0 → Along t.size from (IsMarked family marks s) a x → Along t.size from (IsMarked family marks s) a r
  meet_next marks a x r k m ia p e f n g w =
      along_next t.size from (IsMarked family marks s) (IsMarked family marks s) a x r some w
      (next_link t (get_or paths i []) from first next lists a x r ia p w.inside (w.hangs p) g)
      (λ u. n (f ∙ ap (λ (j : ℕ). get_or marks j 0) e ∙ u.is)) (λ j u. u)

  module _ (κ : ℕ → Class) (tree : IsTree κ t) (top : t.size ≤ 4096) (families : Families κ t family) (simples : T (simple (get_or paths i [])))
      (a : ℕ) (ia : a < t.size) (ib : b < t.size) where
    pub meet_found : (marks : List ℕ) (x k m : ℕ) → 0 < x → k ≡ get_or family x 0 → m ≡ get_or marks k 0 → m ≡ s → Stamped t family paths i b marks
        → Along t.size from (IsMarked family marks s) a x → Tells (EqualPair κ t a b (get_or paths i [])) true
    meet_found marks x k m p e f g st w =
        let y = st.marked.each b i (get_or family x 0) within (families.inside x w.inside)
        (ap (λ (j : ℕ). get_or marks j 0) (sym e) ∙ sym f ∙ g ∙ stamp) in
        record {
          yes = λ h. record {
            x = x;
            y = y.node;
            from_first = reached_run (hung_down t (get_or paths i []) from first next lists a x ia top p w.inside (w.hangs p));
            from_second = reached_run y.down;
            equal = families.same x y.node w.inside y.inside (sym y.is);
          };
          no = λ h. absurd (true≢false h);
        }

    pub meet_none : (marks : List ℕ) (x : ℕ) → a < b → x ≡ 0 → Stamped t family paths i b marks
        → Along t.size from (IsMarked family marks s) a x → Tells (EqualPair κ t a b (get_or paths i [])) false
    meet_none marks x o z st w = record { yes = λ h. absurd (false≢true h); no = λ h p. never p }
      where
        different : a ≢ b
        different e = omega arith

        never : EqualPair κ t a b (get_or paths i []) → ⊥
        never p =
            let dx = reached_down (get_or paths i []) simples p.from_first in
            let dy = reached_down (get_or paths i []) simples p.from_second in
            let hx = down_inside dx ia in
            let hy = down_inside dy ib in
            let q = pair_below tree a b (get_or paths i []) different p.x p.y dx dy p.equal hx hy in
            let c = families.equal p.x p.y hx hy p.equal in
            let m = ap (λ (j : ℕ). get_or marks j 0) c ∙ st.all p.y q.1 hy dy ∙ sym stamp in
            let l = w.later p.x q.0 hx (lists.every p.x a q.0 hx dx) (record { is = m }) in
            let l0 = l.0 in
            omega arith
