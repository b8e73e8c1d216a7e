-- The nodes that a simple path reaches, but for the root, hung under the node that they are reached from: from is the node above, first and next
-- are links as those of children.
use Rattle.std.specs.Prelude.{ℕ, ◌+◌, ◌<◌, ◌≡◌, List, [], length, get_or}
use Rattle.meaning.specs.Trees.{Table, Down}
use Rattle.tree_table.specs.Links.{LeastChild}
use Rattle.tree_rows.specs.Chain.{by_family}
use Rattle.tree_rows.specs.declared.hung.Hung as lists

pub record Hung (t : Table) (path from first next : List ℕ) : Type 0 where
  pub above : (x : ℕ) → 0 < x → x < t.size → (get_or from x 0 ≡ 4096 → ⊥) → (get_or from x 0 < t.size) × Down t (get_or from x 0) path x
  pub every : (x a : ℕ) → 0 < x → x < t.size → Down t a path x → get_or from x 0 ≡ a
  pub firsts : (a : ℕ) → a < t.size → LeastChild (by_family t.size from) a 1 (get_or first a 0)
  pub nexts : (x : ℕ) → 0 < x → x < t.size → get_or from x 0 < t.size → LeastChild (by_family t.size from) (get_or from x 0) (x + 1) (get_or next x 0)

-- .. as lists hold them
abbrev pub HungIn : Table → List ℕ → lists.Hung → Type 0
HungIn t path hung = Hung t path hung.from hung.first hung.next

-- Of no key path
abbrev pub none_hung : lists.Hung
none_hung = record { from = []; first = []; next = [] }

-- .. for each key path
pub record HungAll (t : Table) (paths : List (List ℕ)) (hung : List lists.Hung) : Type 0 where
  pub each : (i : ℕ) → i < length paths → HungIn t (get_or paths i []) (get_or hung i none_hung)
