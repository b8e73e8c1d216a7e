-- The pattern of a question, its steps and the tree that is written: document 01, "The counterexample that is written".
use Rattle.std.specs.Prelude.{ℕ, suc, ◌+◌, ◌-◌, ◌≤◌, ◌<◌, ◌≡◌, Bool, false, cond, T, leb, ltb, eqb, length, get_or, take}
use mathlib.Core.List.{List, [], ◌∷◌, ◌++◌, map, flatten, Memᴰ}
use Rattle.meaning.specs.Limits.{filler_element, filler_attribute, root_label, no_number, wide_kind}
use Rattle.meaning.specs.Lists.{Each, any, is_empty, numbers}
use Rattle.meaning.specs.Paths.{Class, is_element}
use Rattle.meaning.specs.Trees.{Table, Node, no_node, table_of, Child, Reached}
use Rattle.meaning.specs.Keys.{Key}
use Rattle.meaning.specs.Records.{node_bytes}

-- "each any-path drawn as one filler element"
unfoldable pub drawn : ℕ → ℕ
drawn s = cond (eqb s 0) filler_element s

-- A run of nodes below `above`, one under the other, of which the first has the number `n`
unfoldable pub run : ℕ → ℕ → List ℕ → List Node
run above n [] = []
run above n (s ∷ p) = record { parent = above; label = drawn s; value = 0 } ∷ run n (suc n) p

-- "from t one separate branch for each key path, in order"
unfoldable pub branches : ℕ → ℕ → List (List ℕ) → List Node
branches t n [] = []
branches t n (p ∷ ps) = run t n p ++ branches t (n + length p) ps

-- the numbers of q and t: "from the root along C to q, on along T to t"
unfoldable pub q_of : Key → ℕ
q_of key = length key.context

unfoldable pub t_of : Key → ℕ
t_of key = length key.context + length key.target

-- "Draw the pattern of the asked key (C, (T, S))", in order: downwards, branch after branch
unfoldable pub pattern_nodes : Key → List Node
pattern_nodes key =
    record { parent = no_number; label = root_label; value = 0 }
    ∷ (run 0 1 (key.context ++ key.target) ++ branches (t_of key) (suc (t_of key)) key.paths)

unfoldable pub pattern : Key → Table
pattern key = table_of (pattern_nodes key)

-- "the ends of the branches": a branch whose first node has the number n; the empty path's ends at t
unfoldable pub ends : ℕ → ℕ → List (List ℕ) → List ℕ
ends t n [] = []
ends t n (p ∷ ps) = cond (is_empty p) t (n + length p - 1) ∷ ends t (n + length p) ps

-- "Marked are the ends of the branches; if S holds the empty path, t and everything below it."
unfoldable pub marked : Key → ℕ → Bool
marked key x =
    cond (any is_empty key.paths) (leb (t_of key) x) (any (eqb x) (ends (t_of key) (suc (t_of key)) key.paths))

-- a key path reaches a marked node from x
pub record Lands (asked : Key) (x : ℕ) (path : List ℕ) : Type 0 where
  pub mark : ℕ
  pub is_marked : T (marked asked mark)
  pub reached : Reached (pattern asked) x path mark

-- "Pattern nodes may step to their children. A profile key also lets w' step to w where w is reached by its context, w' from w by its
-- target, and from w' each key path reaches a marked node." In edition 2 "an attribute node may step to its parent"
pub data Step (single : ℕ → Bool) (keys : List Key) (asked : Key) (x y : ℕ) : Type 0 where
  to_child : Child (pattern asked) x y → Step single keys asked x y
  to_parent : T (single ((pattern asked).label x)) → Child (pattern asked) y x → Step single keys asked x y
  by_key : (k : Key) → Memᴰ k keys → Reached (pattern asked) 0 k.context y → Reached (pattern asked) y k.target x
      → Each (Lands asked x) k.paths → Step single keys asked x y

-- "these steps lead from t to q"
pub data Leads (single : ℕ → Bool) (keys : List Key) (asked : Key) : ℕ → ℕ → Type 0 where
  arrived : {x z : ℕ} → x ≡ z → Leads single keys asked x z
  onward : {x z : ℕ} (y : ℕ) → Step single keys asked x y → Leads single keys asked y z → Leads single keys asked x z

-- "u is the lowest node from q to t that still leads to q"
pub record IsU (single : ℕ → Bool) (keys : List Key) (asked : Key) (u : ℕ) : Type 0 where
  pub from_q : q_of asked ≤ u
  pub to_t : u ≤ t_of asked
  pub leads : Leads single keys asked u (q_of asked)
  pub lowest : (v : ℕ) → u < v → v ≤ t_of asked → Leads single keys asked v (q_of asked) → ⊥

-- A node of the tree before values are given: where the pattern's nodes stand once "each element is followed at once by a filler attribute"
pub record Dressed : Type 0 where
  pub parent : ℕ
  pub label : ℕ
  pub mark : Bool

-- The width of a run of nodes: two for each element, which its filler follows, one for each attribute or text
unfoldable pub widths : (ℕ → Class) → List Node → ℕ
widths κ [] = 0
widths κ (n ∷ nodes) = cond (is_element (κ n.label)) 2 1 + widths κ nodes

module _ (κ : ℕ → Class) (asked : Key) where
  -- the place of pattern node x
  unfoldable pub place_of : ℕ → ℕ
  place_of x = widths κ (take x (pattern_nodes asked))

  unfoldable pub filler : ℕ → Dressed
  filler x = record { parent = place_of x; label = filler_attribute; mark = marked asked x }

  unfoldable pub dressed_node : ℕ → Dressed
  dressed_node x =
      let n = get_or (pattern_nodes asked) x no_node in
      record { parent = place_of n.parent; label = n.label; mark = marked asked x }

  unfoldable pub dressed : ℕ → List Dressed
  dressed x =
      cond (is_element (κ (dressed_node x).label)) (dressed_node x ∷ filler x ∷ []) (dressed_node x ∷ [])

  unfoldable pub dressed_nodes : List Dressed
  dressed_nodes = flatten (map dressed (numbers (length (pattern_nodes asked)) 0))

  abbrev pub no_dressed : Dressed
  no_dressed = record { parent = 0; label = 0; mark = false }

  -- Number x of the trunk and the first copy (shift 0), or its twin in the second copy, `shift` numbers further on. What stands before `cut`
  -- is there once. "An attribute or text node has its own node number as value, except that in the second copy a marked node, or the
  -- filler attribute of a marked node, has the value of its twin."
  unfoldable pub written_node : ℕ → ℕ → ℕ → Node
  written_node cut shift x =
      let d = get_or dressed_nodes x no_dressed in
      record {
        parent = cond (eqb x 0) no_number (cond (ltb d.parent cut) d.parent (d.parent + shift));
        label = d.label;
        value = cond (is_element (κ d.label)) 0 (cond d.mark x (x + shift));
      }

  -- "The tree is the pattern's nodes from root to u once; then all the others in order (downwards, branch after branch) as a first copy,
  -- then as a second copy."
  unfoldable pub written_nodes : ℕ → List Node
  written_nodes u =
      let cut = place_of (suc u) in
      let all = length dressed_nodes in
      map (written_node cut 0) (numbers all 0) ++ map (written_node cut (all - cut)) (numbers (all - cut) cut)

  -- "The decider writes kind 5 only"
  unfoldable pub written_tree : ℕ → List ℕ
  written_tree u = flatten (map (node_bytes wide_kind) (written_nodes u))
