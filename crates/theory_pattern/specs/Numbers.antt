-- The numbers of the pattern's nodes: chain node k is node k; spot (j, k) with k > n is node n + (the earlier key paths' lengths) + (k - n).
-- Each node but the root has the spot above it as its parent and the line's symbol as its label.
use Prim.Native.Nat.{ℕ, zero, suc, ◌+◌, ◌-◌, ◌≤◌, ◌<◌}
use Rattle.std.specs.Prelude.{◌≡◌, refl, ◌⊎◌, cond, List, [], ◌∷◌, ◌++◌, leb, length, get_or}
use Rattle.std.proofs.Common.{sym, ◌∙◌, inl, inr, arith, length-append, get_or-append-add, le-leb}
use Rattle.std.proofs.Math.Path.{ap, ap₂}
use Rattle.std.proofs.Math.ListN.{get_or-append}
use Rattle.std.proofs.lemmas.Bool.{lt-leb}
use Rattle.meaning.specs.Trees.{Node, no_node, table_of}
use Rattle.meaning.specs.Keys.{Key}
use Rattle.meaning.specs.Pattern.{drawn, run, branches, pattern_nodes, pattern, t_of}
use Rattle.theory_lists.specs.Logic.{less_or}
use Rattle.theory_pattern.specs.Spots.{chain_of, branch_of, row_of}
use Rattle.theory_pattern.specs.Rows.{chain_length, row_length}

-- the lengths of the key paths before number j, together
unfoldable pub offset : List (List ℕ) → ℕ → ℕ
offset [] j = 0
offset (p ∷ ps) zero = 0
offset (p ∷ ps) (suc j) = length p + offset ps j

unfoldable pub spot_node : Key → ℕ → ℕ → ℕ
spot_node asked j k = cond (leb k (t_of asked)) k (k + offset asked.paths j)

pub spot_chain : (asked : Key) (j k : ℕ) → k ≤ t_of asked → spot_node asked j k ≡ k
unfolding spot_node
spot_chain asked j k h = rw (le-leb k (t_of asked) h)

pub spot_branch : (asked : Key) (j k : ℕ) → t_of asked < k → spot_node asked j k ≡ k + offset asked.paths j
unfolding spot_node
spot_branch asked j k h = rw (lt-leb k (t_of asked) h)

-- ---- a run of nodes, and the branches

-- the parent of node number k of a run whose first node has the number n and the parent a
over : ℕ → ℕ → ℕ → ℕ
over a n zero = a
over a n (suc k) = n + k

over_next : (n k : ℕ) → over n (suc n) k ≡ n + k
unfolding over
over_next n zero = omega arith
over_next n (suc k) = omega arith

over_later : (a m r : ℕ) → 0 < r → over a m r ≡ m + (r - 1)
unfolding over
over_later a m zero h = absurd (omega arith)
over_later a m (suc r) h = omega arith

over_first : (a m r : ℕ) → r ≡ 0 → over a m r ≡ a
unfolding over
over_first a m zero h = refl
over_first a m (suc r) h = absurd (omega arith)

unfoldable pub node_of : ℕ → ℕ → Node
node_of parent s = record { parent = parent; label = drawn s; value = 0 }

pub run_length : (a n : ℕ) (p : List ℕ) → length (run a n p) ≡ length p
unfolding run
run_length a n [] = refl
run_length a n (s ∷ p) = ap suc (run_length n (suc n) p)

run_node : (a n : ℕ) (p : List ℕ) (k : ℕ) → k < length p → get_or (run a n p) k no_node ≡ node_of (over a n k) (get_or p k 0)
unfolding run over node_of
run_node a n [] k h = absurd (let z : k < 0 = h in omega arith)
run_node a n (s ∷ p) zero h = refl
run_node a n (s ∷ p) (suc k) h =
    run_node n (suc n) p k (let z : suc k < suc (length p) = h in omega arith) ∙ ap (λ m. node_of m (get_or p k 0)) (over_next n k)

branches_length : (t n : ℕ) (ps : List (List ℕ)) → length (branches t n ps) ≡ offset ps (length ps)
unfolding branches offset
branches_length t n [] = refl
branches_length t n (p ∷ ps) =
    length-append (run t n p) (branches t (n + length p) ps) ∙ ap₂ (λ (a b : ℕ). a + b) (run_length t n p) (branches_length t (n + length p) ps)

branches_node : (t n : ℕ) (ps : List (List ℕ)) (j r : ℕ) → j < length ps → r < length (get_or ps j [])
    → get_or (branches t n ps) (offset ps j + r) no_node ≡ node_of (over t (n + offset ps j) r) (get_or (get_or ps j []) r 0)
unfolding branches offset
branches_node t n [] j r h l = absurd (let z : j < 0 = h in omega arith)
branches_node t n (p ∷ ps) zero r h l =
    ap (λ m. get_or (run t n p ++ branches t (n + length p) ps) m no_node) (let z : 0 + r ≡ r = omega arith in z)
    ∙ get_or-append (run t n p) (branches t (n + length p) ps) no_node r (omega (arith, run_length t n p))
    ∙ run_node t n p r l
    ∙ ap (λ m. node_of (over t m r) (get_or p r 0)) (let z : n ≡ n + 0 = omega arith in z)
branches_node t n (p ∷ ps) (suc j) r h l =
    ap (λ m. get_or (run t n p ++ branches t (n + length p) ps) m no_node)
    (let z : length p + offset ps j + r ≡ length (run t n p) + (offset ps j + r) = omega (arith, run_length t n p) in z)
    ∙ get_or-append-add (run t n p) (branches t (n + length p) ps) (offset ps j + r) no_node
    ∙ branches_node t (n + length p) ps j r (let z : suc j < suc (length ps) = h in omega arith) l
    ∙ ap (λ m. node_of (over t m r) (get_or (get_or ps j []) r 0)) (let z : n + length p + offset ps j ≡ n + (length p + offset ps j) = omega arith in z)

-- a number below the end of the branches lies in one of them
pub record InBranch (ps : List (List ℕ)) (y : ℕ) : Type 0 where
  pub branch : ℕ
  pub is_branch : branch < length ps
  pub rest : ℕ
  pub inside : rest < length (get_or ps branch [])
  pub place : y ≡ offset ps branch + rest

pub in_branch : (ps : List (List ℕ)) (y : ℕ) → y < offset ps (length ps) → InBranch ps y
unfolding offset
in_branch [] y h = absurd (let z : y < 0 = h in omega arith)
in_branch (p ∷ ps) y h = go (less_or y (length p)) (λ l. in_branch ps (y - length p) l)
  where
    go : (y < length p) ⊎ (length p ≤ y) → (y - length p < offset ps (length ps) → InBranch ps (y - length p)) → InBranch (p ∷ ps) y
    go (inl l) f = record { branch = 0; is_branch = omega arith; rest = y; inside = l; place = omega arith }
    go (inr l) f =
        let r = f (let z : y < length p + offset ps (length ps) = h in omega arith) in
        record { branch = suc r.branch; is_branch = omega (arith, r.is_branch); rest = r.rest; inside = r.inside; place = omega (arith, r.place) }

-- the earlier branch ends before the later begins
pub offset_next : (ps : List (List ℕ)) (i j : ℕ) → i < j → j < length ps → offset ps i + length (get_or ps i []) ≤ offset ps j
unfolding offset
offset_next [] i j h l = absurd (let z : j < 0 = l in omega arith)
offset_next (p ∷ ps) i zero h l = absurd (omega arith)
offset_next (p ∷ ps) zero (suc j) h l = omega arith
offset_next (p ∷ ps) (suc i) (suc j) h l =
    let z : suc j < suc (length ps) = l in
    omega (arith, offset_next ps i j (omega arith) (omega arith))

pub offset_end : (ps : List (List ℕ)) (j : ℕ) → j < length ps → offset ps j + length (get_or ps j []) ≤ offset ps (length ps)
unfolding offset
offset_end [] j l = absurd (let z : j < 0 = l in omega arith)
offset_end (p ∷ ps) zero l = omega arith
offset_end (p ∷ ps) (suc j) l = let z : suc j < suc (length ps) = l in omega (arith, offset_end ps j (omega arith))

-- ---- the pattern

module _ (asked : Key) where
  pub pattern_size : (pattern asked).size ≡ suc (t_of asked + offset asked.paths (length asked.paths))
  unfolding pattern table_of pattern_nodes chain_of t_of
  pattern_size =
      ap suc (length-append (run 0 1 (asked.context ++ asked.target)) (branches (t_of asked) (suc (t_of asked)) asked.paths)
      ∙ ap₂ (λ (a b : ℕ). a + b) (run_length 0 1 (asked.context ++ asked.target) ∙ chain_length asked) (branches_length (t_of asked) (suc (t_of asked)) asked.paths))

  unfoldable pub node : ℕ → Node
  node x = get_or (pattern_nodes asked) x no_node

  -- the spot below (j, k) on line j is the node that has (j, k) as its parent and the line's symbol as its label
  pub spot_node_lem : (j k : ℕ) → j < length asked.paths → k < length (row_of asked j)
      → node (spot_node asked j (suc k)) ≡ node_of (spot_node asked j k) (get_or (row_of asked j) k 0)
  unfolding node pattern_nodes row_of branch_of chain_of
  spot_node_lem j k b h = go (less_or k (t_of asked))
    where
      n : ℕ
      n = t_of asked

      C : List ℕ
      C = asked.context ++ asked.target

      P : List ℕ
      P = get_or asked.paths j []

      chain : List Node
      chain = run 0 1 C

      rest : List Node
      rest = branches n (suc n) asked.paths

      off : ℕ
      off = offset asked.paths j

      chain_symbols : length C ≡ n
      chain_symbols = chain_length asked

      chain_nodes : length chain ≡ n
      chain_nodes = run_length 0 1 C ∙ chain_symbols

      long : k < n + length P
      long = omega (arith, row_length asked j)

      above : n ≤ k → over n (suc n + off) (k - n) ≡ spot_node asked j k
      above l = at (less_or n k)
        where
          at : (n < k) ⊎ (k ≤ n) → over n (suc n + off) (k - n) ≡ spot_node asked j k
          at (inl m) = over_later n (suc n + off) (k - n) (omega arith) ∙ (let z : suc n + off + (k - n - 1) ≡ k + off = omega arith in z) ∙ sym (spot_branch asked j k m)
          at (inr m) = over_first n (suc n + off) (k - n) (omega arith) ∙ (let z : n ≡ k = omega arith in z) ∙ sym (spot_chain asked j k m)

      go : (k < n) ⊎ (n ≤ k) → node (spot_node asked j (suc k)) ≡ node_of (spot_node asked j k) (get_or (row_of asked j) k 0)
      go (inl l) =
          ap node (spot_chain asked j (suc k) l)
          ∙ get_or-append chain rest no_node k (omega (arith, chain_nodes))
          ∙ run_node 0 1 C k (omega (arith, chain_symbols))
          ∙ ap₂ node_of (over_next 0 k ∙ (let z : 0 + k ≡ k = omega arith in z) ∙ sym (spot_chain asked j k (omega arith)))
          (sym (get_or-append C P 0 k (omega (arith, chain_symbols))))
      go (inr l) =
          ap node (spot_branch asked j (suc k) (omega arith) ∙ (let z : suc k + off ≡ suc (length chain + (off + (k - n))) = omega (arith, chain_nodes) in z))
          ∙ get_or-append-add chain rest (off + (k - n)) no_node
          ∙ branches_node n (suc n) asked.paths j (k - n) b (omega (arith, long))
          ∙ ap₂ node_of (above l)
          (sym (ap (λ m. get_or (C ++ P) m 0) (let z : k ≡ length C + (k - n) = omega (arith, chain_symbols) in z) ∙ get_or-append-add C P (k - n) 0))

  pub spot_inside : (j k : ℕ) → j < length asked.paths → k ≤ length (row_of asked j) → spot_node asked j k < (pattern asked).size
  unfolding branch_of
  spot_inside j k b h = go (less_or (t_of asked) k)
    where
      go : (t_of asked < k) ⊎ (k ≤ t_of asked) → spot_node asked j k < (pattern asked).size
      go (inl l) = rw (spot_branch asked j k l) (omega (arith, pattern_size, offset_end asked.paths j b, row_length asked j))
      go (inr l) = rw (spot_chain asked j k l) (omega (arith, pattern_size))

  pub spot_positive : (j k : ℕ) → 0 < spot_node asked j (suc k)
  spot_positive j k = go (less_or (t_of asked) (suc k))
    where
      go : (t_of asked < suc k) ⊎ (suc k ≤ t_of asked) → 0 < spot_node asked j (suc k)
      go (inl l) = rw (spot_branch asked j (suc k) l) (omega arith)
      go (inr l) = rw (spot_chain asked j (suc k) l) (omega arith)
