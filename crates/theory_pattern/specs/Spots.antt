-- ARGUMENT 4: "The pattern as four lines of symbols". Spots, marks and steps, all by their numbers: what the decider runs over.
use Rattle.std.specs.Prelude.{ℕ, suc, ◌+◌, ◌≤◌, ◌<◌, min, ◌≡◌, Bool, false, cond, ◌&&◌, ◌||◌, List, [], ◌∷◌, ◌++◌, T, leb, ltb, eqb, length, get_or, take, drop}
use Rattle.std.proofs.Math.Option.{Option, none, some}
use Rattle.std.proofs.Math.ListN.{get_elem?}
use Rattle.meaning.specs.Lists.{Each, every, any, is_empty, same, numbers}
use Rattle.meaning.specs.Paths.{member}
use Rattle.meaning.specs.Keys.{Key}
use Rattle.meaning.specs.Pattern.{q_of, t_of}

-- the way from the root over q to t
unfoldable pub chain_of : Key → List ℕ
chain_of asked = asked.context ++ asked.target

-- key path number j of the asked key
unfoldable pub branch_of : Key → ℕ → List ℕ
branch_of asked j = get_or asked.paths j []

-- "line j = C ++ T ++ P_j"
unfoldable pub row_of : Key → ℕ → List ℕ
row_of asked j = chain_of asked ++ branch_of asked j

-- L[a..b]: "b - a symbols, index b excluded"
unfoldable pub part : ℕ → ℕ → List ℕ → List ℕ
part a b l = drop a (take b l)

-- S holds the empty path
unfoldable pub holds_empty : Key → Bool
holds_empty asked = any is_empty asked.paths

-- "(j, k) is marked: k = |line j|, or S holds e and k ≥ n"
unfoldable pub marked_at : Key → ℕ → ℕ → Bool
marked_at asked j k = eqb k (length (row_of asked j)) || (holds_empty asked && leb (t_of asked) k)

-- A remembered step: profile key number `key` lets spot (branch, spot) step to chain node `node`
pub record Taken : Type 0 where
  pub key : ℕ
  pub node : ℕ
  pub branch : ℕ
  pub spot : ℕ

-- the key path, read from index k of line j, ends on a mark
unfoldable pub lands_on : Key → ℕ → List ℕ → ℕ → Bool
lands_on asked k p j = same (part k (k + length p) (row_of asked j)) p && marked_at asked j (k + length p)

-- "every key path p of s lands .. for some j' (j' = j where k > n)"
unfoldable pub lands : Key → ℕ → ℕ → List ℕ → Bool
lands asked j k p =
    cond (leb k (t_of asked)) (any (lands_on asked k p) (numbers (length asked.paths) 0)) (lands_on asked k p j)

-- "a profile key s lets (j, k) step to chain node i (i ≤ k, i ≤ n) when .."
unfoldable pub fires_by : Key → Key → ℕ → ℕ → ℕ → Bool
fires_by asked s i j k =
    ltb j (length asked.paths) && leb i (t_of asked) && leb i k && leb k (length (row_of asked j))
    && member s.context (take i (row_of asked j)) && member s.target (part i k (row_of asked j)) && every (lands asked j k) s.paths

unfoldable pub fires_found : Key → Taken → Option Key → Bool
fires_found asked t none = false
fires_found asked t (some s) = fires_by asked s t.node t.branch t.spot

unfoldable pub fires : List Key → Key → Taken → Bool
fires keys asked t = fires_found asked t (get_elem? keys t.key)

-- The same as statements
pub record LandsAt (asked : Key) (j k : ℕ) (p : List ℕ) : Type 0 where
  pub at : ℕ
  pub is_branch : at < length asked.paths
  pub in_branch : t_of asked < k → at ≡ j
  pub reads : part k (k + length p) (row_of asked at) ≡ p
  pub mark : T (marked_at asked at (k + length p))

pub record FiresBy (asked s : Key) (i j k : ℕ) : Type 0 where
  pub is_branch : j < length asked.paths
  pub on_chain : i ≤ t_of asked
  pub above : i ≤ k
  pub on_row : k ≤ length (row_of asked j)
  pub context : T (member s.context (take i (row_of asked j)))
  pub target : T (member s.target (part i k (row_of asked j)))
  pub landing : Each (LandsAt asked j k) s.paths

pub record Fires (keys : List Key) (asked : Key) (t : Taken) : Type 0 where
  pub by : Key
  pub cited : get_elem? keys t.key ≡ some by
  pub firing : FiresBy asked by t.node t.branch t.spot

-- Where the loop's u says implied: it is t, or in edition 2 the parent of t, which is an attribute and "may step to its parent"
pub data Ends (single : ℕ → Bool) (asked : Key) (u : ℕ) : Type 0 where
  at_t : u ≡ t_of asked → Ends single asked u
  above_single : suc u ≡ t_of asked → T (single (get_or (chain_of asked) u 0)) → Ends single asked u

-- The loop of ARGUMENT 4: u := c; while u < n and some key lets (j, k), k > u, step to a chain node i ≤ u: u := min k n. The steps that
-- were taken, the latest first
pub data Chain (keys : List Key) (asked : Key) : ℕ → List Taken → Type 0 where
  begun : Chain keys asked (q_of asked) []
  taken : {u : ℕ} {steps : List Taken} (t : Taken) → Chain keys asked u steps → u < t_of asked → Fires keys asked t → u < t.spot
      → t.node ≤ u → Chain keys asked (min t.spot (t_of asked)) (t ∷ steps)
