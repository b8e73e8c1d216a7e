-- A node of a copy, and the bytes of a copy: "as a first copy, then as a second copy".
use Rattle.std.specs.Prelude.{ℕ, ◌+◌, ◌-◌, ◌*◌, ◌≤◌, ◌≡◌, Bool, cond, ltb, eqb, length, drop}
use mathlib.Core.List.{List, ◌++◌, map, flatten}
use Rattle.meaning.specs.Limits.{no_number}
use Rattle.meaning.specs.Lists.{numbers}
use Rattle.meaning.specs.Paths.{Class, is_element}
use Rattle.meaning.specs.Trees.{Node}
use Rattle.meaning.specs.Keys.{Key}
use Rattle.meaning.specs.Records.{node_bytes}
use Rattle.meaning.specs.Pattern.{Dressed, written_tree}
use Rattle.write_pattern.specs.declared.Drawing.{Drawing}
use Rattle.write_pattern.specs.Sketch.{entry_at, Sized}
use Rattle.write_tree.specs.Front.{Front}

-- What stands before the cut is there once
unfoldable pub parent_of : ℕ → ℕ → ℕ → ℕ → ℕ
parent_of above cut shift x = cond (eqb x 0) no_number (cond (ltb above cut) above (above + shift))

-- "An attribute or text node has its own node number as value, except that in the second copy a marked node .. has the value of its twin."
unfoldable pub value_of : Bool → Bool → ℕ → ℕ → ℕ
value_of element mark shift x = cond element 0 (cond mark x (x + shift))

unfoldable pub node_from : (ℕ → Class) → ℕ → ℕ → ℕ → Dressed → Node
node_from κ cut shift x e =
    record {
      parent = parent_of e.parent cut shift x;
      label = e.label;
      value = value_of (is_element (κ e.label)) e.mark shift x;
    }

unfoldable pub copy_bytes : (ℕ → Class) → Drawing → ℕ → ℕ → ℕ → ℕ → List ℕ
copy_bytes κ d cut shift from count = flatten (map (node_bytes 5) (map (λ (x : ℕ). node_from κ cut shift x (entry_at d x)) (numbers count from)))

-- There is room for the records of so many nodes
pub record Copying (d : Drawing) (from to shift free : ℕ) : Type 0 where
  pub sized : Sized d
  pub order : from ≤ to
  pub within : to ≤ 128
  pub small : shift ≤ 128
  pub room : 11 * (to - from) ≤ free

-- The nodes from number `from` up to x are written
pub record Copied (κ : ℕ → Class) (d : Drawing) (cut shift from to : ℕ) (before after : List ℕ) (x : ℕ) : Type 0 where
  pub order : from ≤ x
  pub within : x ≤ to
  pub front : Front before after (copy_bytes κ d cut shift from (x - from))

-- "The answer reports bytes used, which is 11 times the nodes. Bytes after those used are unchanged."
pub record TreeAtFront (κ : ℕ → Class) (asked : Key) (u : ℕ) (before after : List ℕ) (bytes : ℕ) : Type 0 where
  pub is : after ≡ written_tree κ asked u ++ drop bytes before
  pub used : bytes ≡ length (written_tree κ asked u)
