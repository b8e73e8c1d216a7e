-- The table that a tree file's bytes say: "length (2), kind (2), parent (2), label (1), value (2)", or value (4): 9 or 11 bytes a node.
use Rattle.std.specs.Prelude.{ℕ, suc, ◌+◌, ◌-◌, ◌*◌, ◌/◌, ◌<◌, ◌≤◌, ◌≡◌, ◌≢◌, List, length, get_or, take, drop}
use Rattle.std.proofs.Common.{sym, subst, arith, mul-le-mul_left}
use Rattle.std.proofs.Math.Nat.{mul-div-le}
use borrow.Author.Tests.{le-leb, lt-leb, eq-eqb, ne_eqb}
use Rattle.meaning.specs.Limits.{tree_nodes, root_label}
use Rattle.meaning.specs.Paths.{element}
use Rattle.meaning.specs.Trees.{Table}
use Rattle.meaning.specs.Records.{word, number, value_bytes, record_kind}
use Rattle.meaning.specs.Refusals.{node_kind_in}
unfoldable pub use Rattle.read_record.specs.Classes.{class_by}

-- how many bytes a node of the file has, by the kind of its record 0
unfoldable pub file_stride : List ℕ → ℕ
file_stride bytes = 7 + value_bytes (node_kind_in bytes)

unfoldable pub file_table : List ℕ → Table
file_table bytes =
    record {
      size = length bytes / file_stride bytes;
      parent = λ i. word bytes (file_stride bytes * i + 4);
      label = λ i. get_or bytes (file_stride bytes * i + 6) 0;
      value = λ i. number (take (file_stride bytes - 7) (drop (file_stride bytes * i + 7) bytes));
    }

-- the value stands behind the head's four bytes, the parent's two and the label
pub stride_least : (bytes : List ℕ) → 7 ≤ file_stride bytes
unfolding file_stride
stride_least bytes = omega arith

-- what the fields' functions know of the bytes: a node that is counted stands in them
pub told_fits : (bytes : List ℕ) (i w : ℕ) → w ≡ file_stride bytes → i < (file_table bytes).size → (w * i + w ≤ length bytes) × (7 ≤ w)
unfolding file_table
told_fits bytes i w e h =
    let counted : suc i ≤ length bytes / w = subst (λ (k : ℕ). suc i ≤ length bytes / k) (sym e) h in
    let before = mul-le-mul_left w counted in
    let inside = mul-div-le (length bytes) w in
    (omega arith, subst (λ (k : ℕ). 7 ≤ k) (sym e) (stride_least bytes))

-- one law for each return of `node_kind` and of `bytes_of`
module _ (bytes : List ℕ) where
  pub kind_short : length bytes < 4 → 3 ≡ node_kind_in bytes
  unfolding node_kind_in
  kind_short h = rw (lt-leb 4 (length bytes) h)

  pub kind_wide : 4 ≤ length bytes → word bytes 2 ≡ 5 → 5 ≡ node_kind_in bytes
  unfolding node_kind_in record_kind
  kind_wide h e = rw (le-leb 4 (length bytes) h, eq-eqb (word bytes 2) 5 e)

  pub kind_other : 4 ≤ length bytes → (word bytes 2 ≡ 5 → ⊥) → 3 ≡ node_kind_in bytes
  unfolding node_kind_in record_kind
  kind_other h n = rw (le-leb 4 (length bytes) h, ne_eqb (word bytes 2) 5 n)

pub bytes_wide : (kind : ℕ) → kind ≡ 5 → 11 ≡ 7 + value_bytes kind
unfolding value_bytes
bytes_wide kind e = rw e

pub bytes_other : (kind : ℕ) → (kind ≡ 5 → ⊥) → 9 ≡ 7 + value_bytes kind
unfolding value_bytes
bytes_other kind n = rw (ne_eqb kind 5 n)

-- What an accepted tree gives: whole records, one to 4,096 of them, "203 at the root alone", and each other node has its parent before it,
-- an element
pub record TreeBytes (classes bytes : List ℕ) : Type 0 where
  pub whole : length bytes ≡ file_stride bytes * (file_table bytes).size
  pub some : 0 < (file_table bytes).size
  pub few : (file_table bytes).size ≤ tree_nodes
  pub root : (file_table bytes).label 0 ≡ root_label
  pub not_root : (i : ℕ) → 0 < i → i < (file_table bytes).size → (file_table bytes).label i ≢ root_label
  pub above : (i : ℕ) → 0 < i → i < (file_table bytes).size → (file_table bytes).parent i < i
  pub inside : (i : ℕ) → 0 < i → i < (file_table bytes).size → class_by classes ((file_table bytes).label ((file_table bytes).parent i)) ≡ element
