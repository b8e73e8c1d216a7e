-- Salvage of a damaged tree file: document 02, request 7.
use Rattle.std.specs.Prelude.{ℕ, zero, suc, ◌*◌, ◌≡◌, Bool, cond, not, eqb, length, get_or, take, drop}
use mathlib.Core.List.{List, [], ◌∷◌, ◌++◌, map, flatten}
use Rattle.meaning.specs.Limits.{no_number, block_lines}
use Rattle.meaning.specs.Lists.{is_empty}
use Rattle.meaning.specs.Paths.{Label, Class, class_of, singles}
use Rattle.meaning.specs.Trees.{Table, Node, table_of}
use Rattle.meaning.specs.Keys.{Key, Keeps, FirstWitness}
use Rattle.meaning.specs.Records.{record_kind, record_body, read_node, node_bytes}
use Rattle.meaning.specs.Refusals.{Refusal, sound, Walked, first_of, first_refusal, walk, whole, oversize, good_root, good_below, node_kind_in, tree_limit, repeated, profile_refusal, answer_refusal}
use Rattle.meaning.specs.Operations.{Answer, Unless, filled, listed, salvaged, labels_in, keys_in, second_in}
use Rattle.meaning.specs.Listing.{decimal, space, newline}

-- What was made of the records passed: the nodes kept, with their new parents; for each record its new number, 65535 where it was dropped; and
-- for each record the reason, 0 where it was kept
pub record Salvaged : Type 0 where
  pub nodes : List Node
  pub places : List ℕ
  pub reasons : List ℕ

abbrev pub nothing_yet : Salvaged
nothing_yet = record { nodes = []; places = []; reasons = [] }

-- "Parent numbers are read as record numbers of the damaged file, spoiled records counted." A parent that is not kept gives 65535, which is no node
unfoldable pub moved : List ℕ → Node → Node
moved places n = record { parent = get_or places n.parent no_number; label = n.label; value = n.value }

-- "drops each node record that refusals 2, 8 or 16 would reject"; "Records are judged in order against those kept so far; one whose parent is
-- not kept has reason 8 unless 2 holds." The root is record 0
unfoldable pub drop_tests : Bool → ℕ → List Label → Salvaged → List ℕ → List (ℕ × Bool)
drop_tests second kind labels s l =
    let n = read_node (record_body l) in
    (2, not (eqb (record_kind l) kind))
    ∷ (8, not (cond (is_empty s.places) (good_root n) (good_below labels s.nodes (moved s.places n))))
    ∷ (16, repeated (singles second (class_of labels)) s.nodes (moved s.places n)) ∷ []

unfoldable pub keep_or_drop : ℕ → Salvaged → Node → Salvaged
keep_or_drop zero s n =
    record { nodes = s.nodes ++ (n ∷ []); places = s.places ++ (length s.nodes ∷ []); reasons = s.reasons ++ (0 ∷ []) }
keep_or_drop (suc r) s n = record { nodes = s.nodes; places = s.places ++ (no_number ∷ []); reasons = s.reasons ++ (suc r ∷ []) }

-- "renumbers the rest in order". The root keeps its parent 65535, which `moved` gives it: nothing is kept before it
unfoldable pub salvage_next : Bool → ℕ → List Label → Salvaged → List ℕ → Salvaged
salvage_next second kind labels s l = keep_or_drop (first_of (drop_tests second kind labels s l)) s (moved s.places (read_node (record_body l)))

-- "stops at the first fault of number 1": the walk of every input, with that test alone
unfoldable pub salvage_tests : Salvaged → List ℕ → List (ℕ × Bool)
salvage_tests s l = (1, not (whole l)) ∷ []

unfoldable pub salvage_walked : Bool → List Label → List ℕ → Walked Salvaged
salvage_walked second labels bytes = walk salvage_tests (salvage_next second (node_kind_in bytes) labels) 0 0 nothing_yet bytes

unfoldable pub salvaged_nodes : Bool → List Label → List ℕ → List Node
salvaged_nodes second labels bytes = (salvage_walked second labels bytes).state.nodes

-- what is left, as a tree file of the same kind
unfoldable pub salvaged_tree : Bool → List Label → List ℕ → List ℕ
salvaged_tree second labels bytes = flatten (map (node_bytes (node_kind_in bytes)) (salvaged_nodes second labels bytes))

-- "A file over its size gives 7, one without a valid node 0 gives 8, both with no output."
unfoldable pub salvage_refusal : Bool → List Label → List ℕ → Refusal
salvage_refusal second labels bytes =
    first_refusal
    (oversize 3 (tree_limit (node_kind_in bytes)) bytes
    ∷ cond (is_empty (salvaged_nodes second labels bytes)) (record { number = 8; input = 3; place = 0 }) sound ∷ [])

-- the reason of each record, "(listed last)" the fault of number 1
unfoldable pub reasons_in : Bool → List Label → List ℕ → List ℕ
reasons_in second labels bytes =
    let w = salvage_walked second labels bytes in w.state.reasons ++ cond (eqb w.number 0) [] (w.number ∷ [])

-- "then a line each: record, reason"
unfoldable pub drop_lines : ℕ → List ℕ → List (List ℕ)
drop_lines n [] = []
drop_lines n (r ∷ rs) =
    let rest = drop_lines (suc n) rs in cond (eqb r 0) rest ((decimal n ++ (space ++ (decimal r ++ newline))) ∷ rest)

-- "in its first line, `salvaged` and the number dropped"
unfoldable pub salvaged_line : ℕ → List ℕ
salvaged_line n = (115 ∷ 97 ∷ 108 ∷ 118 ∷ 97 ∷ 103 ∷ 101 ∷ 100 ∷ 32 ∷ []) ++ (decimal n ++ newline)

-- request 9, "the salvage listing .. hand it on": `broken KEY CONTEXT FIRST SECOND X Y ..`
unfoldable pub broken_line : ℕ → List ℕ → List ℕ
broken_line n numbers =
    (98 ∷ 114 ∷ 111 ∷ 107 ∷ 101 ∷ 110 ∷ 32 ∷ []) ++ (decimal n ++ (flatten (map (λ (m : ℕ). space ++ decimal m) numbers) ++ newline))

-- "Keys are judged over what is left": a line for each key that it breaks, in order
pub data BrokenLines (κ : ℕ → Class) (t : Table) : ℕ → List Key → List (List ℕ) → Type 0 where
  judged_all : {n : ℕ} → BrokenLines κ t n [] []
  keeps_one : {n : ℕ} {key : Key} {keys : List Key} {lines : List (List ℕ)} → Keeps κ t key → BrokenLines κ t (suc n) keys lines
      → BrokenLines κ t n (key ∷ keys) lines
  breaks_one : {n : ℕ} {key : Key} {keys : List Key} {lines : List (List ℕ)} (numbers : List ℕ) → FirstWitness κ t key numbers
      → BrokenLines κ t (suc n) keys lines → BrokenLines κ t n (key ∷ keys) (broken_line n numbers ∷ lines)

pub record SalvageListed (second : Bool) (labels : List Label) (keys : List Key) (bytes : List ℕ) (lines : List (List ℕ)) : Type 0 where
  pub broken : List (List ℕ)
  pub judged : BrokenLines (class_of labels) (table_of (salvaged_nodes second labels bytes)) 0 keys broken
  pub are : lines ≡ salvaged_line (length (drop_lines 0 (reasons_in second labels bytes))) ∷ (drop_lines 0 (reasons_in second labels bytes) ++ broken)

-- "asked for in blocks of 1,024 lines, as the listing of 01"
unfoldable pub block_of : List (List ℕ) → ℕ → List ℕ
block_of lines k = flatten (take block_lines (drop (block_lines * k) lines))

-- 14, the profile, then 7 or 8 of the file
unfoldable pub salvage_refusals : (profile tree buffer : List ℕ) → List Refusal
salvage_refusals profile tree buffer =
    answer_refusal buffer ∷ profile_refusal profile ∷ salvage_refusal (second_in profile) (labels_in profile) tree ∷ []

-- "salvage a tree": what is left, as a tree file
unfoldable pub Salvages : (profile tree buffer : List ℕ) → Answer → Type 0
Salvages profile tree buffer =
    Unless (salvage_refusals profile tree buffer) buffer
    (λ answer. answer ≡ filled salvaged (salvaged_tree (second_in profile) (labels_in profile) tree) buffer)

-- .. and "lists every dropped record": a block of the listing, under the same refusals
unfoldable pub ListsSalvage : (profile tree : List ℕ) (k : ℕ) (buffer : List ℕ) → Answer → Type 0
ListsSalvage profile tree k buffer =
    Unless (salvage_refusals profile tree buffer) buffer
    (λ answer. (lines : List (List ℕ)) × SalvageListed (second_in profile) (labels_in profile) (keys_in profile) tree lines × (answer ≡ filled listed (block_of lines k) buffer))
