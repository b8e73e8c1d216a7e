-- The listing: document 01, "The listing program".
use Rattle.std.specs.Prelude.{ℕ, zero, suc, ◌+◌, ◌*◌, ◌/◌, ◌%◌, cond, eqb, ltb, length, get_or, take, drop}
use mathlib.Core.List.{List, [], ◌∷◌, ◌++◌, map, flatten}
use Rattle.meaning.specs.Limits.{block_lines}
use Rattle.meaning.specs.Lists.{numbers}
use Rattle.meaning.specs.Paths.{Label, class_of, is_element}
use Rattle.meaning.specs.Trees.{Node, no_node}

-- A number in decimal digits: a number has fewer digits than its value and one
unfoldable pub digits : ℕ → ℕ → List ℕ
digits zero n = []
digits (suc steps) n = let more = digits steps (n / 10) in cond (ltb n 10) ((48 + n) ∷ []) (more ++ ((48 + n % 10) ∷ []))

unfoldable pub decimal : ℕ → List ℕ
decimal n = digits (suc n) n

abbrev pub space : List ℕ
space = 32 ∷ []

abbrev pub newline : List ℕ
newline = 10 ∷ []

abbrev pub dash : List ℕ
dash = 45 ∷ []

-- "First line: the word nodes and their number."
unfoldable pub first_line : List Node → List ℕ
first_line nodes = (110 ∷ 111 ∷ 100 ∷ 101 ∷ 115 ∷ 32 ∷ []) ++ (decimal (length nodes) ++ newline)

-- "Then number, parent, label, value; `-` for no parent or no value." An element has no value
unfoldable pub node_line : List Label → List Node → ℕ → List ℕ
node_line labels nodes x =
    let n = get_or nodes x no_node in
    decimal x ++ (space ++ (cond (eqb x 0) dash (decimal n.parent) ++ (space ++ (decimal n.label
    ++ (space ++ (cond (is_element (class_of labels n.label)) dash (decimal n.value) ++ newline))))))

unfoldable pub listing : List Label → List Node → List (List ℕ)
listing labels nodes = first_line nodes ∷ map (node_line labels nodes) (numbers (length nodes) 0)

-- "Block k is lines 1,024k to 1,024k + 1,023, past the end 0 bytes"
unfoldable pub block : List Label → List Node → ℕ → List ℕ
block labels nodes k = flatten (take block_lines (drop (block_lines * k) (listing labels nodes)))
