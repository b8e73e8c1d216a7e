-- ARGUMENT 5: the lines of the proof, from the remembered steps, the latest first.
use Rattle.std.specs.Prelude.{ℕ, ◌+◌, ◌-◌, cond, List, [], ◌∷◌, ◌++◌, map, leb, ltb, length, get_or, take, drop}
use Rattle.meaning.specs.Limits.{no_number}
use Rattle.meaning.specs.Paths.{norm}
use Rattle.meaning.specs.Keys.{Key}
use Rattle.meaning.specs.Rules.{Line, with_empty}
use Rattle.meaning.specs.Records.{no_key}
use Rattle.meaning.specs.Pattern.{t_of}
use Rattle.theory_derive.specs.Sets.{insert, unite}
use Rattle.theory_pattern.specs.Spots.{Taken, chain_of, branch_of, row_of, part, holds_empty}

-- a key whose context and target are parts of a line, in normal form
unfoldable pub key_of : List ℕ → List ℕ → List (List ℕ) → Key
key_of C X S = record { context = norm C; target = norm X; paths = S }

-- "For chain node h let K h = (norm (C++T)[0..h], (norm (C++T)[h..n], S))"
unfoldable pub key_at : Key → ℕ → Key
key_at asked h = key_of (take h (chain_of asked)) (drop h (chain_of asked)) asked.paths

unfoldable pub one_line : ℕ → ℕ → Key → Line
one_line rule first key = record { rule = rule; first = first; second = no_number; key = key }

unfoldable pub two_line : ℕ → ℕ → ℕ → Key → Line
two_line rule first second key = record { rule = rule; first = first; second = second; key = key }

-- "A' = norm (C++T)[0..i]", before its normal form
unfoldable pub above : Key → ℕ → List ℕ
above asked i = take i (chain_of asked)

-- from chain node i to the spot, and from it to t. For k ≤ n the latter from k on is F = (C++T)[k..n]
unfoldable pub to_spot : Key → ℕ → ℕ → ℕ → List ℕ
to_spot asked i j k = part i k (row_of asked j)

unfoldable pub to_t : Key → ℕ → List ℕ
to_t asked i = drop i (chain_of asked)

-- k > n: P_j = G.H with G = line j [n..k], and this is H
unfoldable pub below_spot : Key → ℕ → ℕ → List ℕ
below_spot asked j k = drop k (row_of asked j)

-- (A', (T_s, S_s)) and (A', (norm line j [i..k], S_s))
unfoldable pub narrowed : Key → Key → ℕ → Key
narrowed asked s i = record { context = norm (above asked i); target = s.target; paths = s.paths }

unfoldable pub at_spot : Key → Key → ℕ → ℕ → ℕ → Key
at_spot asked s i j k = key_of (above asked i) (to_spot asked i j k) s.paths

-- "rule 0: s · rule 5: (A', (T_s, S_s)) · rule 6: (A', (norm line j [i..k], S_s))"
unfoldable pub opening : Key → Key → ℕ → ℕ → ℕ → ℕ → ℕ → List Line
opening asked s number i j k at =
    one_line 0 number s ∷ one_line 5 at (narrowed asked s i) ∷ one_line 6 (at + 1) (at_spot asked s i j k) ∷ []

-- k ≤ n. "S_s = { F.p : p in S' }", "U = S united with S'"; "Without e, U = S"
unfoldable pub beyond : Key → Key → ℕ → List (List ℕ)
beyond asked s k = map (drop (length (to_t asked k))) s.paths

unfoldable pub united : Key → Key → ℕ → List (List ℕ)
united asked s k = cond (holds_empty asked) (unite asked.paths (beyond asked s k)) asked.paths

unfoldable pub chain_lines : Key → Key → ℕ → ℕ → ℕ → ℕ → List Line
chain_lines asked s i j k at =
    one_line 3 (at + 2) (key_of (above asked i) (to_spot asked i j k) (map (λ (p : List ℕ). to_t asked k ++ p) (united asked s k)))
    ∷ one_line 7 (at - 1) (key_of (above asked k) (to_t asked k) asked.paths)
    ∷ one_line 3 (at + 4) (key_of (above asked k) (to_t asked k) (united asked s k))
    ∷ two_line 9 (at + 3) (at + 5) (key_of (above asked i) (to_t asked i) (united asked s k))
    ∷ cond (holds_empty asked) (one_line 2 (at + 6) (key_at asked i) ∷ []) []

-- k > n, without e in S
unfoldable pub end_lines : Key → ℕ → ℕ → ℕ → List Line
end_lines asked i j at =
    one_line 4 (at + 2) (key_of (above asked i) (to_t asked i) (branch_of asked j ∷ [])) ∷ one_line 3 (at + 3) (key_at asked i) ∷ []

-- k > n, with e in S
unfoldable pub empty_lines : Key → Key → ℕ → ℕ → ℕ → ℕ → List Line
empty_lines asked s i j k at =
    one_line 3 (at + 2) (key_of (above asked i) (to_spot asked i j k) (insert [] s.paths))
    ∷ one_line 2 (at + 3) (key_of (above asked i) (to_spot asked i j k) (with_empty (below_spot asked j k)))
    ∷ one_line 8 (at + 4) (key_of (above asked i) (to_t asked i) (with_empty (branch_of asked j)))
    ∷ one_line 3 (at + 5) (key_at asked i) ∷ []

-- The lines of one step: `at` lines stand before them, the last of which is K h; their last is K i
unfoldable pub step_lines : Key → Key → ℕ → ℕ → ℕ → ℕ → ℕ → List Line
step_lines asked s number i j k at =
    opening asked s number i j k at
    ++ cond (leb k (t_of asked)) (chain_lines asked s i j k at) (cond (holds_empty asked) (empty_lines asked s i j k at) (end_lines asked i j at))

unfoldable pub taken_lines : List Key → Key → Taken → ℕ → List Line
taken_lines keys asked t at = step_lines asked (get_or keys t.key no_key) t.key t.node t.branch t.spot at

-- "Take every remembered step .., last first; each gives K i from K h"; "from K h with h < c the question follows by rule 7"
unfoldable pub lines_from : List Key → Key → ℕ → List Taken → List Line
lines_from keys asked at [] = one_line 7 (at - 1) asked ∷ []
lines_from keys asked at (t ∷ steps) =
    let lines = taken_lines keys asked t at in
    lines ++ lines_from keys asked (at + length lines) steps

-- "K n is rule 1, the first line (written always ..)"; where the loop ended above t, K u is rule 10
unfoldable pub first_line : Key → ℕ → Line
first_line asked u = one_line (cond (ltb u (t_of asked)) 10 1) no_number (key_at asked u)

unfoldable pub proof_lines : List Key → Key → ℕ → List Taken → List Line
proof_lines keys asked u steps = first_line asked u ∷ lines_from keys asked 1 steps
