-- The rules of inference: document 01, "Rules of inference (001, Table 2)". "Parts not mentioned are unchanged."
use Rattle.std.specs.Prelude.{ℕ, ◌<◌, ◌-◌, ◌≡◌, Bool, T, length, take}
use mathlib.Core.List.{List, [], ◌∷◌, ◌++◌, map, Memᴰ}
use Rattle.std.proofs.Math.Option.{some}
use Rattle.std.proofs.Math.ListN.{get_elem?}
use Rattle.meaning.specs.Limits.{no_number}
use Rattle.meaning.specs.Lists.{Each}
use Rattle.meaning.specs.Paths.{Label, join, simple, Included}
use Rattle.meaning.specs.Keys.{Key}

-- A proof line: "rule (1), first premise (2), second premise (2), a key body"
pub record Line : Type 0 where
  pub rule : ℕ
  pub first : ℕ
  pub second : ℕ
  pub key : Key

-- "1. epsilon: no premise; any key with empty target."
unfoldable pub Epsilon : Key → Type 0
Epsilon k = k.target ≡ []

-- s begins some path of the set
pub record BeginsSome (set : List (List ℕ)) (s : List ℕ) : Type 0 where
  pub rest : List ℕ
  pub among : Memᴰ (s ++ rest) set

-- "2. prefix-epsilon: S and the new set both hold the empty path; each path of S begins some path of the new set."
pub record PrefixEpsilon (p k : Key) : Type 0 where
  pub context : k.context ≡ p.context
  pub target : k.target ≡ p.target
  pub old_empty : Memᴰ [] p.paths
  pub new_empty : Memᴰ [] k.paths
  pub begins : Each (BeginsSome k.paths) p.paths

-- "3. superkey: the new set includes S."
pub record Superkey (p k : Key) : Type 0 where
  pub context : k.context ≡ p.context
  pub target : k.target ≡ p.target
  pub includes : Each (λ (s : List ℕ). Memᴰ s k.paths) p.paths

-- "4. subnodes: T = X.P, P simple, S = {p}; gives (C, (X, {P.p}))."
pub record Subnodes (p k : Key) : Type 0 where
  pub P : List ℕ
  pub s : List ℕ
  pub is_simple : T (simple P)
  pub context : k.context ≡ p.context
  pub target : p.target ≡ join k.target P
  pub old : p.paths ≡ s ∷ []
  pub new : k.paths ≡ join P s ∷ []

-- "5. context path: new context included in C."
pub record ContextPath (labels : List Label) (p k : Key) : Type 0 where
  pub context : Included labels k.context p.context
  pub target : k.target ≡ p.target
  pub paths : k.paths ≡ p.paths

-- "6. target path: new target included in T."
pub record TargetPath (labels : List Label) (p k : Key) : Type 0 where
  pub context : k.context ≡ p.context
  pub target : Included labels k.target p.target
  pub paths : k.paths ≡ p.paths

-- "7. context target: X and Y exist with X.Y = T; gives (C.X, (Y, S)). A single `_*` may split into two."
pub record ContextTarget (p k : Key) : Type 0 where
  pub X : List ℕ
  pub target : join X k.target ≡ p.target
  pub context : k.context ≡ join p.context X
  pub paths : k.paths ≡ p.paths

-- The set {empty, p}, "where p may itself be empty"
unfoldable pub with_empty : List ℕ → List (List ℕ)
with_empty [] = [] ∷ []
with_empty (s ∷ p) = [] ∷ (s ∷ p) ∷ []

-- "8. subnodes-epsilon: T = X.P, P simple, S = {empty, p}, where p may itself be empty; gives (C, (X, {empty, P.p}))."
pub record SubnodesEpsilon (p k : Key) : Type 0 where
  pub P : List ℕ
  pub s : List ℕ
  pub is_simple : T (simple P)
  pub context : k.context ≡ p.context
  pub target : p.target ≡ join k.target P
  pub old : p.paths ≡ with_empty s
  pub new : k.paths ≡ with_empty (join P s)

-- "9. interaction: first premise (C, (X, {P.p for p in S2})), second (C.X, (P, S2)), P simple; gives (C, (X.P, S2))."
pub record Interaction (p r k : Key) : Type 0 where
  pub is_simple : T (simple r.target)
  pub first_paths : p.paths ≡ map (join r.target) r.paths
  pub second_context : r.context ≡ join p.context p.target
  pub context : k.context ≡ p.context
  pub target : k.target ≡ join p.target r.target
  pub paths : k.paths ≡ r.paths

-- "Rule 0 cites key number *first premise* of the profile. In the others, premises are earlier line numbers; an unused premise field
-- is 65535." A line follows from the profile's keys and the keys of the earlier lines
pub data Follows (labels : List Label) (keys earlier : List Key) (line : Line) : Type 0 where
  rule0 : line.rule ≡ 0 → line.second ≡ no_number → get_elem? keys line.first ≡ some line.key → Follows labels keys earlier line
  rule1 : line.rule ≡ 1 → line.first ≡ no_number → line.second ≡ no_number → Epsilon line.key → Follows labels keys earlier line
  rule2 : line.rule ≡ 2 → line.second ≡ no_number → (p : Key) → get_elem? earlier line.first ≡ some p
      → PrefixEpsilon p line.key → Follows labels keys earlier line
  rule3 : line.rule ≡ 3 → line.second ≡ no_number → (p : Key) → get_elem? earlier line.first ≡ some p
      → Superkey p line.key → Follows labels keys earlier line
  rule4 : line.rule ≡ 4 → line.second ≡ no_number → (p : Key) → get_elem? earlier line.first ≡ some p
      → Subnodes p line.key → Follows labels keys earlier line
  rule5 : line.rule ≡ 5 → line.second ≡ no_number → (p : Key) → get_elem? earlier line.first ≡ some p
      → ContextPath labels p line.key → Follows labels keys earlier line
  rule6 : line.rule ≡ 6 → line.second ≡ no_number → (p : Key) → get_elem? earlier line.first ≡ some p
      → TargetPath labels p line.key → Follows labels keys earlier line
  rule7 : line.rule ≡ 7 → line.second ≡ no_number → (p : Key) → get_elem? earlier line.first ≡ some p
      → ContextTarget p line.key → Follows labels keys earlier line
  rule8 : line.rule ≡ 8 → line.second ≡ no_number → (p : Key) → get_elem? earlier line.first ≡ some p
      → SubnodesEpsilon p line.key → Follows labels keys earlier line
  rule9 : line.rule ≡ 9 → (p r : Key) → get_elem? earlier line.first ≡ some p → get_elem? earlier line.second ≡ some r
      → Interaction p r line.key → Follows labels keys earlier line

-- "a tenth rule accepts without premise any key whose target is a single attribute label"
pub record OneAttribute (single : ℕ → Bool) (k : Key) : Type 0 where
  pub label : ℕ
  pub is_single : T (single label)
  pub target : k.target ≡ label ∷ []

-- A line follows in an edition: by a rule of both editions, or by rule 10 for a label that is single there
pub data FollowsIn (single : ℕ → Bool) (labels : List Label) (keys earlier : List Key) (line : Line) : Type 0 where
  shared : Follows labels keys earlier line → FollowsIn single labels keys earlier line
  rule10 : line.rule ≡ 10 → line.first ≡ no_number → line.second ≡ no_number → OneAttribute single line.key
      → FollowsIn single labels keys earlier line

unfoldable pub line_keys : List Line → List Key
line_keys lines = map (λ (l : Line). l.key) lines

-- Line number n stands there and follows from the profile's keys and the lines before it
pub record FollowsAt (single : ℕ → Bool) (labels : List Label) (keys : List Key) (lines : List Line) (n : ℕ) : Type 0 where
  pub line : Line
  pub stands : get_elem? lines n ≡ some line
  pub follows : FollowsIn single labels keys (line_keys (take n lines)) line

unfoldable pub FollowsBelow : (ℕ → Bool) → List Label → List Key → List Line → ℕ → Type 0
FollowsBelow single labels keys lines n = (i : ℕ) → i < n → FollowsAt single labels keys lines i

-- "the last line's key is the question"; a proof with no line has no last key
unfoldable pub EndsWith : List Line → Key → Type 0
EndsWith lines question = get_elem? (line_keys lines) (length lines - 1) ≡ some question

-- "A proof is accepted if each line follows and the last line's key is the question."
pub record Accepted (single : ℕ → Bool) (labels : List Label) (keys : List Key) (question : Key) (lines : List Line) : Type 0 where
  pub each : FollowsBelow single labels keys lines (length lines)
  pub last : EndsWith lines question
