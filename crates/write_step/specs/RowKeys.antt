-- Keys whose context and target are read off the asked row, "all others are read off the asked key's rows" (ARGUMENT §5), and the small
-- sets that they are written with.
use Rattle.std.specs.Prelude.{ℕ, ◌+◌, ◌-◌, ◌<◌, ◌≤◌, ◌≡◌, true, length, take, drop}
use Rattle.std.proofs.Common.{ap, arith, length-take}
use mathlib.Core.List.{List, [], ◌∷◌}
use Rattle.meaning.specs.Keys.{Key}
use Rattle.meaning.specs.Records.{key_in}
use Rattle.read_record.specs.BodyParts.{paths_end, paths_of}
use Rattle.read_record.specs.KeyPaths.{AtPath}
use Rattle.write_line.specs.LineParts.{LineFits}
use Rattle.write_set.specs.Encoded.{SetIn}
use Rattle.write_set.specs.Fronts.{Fronted}
use Rattle.theory_derive.specs.Written.{key_of, two_line, one_line}
use Rattle.write_step.specs.Fits.{KeyBody, body_set}
use Rattle.write_step.specs.Lines.{WroteLines, lines_is}

-- the symbols from index a up to b
abbrev pub between : ℕ → ℕ → List ℕ → List ℕ
between a b row = take (b - a) (drop a row)

-- the context is the line up to `from`, the target goes from there up to `to`
abbrev pub key_along : List ℕ → ℕ → ℕ → List (List ℕ) → Key
key_along row from to ps = key_of (take from row) (between from to row) ps

-- room for one line with such a key
pub record PartRoom (out : List ℕ) (at : ℕ) (row : List ℕ) (from to : ℕ) : Type 0 where
  pub room : at + 256 ≤ length out
  pub context_short : from ≤ 16
  pub in_order : from ≤ to
  pub within : to ≤ length row
  pub row_short : length row ≤ 24

-- F goes from `to` up to the chain's end
pub record FrontRoom (row : List ℕ) (to chain : ℕ) : Type 0 where
  pub chain_short : chain ≤ 16
  pub in_order : to ≤ chain
  pub within : chain ≤ length row

-- key paths that a line has room for
pub record SetFits (many : ℕ) (set : List ℕ) : Type 0 where
  pub few : many < 256
  pub short : length set ≤ 204
  pub ends : paths_end many set ≡ true

-- "U = S united with S' (at most 8 paths)"
pub record UnitedBytes (many : ℕ) (united : List ℕ) : Type 0 where
  pub few : many ≤ 8
  pub short : length united ≤ 72
  pub ends : paths_end many united ≡ true

-- a set made in a local buffer that keeps its length
pub record SmallSet (buffer end : List ℕ) (count used : ℕ) (ps : List (List ℕ)) : Type 0 where
  pub holds : SetIn end count used ps
  pub kept : length end ≡ length buffer
  pub few : count ≤ 8
  pub short : used ≤ 72

-- ---- what a call asks

pub part_fits : {out row set : List ℕ} {at rule from to many : ℕ} → (rule < 256) × PartRoom out at row from to × SetFits many set
    → LineFits out at rule (take from row) (between from to row) many set
part_fits {row = row} {from = from} {to} (r, p, s) =
    let c = length-take from row in
    let t = length-take (to - from) (drop from row) in
    record {
      rule_fits = r;
      count_fits = s.few;
      context_short = omega arith;
      target_short = omega arith;
      short = omega arith;
      room = p.room;
      ends = s.ends;
    }

pub rest_short : {out row : List ℕ} {at from to : ℕ} → PartRoom out at row from to → length (between to (length row) row) ≤ 24
rest_short {row = row} {to = to} p = let e = length-take (length row - to) (drop to row) in omega arith

pub body_fits : {body bytes : List ℕ} {count : ℕ} → KeyBody body → AtPath (key_in body).paths 0 bytes → count ≡ length (key_in body).paths
    → SetFits count bytes
body_fits k a n = let s = body_set k a n in record { few = omega arith; short = omega arith; ends = s.ends }

pub united_fits : {united : List ℕ} {many : ℕ} → UnitedBytes many united → SetFits many united
united_fits u = record { few = omega arith; short = omega arith; ends = u.ends }

pub set_in_fits : {end : List ℕ} {count used : ℕ} {ps : List (List ℕ)} → SetIn end count used ps → count ≤ 8 → used ≤ 200 → SetFits count (take used end)
set_in_fits {end} {used = used} s f h =
    record { few = omega arith; short = let e = length-take used end in omega arith; ends = s.ends }

module _ {buffer end : List ℕ} {count used : ℕ} {ps : List (List ℕ)} (s : SmallSet buffer end count used ps) where
  pub small_fits : SetFits count (take used end)
  small_fits = set_in_fits s.holds s.few (omega arith)

  pub united_bytes : UnitedBytes count (take used end)
  united_bytes = record { few = s.few; short = let e = length-take used end in omega arith; ends = s.holds.ends }

pub fronted_fits : {buffer end front set : List ℕ} {many used : ℕ} → UnitedBytes many set → Fronted buffer front many set end used
    → SetFits many (take used end)
fronted_fits u f = set_in_fits f.holds u.few (omega arith)

-- ---- the line that was written has these paths

module _ {o e : List ℕ} {at r : ℕ} (rule first : ℕ) (C X : List ℕ) where
  of_paths : {qs ps : List (List ℕ)} → qs ≡ ps → WroteLines o e at (two_line rule first 65535 (key_of C X qs) ∷ []) r
      → WroteLines o e at (one_line rule first (key_of C X ps) ∷ []) r
  unfolding one_line two_line
  of_paths p w = lines_is (ap (λ (s : List (List ℕ)). two_line rule first 65535 (key_of C X s) ∷ []) p) w

  pub of_body : {body bytes : List ℕ} {count : ℕ} → KeyBody body → AtPath (key_in body).paths 0 bytes → count ≡ length (key_in body).paths
      → WroteLines o e at (two_line rule first 65535 (key_of C X (paths_of count bytes)) ∷ []) r
      → WroteLines o e at (one_line rule first (key_of C X (key_in body).paths) ∷ []) r
  of_body k a n w = of_paths (body_set k a n).are w

  pub of_set : {end : List ℕ} {count used : ℕ} {ps : List (List ℕ)} → SetIn end count used ps
      → WroteLines o e at (two_line rule first 65535 (key_of C X (paths_of count (take used end))) ∷ []) r
      → WroteLines o e at (one_line rule first (key_of C X ps) ∷ []) r
  of_set s w = of_paths s.are w

  pub of_small : {buffer end : List ℕ} {count used : ℕ} {ps : List (List ℕ)} → SmallSet buffer end count used ps
      → WroteLines o e at (two_line rule first 65535 (key_of C X (paths_of count (take used end))) ∷ []) r
      → WroteLines o e at (one_line rule first (key_of C X ps) ∷ []) r
  of_small s w = of_paths s.holds.are w
