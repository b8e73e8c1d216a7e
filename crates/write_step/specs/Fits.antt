-- What the writers of a step ask: the sizes that a key has in profile and question, and room for a line.
use Rattle.std.specs.Prelude.{ℕ, ◌+◌, ◌-◌, ◌<◌, ◌≤◌, ◌≡◌, refl, true, length}
use Rattle.std.proofs.Common.{sym, ◌∙◌, ap, arith}
use mathlib.Core.List.{List, map, flatten}
use Rattle.meaning.specs.Limits.{in_profile}
use Rattle.meaning.specs.Lists.{Each}
use Rattle.meaning.specs.Paths.{Label}
use Rattle.meaning.specs.Keys.{Key}
use Rattle.meaning.specs.Records.{read_key, key_in, is_some, path_bytes}
use Rattle.read_record.specs.BodyParts.{paths_end, paths_of}
use Rattle.read_record.specs.KeyPaths.{AtPath}
use Rattle.read_record.specs.PathBytes.{paths_bytes}
use Rattle.theory_lists.specs.Bools.{Each-of}
use Rattle.theory_paths.specs.Good.{GoodKey, context_length, target_length, key_path_length, paths_within}
use Rattle.theory_derive.specs.Bytes.{flatten_length}
use Rattle.theory_lists.specs.Logic.{each_imp}

-- "a path of 8 symbols and 4 key paths in profile and question"
pub record KeyFits (k : Key) : Type 0 where
  pub context_short : length k.context ≤ 8
  pub target_short : length k.target ≤ 8
  pub few : length k.paths ≤ 4
  pub short : Each (λ (p : List ℕ). length p ≤ 8) k.paths

pub key_fits : (labels : List Label) (k : Key) → GoodKey labels in_profile k → KeyFits k
key_fits labels k g =
    record {
      context_short = context_length labels in_profile k g;
      target_short = target_length labels in_profile k g;
      few = paths_within labels in_profile k g;
      short = Each-of k.paths (λ p m. key_path_length labels in_profile k g p m);
    }

-- a key body that is read whole
pub record KeyBody (body : List ℕ) : Type 0 where
  pub reads : is_some (read_key body) ≡ true
  pub fits : KeyFits (key_in body)

-- its key paths in place
pub record BodySet (body : List ℕ) (count : ℕ) (bytes : List ℕ) : Type 0 where
  pub ends : paths_end count bytes ≡ true
  pub are : paths_of count bytes ≡ (key_in body).paths
  pub few : count ≤ 4
  pub short : length bytes ≤ 36

path_short : (p : List ℕ) → length p ≤ 8 → length (path_bytes p) ≤ 9
unfolding path_bytes
path_short p h = omega arith

pub body_set : {body bytes : List ℕ} {count : ℕ} → KeyBody body → AtPath (key_in body).paths 0 bytes → count ≡ length (key_in body).paths
    → BodySet body count bytes
body_set {body} {bytes} {count} k a n =
    let ps = (key_in body).paths in
    let m : length ps - 0 ≡ count = omega arith in
    let e : paths_end count bytes ≡ true = ap (λ (x : ℕ). paths_end x bytes) (sym m) ∙ a.ends in
    let r : paths_of count bytes ≡ ps = ap (λ (x : ℕ). paths_of x bytes) (sym m) ∙ a.are in
    let f = k.fits.few in
    let l = flatten_length path_bytes 9 (each_imp path_short k.fits.short) in
    let b : length (flatten (map path_bytes ps)) ≡ length bytes = ap length (ap (λ (x : List (List ℕ)). flatten (map path_bytes x)) (sym r) ∙ paths_bytes count bytes e) in
    record { ends = e; are = r; few = omega arith; short = omega arith }

-- they have room in a local buffer
pub body_put : {body bytes : List ℕ} (room : ℕ) → KeyBody body → AtPath (key_in body).paths 0 bytes → 128 ≤ room → 0 + length bytes ≤ room
body_put room k a h = let s = body_set k a refl in omega arith

-- room for one line
pub record LineRoom (out : List ℕ) (at : ℕ) (context target : List ℕ) : Type 0 where
  pub context_short : length context ≤ 16
  pub target_short : length target ≤ 24
  pub room : at + 256 ≤ length out

pub record OfKeyFits (out : List ℕ) (at rule : ℕ) (context target body : List ℕ) : Type 0 where
  pub rule_fits : rule < 256
  pub line_room : LineRoom out at context target
  pub key : KeyBody body
