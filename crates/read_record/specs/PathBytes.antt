-- Paths in place are their own bytes, and bytes of a path are read back.
use Rattle.std.specs.Prelude.{ℕ, zero, suc, ◌≡◌, true, length}
use Rattle.std.proofs.Common.{ap, ap₂, ◌∙◌, arith, length-append, take-append-drop, length-take-le, leb-true, le-leb}
use mathlib.Core.List.{List, [], ◌∷◌, ◌++◌, map, flatten}
use Rattle.std.proofs.Math.Seq.{take-append_seam, drop-append_seam}
use Rattle.meaning.specs.Records.{path_bytes}
use Rattle.theory_lists.specs.Bools.{and_first, and_second}
use Rattle.theory_lists.specs.Lists.{empty_is}
use Rattle.read_record.specs.BodyParts.{holds_path, lead_path, after_path, paths_end, paths_of}

-- so many whole paths, to the end, are their own bytes
pub path_bytes_lem : (l : List ℕ) → holds_path l ≡ true → path_bytes (lead_path l) ++ after_path l ≡ l
unfolding holds_path lead_path after_path path_bytes
path_bytes_lem [] e = absurd (let z : ◌≡◌ {A = ℕ} 0 1 = cc in omega arith)
path_bytes_lem (n ∷ l) e =
    ap₂ {C = List ℕ} (λ (k : ℕ) (r : List ℕ). k ∷ r) (length-take-le n l (leb-true n (length l) e)) (take-append-drop n l)

pub paths_bytes : (count : ℕ) (l : List ℕ) → paths_end count l ≡ true → flatten (map path_bytes (paths_of count l)) ≡ l
unfolding paths_end paths_of flatten
paths_bytes zero l e = empty_is l e
paths_bytes (suc count) l e =
    ap (λ (r : List ℕ). path_bytes (lead_path l) ++ r) (paths_bytes count (after_path l) (and_second (holds_path l) _ e))
    ∙ path_bytes_lem l (and_first (holds_path l) _ e)

-- a path at the front is read back
pub holds_front : (p r : List ℕ) → holds_path (path_bytes p ++ r) ≡ true
unfolding holds_path path_bytes
holds_front p r = le-leb (length p) (length (p ++ r)) (omega (arith, length-append p r))

pub lead_front : (p r : List ℕ) → lead_path (path_bytes p ++ r) ≡ p
unfolding lead_path path_bytes
lead_front p r = take-append_seam p r

pub after_front : (p r : List ℕ) → after_path (path_bytes p ++ r) ≡ r
unfolding after_path path_bytes
after_front p r = drop-append_seam p r
