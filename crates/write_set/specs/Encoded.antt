-- Paths as bytes at the front of a buffer.
use Rattle.std.specs.Prelude.{ℕ, ◌+◌, ◌≤◌, ◌≡◌, refl, Bool, true, ◌&&◌, length, take}
use Rattle.std.proofs.Common.{sym, ◌∙◌, ap, ap₂, arith, length-append}
use mathlib.Core.List.{List, [], ◌∷◌, ◌++◌, map, flatten, append_assoc}
use Rattle.meaning.specs.Lists.{is_empty}
use Rattle.meaning.specs.Records.{path_bytes}
use Rattle.read_record.specs.BodyParts.{after_path, paths_end, paths_of}
use Rattle.read_record.specs.PathBytes.{paths_bytes, holds_front, lead_front, after_front}

unfoldable pub bytes_of : List (List ℕ) → List ℕ
bytes_of ps = flatten (map path_bytes ps)

pub bytes_append : (ps qs : List (List ℕ)) → bytes_of (ps ++ qs) ≡ bytes_of ps ++ bytes_of qs
unfolding bytes_of flatten
bytes_append [] qs = refl
bytes_append (p ∷ ps) qs = ap (λ (l : List ℕ). path_bytes p ++ l) (bytes_append ps qs) ∙ sym (append_assoc (path_bytes p) (bytes_of ps) (bytes_of qs))

encoded_ends : (ps : List (List ℕ)) → paths_end (length ps) (bytes_of ps) ≡ true
unfolding paths_end bytes_of flatten is_empty
encoded_ends [] = refl
encoded_ends (p ∷ ps) =
    ap (λ (b : Bool). b && paths_end (length ps) (after_path (path_bytes p ++ bytes_of ps))) (holds_front p (bytes_of ps))
    ∙ ap (paths_end (length ps)) (after_front p (bytes_of ps)) ∙ encoded_ends ps

encoded_are : (ps : List (List ℕ)) → paths_of (length ps) (bytes_of ps) ≡ ps
unfolding paths_of bytes_of flatten
encoded_are [] = refl
encoded_are (p ∷ ps) =
    ap₂ {C = List (List ℕ)} (λ (q : List ℕ) (qs : List (List ℕ)). q ∷ qs) (lead_front p (bytes_of ps))
    (ap (paths_of (length ps)) (after_front p (bytes_of ps)) ∙ encoded_are ps)

-- So many bytes of the buffer hold so many paths, and they are these
pub record SetIn (buffer : List ℕ) (count used : ℕ) (ps : List (List ℕ)) : Type 0 where
  pub within : used ≤ length buffer
  pub number : count ≡ length ps
  pub ends : paths_end count (take used buffer) ≡ true
  pub are : paths_of count (take used buffer) ≡ ps

pub set_in : {buffer : List ℕ} {count used : ℕ} (ps : List (List ℕ)) → used ≤ length buffer → count ≡ length ps → take used buffer ≡ bytes_of ps
    → SetIn buffer count used ps
set_in ps w n e =
    record {
      within = w;
      number = n;
      ends = ap₂ paths_end n e ∙ encoded_ends ps;
      are = ap₂ paths_of n e ∙ encoded_are ps;
    }

-- one path more, and a set that is read
pub bytes_more : (q : List ℕ) (qs : List (List ℕ)) → length (bytes_of (q ∷ qs)) ≡ length q + 1 + length (bytes_of qs)
unfolding bytes_of flatten path_bytes
bytes_more q qs = let e = length-append (length q ∷ q) (bytes_of qs) in omega arith

pub set_bytes : (count : ℕ) (paths : List ℕ) → paths_end count paths ≡ true → bytes_of (paths_of count paths) ≡ paths
unfolding bytes_of
set_bytes count paths e = paths_bytes count paths e
