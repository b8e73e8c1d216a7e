-- Where a typed path is put among the paths before it: in front of the first that stands behind it. Two equal ones both stay.
use Rattle.std.specs.Prelude.{ℕ, ◌+◌, ◌≡◌, refl, Bool, true, false}
use Rattle.std.proofs.Math.Path.{sym}
use Rattle.std.proofs.Common.{◌∙◌}
use mathlib.Core.List.{List, [], ◌∷◌}
use Rattle.std.proofs.Math.ListN.{length}
use Rattle.meaning.specs.Lists.{before}
use Rattle.read_record.specs.BodyParts.{paths_end, paths_of}
use Rattle.meaning.specs.Text.{put_path}
use Rattle.write_set.specs.Places.{PlaceIn, Seeking, place_here, seek_on}

abbrev pub Ordered : ℕ → List ℕ → List ℕ → ℕ → Type 0
Ordered count paths path = PlaceIn (put_path path (paths_of count paths)) count paths path

module _ (q : List ℕ) (path : List ℕ) (qs : List (List ℕ)) where
  put_before : before path q ≡ true → put_path path (q ∷ qs) ≡ path ∷ q ∷ qs
  unfolding put_path
  put_before e = rw e

  put_behind : before path q ≡ false → put_path path (q ∷ qs) ≡ q ∷ put_path path qs
  unfolding put_path
  put_behind e = rw e

module _ (path : List ℕ) (count : ℕ) (paths : List ℕ) {passed : ℕ} (ends : paths_end count paths ≡ true) where
  pub place_before : {q : List ℕ} {qs : List (List ℕ)} → Seeking (put_path path) (paths_of count paths) passed (q ∷ qs) → {b : Bool} → b ≡ before path q → b ≡ true
      → Ordered count paths path passed
  place_before {q} {qs} s t u = place_here count paths ends s (put_before q path qs (sym t ∙ u))

  pub place_end : Seeking (put_path path) (paths_of count paths) passed [] → Ordered count paths path passed
  unfolding put_path
  place_end s = place_here count paths ends s refl

pub seek_next : (path : List ℕ) {all : List (List ℕ)} {passed next : ℕ} {q : List ℕ} {qs : List (List ℕ)} → Seeking (put_path path) all passed (q ∷ qs)
    → {b : Bool} → b ≡ before path q → b ≡ false → next ≡ passed + (length q + 1) → Seeking (put_path path) all next qs
seek_next path {q = q} {qs} s t u n = seek_on s n (put_behind q path qs (sym t ∙ u))
