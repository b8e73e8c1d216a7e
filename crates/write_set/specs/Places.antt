-- Where a path belongs in a set: behind those paths that stand before it.
use Rattle.std.specs.Prelude.{ℕ, ◌+◌, ◌≤◌, refl, Bool, true, false, Option, take, drop}
use Rattle.std.specs.Option.{MatchOption}
use Rattle.std.proofs.Math.Path.{◌≡◌, sym, ap, ap₂}
use Rattle.std.proofs.Common.{◌∙◌, take_at, drop_at}
use mathlib.Core.List.{List, [], ◌∷◌, ◌++◌, flatten, append_assoc}
use native.Mathlib.Omega.{arith}
use Rattle.std.proofs.Math.ListN.{length, length-append}
use Rattle.meaning.specs.Lists.{same, before}
use Rattle.meaning.specs.Records.{path_bytes}
use Rattle.read_record.specs.BodyParts.{paths_end, paths_of}
use Rattle.read_record.specs.KeyPaths.{paths_count}
use Rattle.theory_derive.specs.Sets.{insert}
use Rattle.write_set.specs.Encoded.{bytes_of, bytes_append, bytes_more, set_bytes}

-- Put behind so many bytes, the path and the paths that stand there are these
pub record PlaceIn (grown : List (List ℕ)) (count : ℕ) (paths path : List ℕ) (passed : ℕ) : Type 0 where
  pub within : passed ≤ length paths
  pub new : bytes_of grown ≡ take passed paths ++ (path_bytes path ++ drop passed paths)
  pub more : count + 1 ≡ length grown

-- Where a path belongs in a set; none where the set holds it
abbrev pub Found : ℕ → List ℕ → List ℕ → Option ℕ → Type 0
Found count paths path place =
    MatchOption place (insert path (paths_of count paths) ≡ paths_of count paths) (PlaceIn (insert path (paths_of count paths)) count paths path)

-- Of these paths some are passed, in so many bytes; `grow` puts the path among them
pub record Seeking (grow : List (List ℕ) → List (List ℕ)) (all : List (List ℕ)) (passed : ℕ) (rest : List (List ℕ)) : Type 0 where
  pub front : List (List ℕ)
  pub whole : front ++ rest ≡ all
  pub seeks : front ++ grow rest ≡ grow all
  pub number : passed ≡ length (bytes_of front)

pub seek_start : (grow : List (List ℕ) → List (List ℕ)) (all : List (List ℕ)) → Seeking grow all 0 all
unfolding bytes_of flatten
seek_start grow all = record { front = []; whole = refl; seeks = refl; number = refl }

module _ (q : List ℕ) (path : List ℕ) (qs : List (List ℕ)) where
  insert_before : before path q ≡ true → insert path (q ∷ qs) ≡ path ∷ q ∷ qs
  unfolding insert
  insert_before e = rw e

  insert_held : before path q ≡ false → same path q ≡ true → insert path (q ∷ qs) ≡ q ∷ qs
  unfolding insert
  insert_held e f = rw (e, f)

  insert_behind : before path q ≡ false → same path q ≡ false → insert path (q ∷ qs) ≡ q ∷ insert path qs
  unfolding insert
  insert_behind e f = rw (e, f)

-- where what is passed ends and what is left begins
module _ {grow : List (List ℕ) → List (List ℕ)} (count : ℕ) (paths : List ℕ) {passed : ℕ} {rest : List (List ℕ)} (ends : paths_end count paths ≡ true)
    (s : Seeking grow (paths_of count paths) passed rest) where
  seek_split : bytes_of s.front ++ bytes_of rest ≡ paths
  seek_split = sym (bytes_append s.front rest) ∙ ap bytes_of s.whole ∙ set_bytes count paths ends

  pub seek_within : passed + length (bytes_of rest) ≤ length paths
  seek_within = let e = length-append (bytes_of s.front) (bytes_of rest) in let f = ap length seek_split in let n = s.number in omega arith

  -- the path goes in front of what is left
  pub place_here : {path : List ℕ} → grow rest ≡ path ∷ rest → PlaceIn (grow (paths_of count paths)) count paths path passed
  unfolding bytes_of flatten
  place_here {path} e =
      let all : grow (paths_of count paths) ≡ s.front ++ (path ∷ rest) = sym s.seeks ∙ ap (λ (l : List (List ℕ)). s.front ++ l) e in
      let front : take passed paths ≡ bytes_of s.front =
      ap (take passed) (sym seek_split) ∙ take_at (bytes_of s.front) (bytes_of rest) passed (sym s.number) in
      let behind : drop passed paths ≡ bytes_of rest =
      ap (drop passed) (sym seek_split) ∙ drop_at (bytes_of s.front) (bytes_of rest) passed (sym s.number) in
      record {
        within = let w = seek_within in omega arith;
        new =
            ap bytes_of all ∙ bytes_append s.front (path ∷ rest)
            ∙ ap₂ (λ (a b : List ℕ). a ++ (path_bytes path ++ b)) (sym front) (sym behind);
        more =
            sym (ap length all ∙ length-append s.front (path ∷ rest)
            ∙ (let n = paths_count count paths in let m = ap length s.whole in let k = length-append s.front rest in omega arith));
      }

-- one path more is passed
pub seek_on : {grow : List (List ℕ) → List (List ℕ)} {all : List (List ℕ)} {passed next : ℕ} {q : List ℕ} {qs : List (List ℕ)}
    → Seeking grow all passed (q ∷ qs) → next ≡ passed + (length q + 1) → grow (q ∷ qs) ≡ q ∷ grow qs → Seeking grow all next qs
unfolding bytes_of flatten
seek_on {grow} {q = q} {qs} s n step =
    record {
      front = s.front ++ (q ∷ []);
      whole = append_assoc s.front (q ∷ []) qs ∙ s.whole;
      seeks = append_assoc s.front (q ∷ []) (grow qs) ∙ ap (λ (b : List (List ℕ)). s.front ++ b) (sym step) ∙ s.seeks;
      number =
          let e = ap length (bytes_append s.front (q ∷ [])) in
          let f = length-append (bytes_of s.front) (bytes_of (q ∷ [])) in
          let g = bytes_more q [] in
          let m = s.number in
          omega arith;
    }

-- of a set's paths
module _ (path : List ℕ) {all : List (List ℕ)} {passed : ℕ} {q : List ℕ} {qs : List (List ℕ)} (s : Seeking (insert path) all passed (q ∷ qs))
    {b d : Bool} (t : b ≡ before path q) (v : d ≡ same path q) where
  pub place_held : b ≡ false → d ≡ true → insert path all ≡ all
  place_held u w = sym s.seeks ∙ ap (λ (l : List (List ℕ)). s.front ++ l) (insert_held q path qs (sym t ∙ u) (sym v ∙ w)) ∙ s.whole

  pub seek_next : b ≡ false → d ≡ false → {next : ℕ} → next ≡ passed + (length q + 1) → Seeking (insert path) all next qs
  seek_next u w n = seek_on s n (insert_behind q path qs (sym t ∙ u) (sym v ∙ w))

module _ (path : List ℕ) (count : ℕ) (paths : List ℕ) {passed : ℕ} (ends : paths_end count paths ≡ true) where
  pub place_before : {q : List ℕ} {qs : List (List ℕ)} → Seeking (insert path) (paths_of count paths) passed (q ∷ qs) → {b : Bool} → b ≡ before path q → b ≡ true
      → PlaceIn (insert path (paths_of count paths)) count paths path passed
  place_before {q} {qs} s t u = place_here count paths ends s (insert_before q path qs (sym t ∙ u))

  pub place_end : Seeking (insert path) (paths_of count paths) passed [] → PlaceIn (insert path (paths_of count paths)) count paths path passed
  unfolding insert
  place_end s = place_here count paths ends s refl
