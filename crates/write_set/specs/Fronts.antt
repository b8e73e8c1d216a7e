-- A path put in front of each path of a set.
use Rattle.std.specs.Prelude.{ℕ, ◌+◌, ◌*◌, ◌<◌, ◌≤◌, ◌≡◌, refl, true, length}
use Rattle.std.proofs.Math.Path.{sym, ap}
use Rattle.std.proofs.Common.{◌∙◌}
use mathlib.Core.List.{List, [], ◌∷◌, ◌++◌, map, flatten, append_assoc, append-nil}
use native.Mathlib.Omega.{arith}
use Rattle.std.proofs.Math.ListN.{length-append}
use Rattle.std.proofs.lemmas.List.{length-map}
use Rattle.meaning.specs.Records.{path_bytes}
use Rattle.read_record.specs.BodyParts.{paths_end, paths_of}
use Rattle.read_record.specs.KeyPaths.{paths_count}
use Rattle.write_bytes.specs.Wrote.{Wrote, wrote_more, wrote_part, wrote_none, wrote_is}
use Rattle.write_line.specs.LineParts.{Sized}
use Rattle.write_set.specs.Encoded.{SetIn, set_in, bytes_of, bytes_append, bytes_more, set_bytes}

pub joined_wrote : {o a b c front path : List ℕ} {at p q r n : ℕ} → Wrote b c q path r → Wrote a b p front q → Wrote o a at (n ∷ []) p
    → n ≡ length front + length path → Sized o c at (path_bytes (front ++ path)) (length front + length path + 1) r
unfolding path_bytes
joined_wrote {front = front} {path} w v u e =
    record {
      wrote = wrote_is (ap {B = List ℕ} (λ (k : ℕ). k ∷ (front ++ path)) (e ∙ sym (length-append front path))) (wrote_more u (wrote_more v w));
      size = omega arith;
    }

unfoldable pub in_front : List ℕ → List (List ℕ) → List (List ℕ)
in_front front ps = map (λ (p : List ℕ). front ++ p) ps

pub record FrontFits (buffer front : List ℕ) (count : ℕ) (paths : List ℕ) : Type 0 where
  pub ends : paths_end count paths ≡ true
  pub front_short : length front ≤ 16
  pub paths_short : length paths ≤ 128
  pub room : length paths + 16 * count ≤ length buffer

pub record Fronted (buffer front : List ℕ) (count : ℕ) (paths end : List ℕ) (used : ℕ) : Type 0 where
  pub holds : SetIn end count used (in_front front (paths_of count paths))
  pub kept : length end ≡ length buffer
  pub shorter : used ≤ length paths + 16 * count

-- These of its paths are left
pub record Fronting (buffer front : List ℕ) (count : ℕ) (paths mid : List ℕ) (at : ℕ) (rest : List (List ℕ)) : Type 0 where
  pub done : List (List ℕ)
  pub wrote : Wrote buffer mid 0 (bytes_of done) at
  pub goes : done ++ in_front front rest ≡ in_front front (paths_of count paths)
  pub within : length (bytes_of rest) ≤ length paths
  pub small : at + length (bytes_of rest) + 16 * length rest ≤ length paths + 16 * count

pub fronting_start : {buffer front paths : List ℕ} {count : ℕ} → FrontFits buffer front count paths
    → Fronting buffer front count paths buffer 0 (paths_of count paths)
unfolding bytes_of flatten
fronting_start {buffer} {paths = paths} {count} f =
    let n = paths_count count paths in
    let b = ap length (set_bytes count paths f.ends) in
    record {
      done = [];
      wrote = wrote_none buffer 0 (omega arith);
      goes = refl;
      within = omega arith;
      small = omega arith;
    }

module _ {buffer front paths mid : List ℕ} {count at : ℕ} (f : FrontFits buffer front count paths) where
  module _ {path : List ℕ} {rest : List (List ℕ)} (u : Fronting buffer front count paths mid at (path ∷ rest)) where
    pub fronting_fits : (length front + length path < 256) × (at + length front + length path + 1 ≤ length mid)
    fronting_fits =
        let l = bytes_more path rest in
        let s = u.small in
        let k = u.wrote.kept in
        let w = u.within in
        let a = f.front_short in
        let b = f.paths_short in
        let r = f.room in
        (omega arith, omega arith)

    pub fronting_next : {end : List ℕ} {last : ℕ} → Sized mid end at (path_bytes (front ++ path)) (length front + length path + 1) last
        → Fronting buffer front count paths end last rest
    unfolding in_front bytes_of flatten
    fronting_next {end} {last} w =
        let l = bytes_more path rest in
        let s = u.small in
        let a = f.front_short in
        let z = w.size in
        let one = (front ++ path) ∷ [] in
        record {
          done = u.done ++ one;
          wrote = wrote_is
              (ap (λ (l : List ℕ). bytes_of u.done ++ l) (sym (append-nil (path_bytes (front ++ path)))) ∙ sym (bytes_append u.done one))
              (wrote_more u.wrote w.wrote);
          goes = append_assoc u.done one (in_front front rest) ∙ u.goes;
          within = let k = u.within in omega arith;
          small = omega arith;
        }

  pub fronting_end : Fronting buffer front count paths mid at [] → Fronted buffer front count paths mid at
  unfolding in_front
  fronting_end u =
      let done : u.done ≡ in_front front (paths_of count paths) = sym (append-nil u.done) ∙ u.goes in
      let k = u.wrote.kept in
      record {
        holds = set_in (in_front front (paths_of count paths)) (let r = u.wrote.room in let a = u.wrote.after in omega arith)
            (sym (length-map (paths_of count paths) (λ (p : List ℕ). front ++ p) ∙ paths_count count paths))
            (wrote_part u.wrote ∙ ap bytes_of done);
        kept = k;
        shorter = let s = u.small in omega arith;
      }
