-- One set united with another, whose paths have lost their first symbols.
use Rattle.std.specs.Prelude.{ℕ, ◌+◌, ◌-◌, ◌<◌, ◌≤◌, ◌≡◌, refl, true, take, drop}
use Rattle.std.proofs.Math.Path.{sym, ap}
use Rattle.std.proofs.Common.{◌∙◌, length-drop, drop_of_length-le}
use mathlib.Core.List.{List, [], ◌∷◌, map}
use native.Mathlib.Omega.{arith}
use Rattle.std.proofs.Math.ListN.{length}
use borrow.Author.Rules.{part_to_end}
use Rattle.read_record.specs.BodyParts.{paths_end, paths_of}
use Rattle.read_record.specs.KeyPaths.{paths_count}
use Rattle.write_bytes.specs.Wrote.{Wrote, wrote_part}
use Rattle.theory_derive.specs.Sets.{insert, unite}
use Rattle.write_set.specs.Encoded.{SetIn, bytes_of, bytes_more, set_bytes}
use Rattle.write_set.specs.Inserts.{InsertFits, Inserted}

pub beyond_none : (path : List ℕ) (front : ℕ) → length path < front → take (length path - length path) (drop (length path) path) ≡ drop front path
beyond_none path front h =
    part_to_end path (length path) ∙ drop_of_length-le path {i = length path} (omega arith) ∙ sym (drop_of_length-le path {i = front} (omega arith))

pub record UniteFits (buffer : List ℕ) (count : ℕ) (set : List ℕ) (more : ℕ) (paths : List ℕ) : Type 0 where
  pub set_ends : paths_end count set ≡ true
  pub ends : paths_end more paths ≡ true
  pub small : length set + length paths ≤ 128
  pub room : 128 ≤ length buffer
  pub few : count + more < 256

unfoldable pub united_of : ℕ → List ℕ → ℕ → ℕ → List ℕ → List (List ℕ)
united_of count set front more paths = unite (paths_of count set) (map (drop front) (paths_of more paths))

pub record United (buffer : List ℕ) (count : ℕ) (set : List ℕ) (front more : ℕ) (paths end : List ℕ) (many used : ℕ) : Type 0 where
  pub holds : SetIn end many used (united_of count set front more paths)
  pub kept : length end ≡ length buffer
  pub fewer : many ≤ count + more
  pub shorter : used ≤ length set + length paths

-- These paths are left to be put in
pub record Uniting (buffer : List ℕ) (count : ℕ) (set : List ℕ) (front more : ℕ) (paths mid : List ℕ) (many used : ℕ) (rest : List (List ℕ)) : Type 0 where
  pub holds : paths_end many (take used mid) ≡ true
  pub goes : unite (paths_of many (take used mid)) (map (drop front) rest) ≡ united_of count set front more paths
  pub kept : length mid ≡ length buffer
  pub fewer : many + length rest ≤ count + more
  pub shorter : used + length (bytes_of rest) ≤ length set + length paths

pub uniting_start : {buffer mid set paths : List ℕ} {count more used : ℕ} (front : ℕ) → UniteFits buffer count set more paths → Wrote buffer mid 0 set used
    → Uniting mid count set front more paths mid count used (paths_of more paths)
unfolding united_of
uniting_start {set = set} {paths} {count} {more} {used} front f w =
    let n = paths_count more paths in
    let b = ap length (set_bytes more paths f.ends) in
    record {
      holds = ap (paths_end count) (wrote_part w) ∙ f.set_ends;
      goes = ap (λ (l : List ℕ). unite (paths_of count l) (map (drop front) (paths_of more paths))) (wrote_part w);
      kept = refl;
      fewer = omega arith;
      shorter = let a = w.after in omega arith;
    }

-- the buffer after the first set was copied is no shorter
pub unite_fits_in : {entry buffer set paths : List ℕ} {count more used : ℕ} → UniteFits entry count set more paths → Wrote entry buffer 0 set used
    → UniteFits buffer count set more paths
unite_fits_in f w =
    record { set_ends = f.set_ends; ends = f.ends; small = f.small; room = let r = f.room in let k = w.kept in omega arith; few = f.few }

module _ {buffer set paths mid : List ℕ} {count front more many used : ℕ} (f : UniteFits buffer count set more paths) where
  module _ {p : List ℕ} {rest : List (List ℕ)} (u : Uniting buffer count set front more paths mid many used (p ∷ rest)) {path : List ℕ} (is : path ≡ drop front p) where
    path_room : length path + 1 + length (bytes_of rest) ≤ length (bytes_of (p ∷ rest))
    path_room =
        let l = bytes_more p rest in
        let e = ap length is in
        let d = length-drop front p in
        omega arith

    pub uniting_fits : InsertFits mid many used path
    uniting_fits =
        let r = path_room in
        let s = u.shorter in
        let k = u.kept in
        let n = u.fewer in
        let m = f.small in
        let o = f.room in
        let q = f.few in
        record { few = omega arith; path_short = omega arith; small = omega arith; room = omega arith; ends = u.holds }

    pub uniting_next : {end : List ℕ} {grown last : ℕ} → Inserted mid many used path end grown last → Uniting buffer count set front more paths end grown last rest
    unfolding unite
    uniting_next {end} {grown} {last} i =
        let r = path_room in
        let s = u.shorter in
        record {
          holds = i.holds.ends;
          goes = ap (λ (l : List (List ℕ)). unite l (map (drop front) rest))
              (i.holds.are ∙ ap (λ (x : List ℕ). insert x (paths_of many (take used mid))) is)
              ∙ u.goes;
          kept = i.kept ∙ u.kept;
          fewer = let a = i.fewer in let b = u.fewer in omega arith;
          shorter = let a = i.shorter in omega arith;
        }

  pub uniting_end : {entry : List ℕ} {start : ℕ} → Uniting buffer count set front more paths mid many used [] → Wrote entry buffer 0 set start
      → United entry count set front more paths mid many used
  unfolding unite
  uniting_end u w =
      let s = u.shorter in
      let k = u.kept in
      let m = f.small in
      let o = f.room in
      record {
        holds = record { within = omega arith; number = sym (ap length (sym u.goes) ∙ paths_count many (take used mid)); ends = u.holds; are = u.goes };
        kept = k ∙ w.kept;
        fewer = let b = u.fewer in omega arith;
        shorter = omega arith;
      }
