-- A path put into a set in a buffer.
use Rattle.std.specs.Prelude.{ℕ, zero, suc, ◌+◌, ◌-◌, ◌<◌, ◌≤◌, ◌≡◌, refl, true}
use Rattle.std.proofs.Math.Path.{sym, ap, ap₂}
use Rattle.std.specs.List.{copy_within}
use Rattle.std.proofs.Common.{◌∙◌, arith, length-append, take-take, drop_at}
use Rattle.std.proofs.lemmas.List.{take-append-le}
use mathlib.Core.List.{List, [], ◌∷◌, ◌++◌, append_assoc}
use Rattle.std.proofs.Math.ListN.{length, take, drop, length-drop}
use Rattle.std.proofs.Math.Seq.{take_at, length-take-le, take-nil}
use Rattle.meaning.specs.Records.{path_bytes}
use Rattle.read_record.specs.BodyParts.{paths_end, paths_of}
use Rattle.read_record.specs.KeyPaths.{paths_count}
use Rattle.write_bytes.specs.Wrote.{written}
use Rattle.write_line.specs.LineParts.{Sized}
use Rattle.theory_derive.specs.Sets.{insert}
use Rattle.write_set.specs.Encoded.{SetIn, set_in}
use Rattle.write_set.specs.Places.{PlaceIn}

-- The path stands behind the first bytes, and what stood there behind it
pub record Spliced (buffer : List ℕ) (passed used : ℕ) (path end : List ℕ) (last : ℕ) : Type 0 where
  pub bytes : take last end ≡ take passed buffer ++ (path_bytes path ++ drop passed (take used buffer))
  pub kept : length end ≡ length buffer
  pub used_up : last ≡ used + length path + 1

pub record InsertFits (buffer : List ℕ) (count used : ℕ) (path : List ℕ) : Type 0 where
  pub few : count < 256
  pub path_short : length path < 256
  pub small : used ≤ 128
  pub room : used + length path + 1 ≤ length buffer
  pub ends : paths_end count (take used buffer) ≡ true

pub record Inserted (buffer : List ℕ) (count used : ℕ) (path end : List ℕ) (many last : ℕ) : Type 0 where
  pub holds : SetIn end many last (insert path (paths_of count (take used buffer)))
  pub kept : length end ≡ length buffer
  pub fewer : many ≤ count + 1
  pub shorter : last ≤ used + length path + 1

-- a part of a slice is what stands between two places
pub drop_of_take : (a b : ℕ) (l : List ℕ) → a ≤ b → drop a (take b l) ≡ take (b - a) (drop a l)
drop_of_take zero b l h = let e : b ≡ b - 0 = omega arith in ap (λ (n : ℕ). take n l) e
drop_of_take (suc a) zero l h = absurd (omega arith)
drop_of_take (suc a) (suc b) [] h = sym (take-nil (suc b - suc a))
drop_of_take (suc a) (suc b) (x ∷ l) h =
    let e : b - a ≡ suc b - suc a = omega arith in drop_of_take a b l (omega arith) ∙ ap (λ (n : ℕ). take n (drop a l)) e

pub spliced : {buffer mid end path : List ℕ} {passed used next : ℕ} → mid ≡ copy_within buffer passed used (passed + length path + 1)
    → Sized mid end passed (path_bytes path) (length path + 1) next → passed ≤ used → used + length path + 1 ≤ length buffer
    → Spliced buffer passed used path end (used + length path + 1)
unfolding written path_bytes
spliced {buffer} {mid} {end} {path} {passed} {used} m w order room =
    let dest = passed + length path + 1 in
    let moved = take (used - passed) (drop passed buffer) in
    let tail = drop (dest + (used - passed)) buffer in
    let l : length (take dest buffer) ≡ dest = length-take-le dest buffer (omega arith) in
    let whole : mid ≡ take dest buffer ++ (moved ++ tail) = m ∙ append_assoc (take dest buffer) moved tail in
    let front : take passed mid ≡ take passed buffer =
    ap (take passed) whole ∙ take-append-le passed (take dest buffer) (moved ++ tail) (omega arith) ∙ take-take passed dest buffer (omega arith) in
    let back : drop (passed + length (path_bytes path)) mid ≡ moved ++ tail =
    ap (drop (passed + length (path_bytes path))) whole ∙ drop_at (take dest buffer) (moved ++ tail) (passed + length (path_bytes path)) (omega arith) in
    let all : end ≡ (take passed buffer ++ (path_bytes path ++ moved)) ++ tail =
    w.wrote.bytes ∙ ap₂ (λ (a b : List ℕ). a ++ (path_bytes path ++ b)) front back
    ∙ ap (λ (a : List ℕ). take passed buffer ++ a) (sym (append_assoc (path_bytes path) moved tail))
    ∙ sym (append_assoc (take passed buffer) (path_bytes path ++ moved) tail) in
    let n : length (take passed buffer) ≡ passed = length-take-le passed buffer (omega arith) in
    let r : length moved ≡ used - passed = length-take-le (used - passed) (drop passed buffer) (let d = length-drop passed buffer in omega arith) in
    let long : length (take passed buffer ++ (path_bytes path ++ moved)) ≡ used + length path + 1 =
    let x = length-append (take passed buffer) (path_bytes path ++ moved) in let y = length-append (path_bytes path) moved in omega arith in
    record {
      bytes =
          ap (take (used + length path + 1)) all ∙ take_at (take passed buffer ++ (path_bytes path ++ moved)) tail (used + length path + 1) long
          ∙ ap (λ (a : List ℕ). take passed buffer ++ (path_bytes path ++ a)) (sym (drop_of_take passed used buffer order));
      kept = w.wrote.kept ∙ (let k = ap length m in let x = length-append (take dest buffer) (moved ++ tail) in
          let y = length-append moved tail in let z = length-drop (dest + (used - passed)) buffer in let v = ap length whole in omega arith);
      used_up = refl;
    }

-- from where the path belongs
pub spliced_in : {buffer path end : List ℕ} {grown : List (List ℕ)} {count used passed last : ℕ} → PlaceIn grown count (take used buffer) path passed
    → Spliced buffer passed used path end last → used + length path + 1 ≤ length buffer → SetIn end (count + 1) last grown
spliced_in {buffer} {path} {end} {grown} {count} {used} {passed} {last} p s r =
    let l = length-take-le used buffer (omega arith) in
    let b = p.within in
    set_in grown (let k = s.kept in let q = s.used_up in omega arith) p.more
    (s.bytes ∙ ap (λ (u : List ℕ). u ++ (path_bytes path ++ drop passed (take used buffer))) (sym (take-take passed used buffer (omega arith)))
    ∙ sym p.new)

module _ {buffer path : List ℕ} {count used : ℕ} (f : InsertFits buffer count used path) where
  pub inserted_held : insert path (paths_of count (take used buffer)) ≡ paths_of count (take used buffer) → Inserted buffer count used path buffer count used
  inserted_held e =
      let r = f.room in
      record {
        holds = record {
          within = omega arith;
          number = sym (ap length e ∙ paths_count count (take used buffer));
          ends = f.ends;
          are = sym e;
        };
        kept = refl;
        fewer = omega arith;
        shorter = omega arith;
      }

  pub inserted_new : {passed : ℕ} {end : List ℕ} {last : ℕ} → PlaceIn (insert path (paths_of count (take used buffer))) count (take used buffer) path passed
      → Spliced buffer passed used path end last → Inserted buffer count used path end (count + 1) last
  inserted_new p s =
      let u = s.used_up in
      record { holds = spliced_in p s f.room; kept = s.kept; fewer = omega arith; shorter = omega arith }
