-- One law for each line that is written with a set made for it.
use Rattle.std.specs.Prelude.{ℕ, suc, ◌+◌, ◌≤◌, ◌≡◌, refl, length, take}
use Rattle.std.proofs.Common.{sym, ◌∙◌, ap, subst, arith, le-ltb, ne_eqb}
use mathlib.Core.List.{List, [], ◌∷◌, flatten, append-nil}
use Rattle.meaning.specs.Lists.{same, lower, before}
use Rattle.meaning.specs.Rules.{with_empty}
use Rattle.meaning.specs.Records.{key_in, path_bytes, line_bytes}
use Rattle.read_record.specs.BodyParts.{paths_end, paths_of}
use Rattle.read_record.specs.KeyPaths.{AtPath}
use Rattle.write_bytes.specs.Wrote.{Wrote, wrote_part}
use Rattle.write_line.specs.LineParts.{LineFits, WroteLine, Sized}
use Rattle.write_set.specs.Encoded.{SetIn, set_in, bytes_of}
use Rattle.write_set.specs.Inserts.{InsertFits, Inserted}
use Rattle.theory_derive.specs.Sets.{insert}
use Rattle.theory_derive.specs.Written.{key_of, two_line, one_line}
use Rattle.write_step.specs.Fits.{KeyBody, body_set, OfKeyFits}
use Rattle.write_step.specs.Lines.{WroteLines, line_one}
use Rattle.write_step.specs.RowKeys.{between, PartRoom, SetFits, SmallSet, rest_short, set_in_fits, of_body}

-- ---- the paths of a key

module _ {body bytes : List ℕ} {count : ℕ} (a : AtPath (key_in body).paths 0 bytes) (n : count ≡ length (key_in body).paths) where
  pub of_key_fits : {out context target : List ℕ} {at rule : ℕ} → OfKeyFits out at rule context target body
      → LineFits out at rule context target count bytes
  of_key_fits f =
      let s = body_set f.key a n in
      record {
        rule_fits = f.rule_fits;
        count_fits = omega arith;
        context_short = omega arith;
        target_short = omega arith;
        short = omega arith;
        room = f.line_room.room;
        ends = s.ends;
      }

  pub of_key_wrote : {o e : List ℕ} {at r : ℕ} (rule first : ℕ) (C X : List ℕ) → KeyBody body
      → WroteLine o e at (line_bytes (two_line rule first 65535 (key_of C X (paths_of count bytes)))) r
      → WroteLines o e at (one_line rule first (key_of C X (key_in body).paths) ∷ []) r
  of_key_wrote rule first C X k w = of_body rule first C X k a n (line_one _ w)

-- ---- a set in a local buffer

-- one path
pub one_in : {z buffer path : List ℕ} {used : ℕ} → Sized z buffer 0 (path_bytes path) (length path + 1) used → SetIn buffer 1 used (path ∷ [])
unfolding bytes_of flatten
one_in {path = path} w =
    set_in (path ∷ []) (let r = w.wrote.room in let a = w.wrote.after in let k = w.wrote.kept in omega arith) refl
    (wrote_part w.wrote ∙ sym (append-nil (path_bytes path)))

pub one_fits : {out row z buffer : List ℕ} {at from to used : ℕ} → PartRoom out at row from to
    → Sized z buffer 0 (path_bytes (between to (length row) row)) (length (between to (length row) row) + 1) used → SetFits 1 (take used buffer)
one_fits r w = set_in_fits (one_in w) (omega arith) (let s = w.size in let h = rest_short r in omega arith)

-- {empty, p}
pair_insert : (p : List ℕ) → insert p ([] ∷ []) ≡ with_empty p
unfolding insert with_empty before same lower
pair_insert [] = refl
pair_insert (x ∷ p) = rw (le-ltb (suc (length p)) 0 (omega arith), ne_eqb (suc (length p)) 0 (λ h. omega arith))

empty_in : {buffer mid : List ℕ} {used : ℕ} → Wrote buffer mid 0 (0 ∷ []) used → SetIn mid 1 used ([] ∷ [])
unfolding bytes_of flatten path_bytes
empty_in w = set_in ([] ∷ []) (let r = w.room in let a = w.after in let k = w.kept in omega arith) refl (wrote_part w)

module _ {out row buffer mid : List ℕ} {at from to used : ℕ} (p : PartRoom out at row from to) (w : Wrote buffer mid 0 (0 ∷ []) used) where
  pub pair_fits : 128 ≤ length buffer → InsertFits mid 1 used (between to (length row) row)
  pair_fits b =
      let h = rest_short p in
      let a = w.after in
      let k = w.kept in
      record { few = omega arith; path_short = omega arith; small = omega arith; room = omega arith; ends = (empty_in w).ends }

  pub pair_in : {end : List ℕ} {count last : ℕ} → Inserted mid 1 used (between to (length row) row) end count last
      → SmallSet buffer end count last (with_empty (between to (length row) row))
  pair_in {end} {count} {last} i =
      let h = rest_short p in
      let a = w.after in
      record {
        holds = subst (SetIn end count last) (ap (insert (between to (length row) row)) (empty_in w).are ∙ pair_insert (between to (length row) row))
            i.holds;
        kept = i.kept ∙ w.kept;
        few = let f = i.fewer in omega arith;
        short = let s = i.shorter in omega arith;
      }

-- "S_s with e"
pub with_fits : {buffer mid body bytes : List ℕ} {used count : ℕ} → KeyBody body → AtPath (key_in body).paths 0 bytes → count ≡ length (key_in body).paths
    → Wrote buffer mid 0 bytes used → 128 ≤ length buffer → InsertFits mid count used (take 0 bytes)
with_fits {count = count} k a n w b =
    let s = body_set k a n in
    let c = s.few in
    let l = s.short in
    let u = w.after in
    let m = w.kept in
    record { few = omega arith; path_short = omega arith; small = omega arith; room = omega arith; ends = ap (paths_end count) (wrote_part w) ∙ s.ends }

pub with_in : {buffer mid end body bytes : List ℕ} {used count many last : ℕ} → KeyBody body → AtPath (key_in body).paths 0 bytes
    → count ≡ length (key_in body).paths → Wrote buffer mid 0 bytes used → Inserted mid count used (take 0 bytes) end many last
    → SmallSet buffer end many last (insert [] (key_in body).paths)
with_in {end = end} {count = count} {many} {last} k a n w i =
    let s = body_set k a n in
    let c = s.few in
    let l = s.short in
    let u = w.after in
    record {
      holds = subst (SetIn end many last) (ap (insert []) (ap (paths_of count) (wrote_part w) ∙ s.are)) i.holds;
      kept = i.kept ∙ w.kept;
      few = let f = i.fewer in omega arith;
      short = let x = i.shorter in omega arith;
    }
