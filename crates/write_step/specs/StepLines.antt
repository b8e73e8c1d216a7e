-- The lines of a step over the bytes that the code has; theory_derive's lines are the same (Derived).
use Rattle.std.specs.Prelude.{ℕ, ◌+◌, ◌-◌, ◌≤◌, ◌≡◌, Bool, true, false, cond, length, take, drop}
use Rattle.std.proofs.Common.{sym, ◌∙◌, ap₂, subst, arith}
use Rattle.std.proofs.Math.Path.{ap}
use mathlib.Core.List.{List, [], ◌∷◌, ◌++◌, map}
use Rattle.meaning.specs.Rules.{Line, with_empty}
use Rattle.meaning.specs.Keys.{Key}
use Rattle.meaning.specs.Records.{key_in}
use Rattle.read_record.specs.BodyParts.{paths_end, paths_of}
use Rattle.read_record.specs.KeyPaths.{AtPath}
use Rattle.write_bytes.specs.Wrote.{Wrote, wrote_part}
use Rattle.write_set.specs.Encoded.{SetIn}
use Rattle.write_set.specs.Unions.{UniteFits, United, united_of}
use Rattle.write_set.specs.Fronts.{in_front}
use Rattle.theory_derive.specs.Sets.{insert, unite}
use Rattle.theory_pattern.specs.Spots.{holds_empty}
use Rattle.theory_derive.specs.Written.{key_of, two_line, one_line}
use Rattle.write_step.specs.Fits.{KeyBody, body_set}
use Rattle.write_step.specs.Lines.{WroteLines, lines_more, lines_is}
pub use Rattle.write_step.specs.RowKeys.{between}
use Rattle.write_step.specs.RowKeys.{key_along, SmallSet}

unfoldable pub opening_of : (row : List ℕ) (s : Key) (number i k lines : ℕ) → List Line
opening_of row s number i k lines =
    one_line 0 number (key_of s.context s.target s.paths) ∷ one_line 5 lines (key_of (take i row) s.target s.paths)
    ∷ one_line 6 (lines + 1) (key_along row i k s.paths) ∷ []

unfoldable pub united_by : (asked s : Key) (front : ℕ) → List (List ℕ)
united_by asked s front = cond (holds_empty asked) (unite asked.paths (map (drop front) s.paths)) asked.paths

-- the lines up to the two that rule 9 joins
abbrev pub meeting_lines_of : (row : List ℕ) (n : ℕ) (asked : Key) (U : List (List ℕ)) (i k lines : ℕ) → List Line
meeting_lines_of row n asked U i k lines =
    one_line 3 (lines + 2) (key_along row i k (in_front (between k n row) U)) ∷ one_line 7 (lines - 1) (key_along row k n asked.paths)
    ∷ one_line 3 (lines + 4) (key_along row k n U) ∷ []

unfoldable pub chain_lines_of : (row : List ℕ) (n : ℕ) (asked : Key) (U : List (List ℕ)) (i k lines : ℕ) → List Line
chain_lines_of row n asked U i k lines =
    meeting_lines_of row n asked U i k lines
    ++ (two_line 9 (lines + 3) (lines + 5) (key_along row i n U)
    ∷ cond (holds_empty asked) (one_line 2 (lines + 6) (key_along row i n asked.paths) ∷ []) [])

unfoldable pub end_lines_of : (row : List ℕ) (n : ℕ) (asked : Key) (i lines : ℕ) → List Line
end_lines_of row n asked i lines =
    one_line 4 (lines + 2) (key_along row i n (between n (length row) row ∷ [])) ∷ one_line 3 (lines + 3) (key_along row i n asked.paths) ∷ []

unfoldable pub empty_lines_of : (row : List ℕ) (n : ℕ) (asked s : Key) (i k lines : ℕ) → List Line
empty_lines_of row n asked s i k lines =
    one_line 3 (lines + 2) (key_along row i k (insert [] s.paths))
    ∷ one_line 2 (lines + 3) (key_along row i k (with_empty (between k (length row) row)))
    ∷ one_line 8 (lines + 4) (key_along row i n (with_empty (between n (length row) row)))
    ∷ one_line 3 (lines + 5) (key_along row i n asked.paths) ∷ []

-- ---- one law for each return; what was written last stands first

module _ {o a b d : List ℕ} {at p q r : ℕ} (row : List ℕ) (s : Key) (number i k lines : ℕ) where
  pub opening_wrote : {C X : List ℕ} → WroteLines b d q (one_line 6 (lines + 1) (key_along row i k s.paths) ∷ []) r
      → WroteLines a b p (one_line 5 lines (key_of (take i row) X s.paths) ∷ []) q
      → WroteLines o a at (one_line 0 number (key_of C X s.paths) ∷ []) p → C ≡ s.context → X ≡ s.target
      → WroteLines o d at (opening_of row s number i k lines) r
  unfolding opening_of
  opening_wrote u v w c x =
      lines_is
      (ap₂ (λ (C X : List ℕ). one_line 0 number (key_of C X s.paths) ∷ one_line 5 lines (key_of (take i row) X s.paths) ∷ one_line 6 (lines + 1) (key_along row i k s.paths) ∷ [])
      c x)
      (lines_more w (lines_more v u))

module _ {o a b : List ℕ} {at p q : ℕ} (row : List ℕ) (n : ℕ) (asked : Key) (U : List (List ℕ)) (i k lines : ℕ) where
  pub chain_wrote : WroteLines a b p (two_line 9 (lines + 3) (lines + 5) (key_along row i n U) ∷ []) q
      → WroteLines o a at (meeting_lines_of row n asked U i k lines) p → {e : Bool} → e ≡ holds_empty asked → e ≡ false
      → WroteLines o b at (chain_lines_of row n asked U i k lines) q
  unfolding chain_lines_of
  chain_wrote v w e t = rw (sym e ∙ t) (lines_more w v)

  pub chain_wrote_empty : {d : List ℕ} {r : ℕ} → WroteLines b d q (one_line 2 (lines + 6) (key_along row i n asked.paths) ∷ []) r
      → WroteLines a b p (two_line 9 (lines + 3) (lines + 5) (key_along row i n U) ∷ []) q
      → WroteLines o a at (meeting_lines_of row n asked U i k lines) p → {e : Bool} → e ≡ holds_empty asked → e ≡ true
      → WroteLines o d at (chain_lines_of row n asked U i k lines) r
  unfolding chain_lines_of
  chain_wrote_empty u v w e t = rw (sym e ∙ t) (lines_more w (lines_more v u))

pub end_wrote : {o a b : List ℕ} {at p q : ℕ} (row : List ℕ) (n : ℕ) (asked : Key) (i lines : ℕ)
    → WroteLines a b p (one_line 3 (lines + 3) (key_along row i n asked.paths) ∷ []) q
    → WroteLines o a at (one_line 4 (lines + 2) (key_along row i n (between n (length row) row ∷ [])) ∷ []) p
    → WroteLines o b at (end_lines_of row n asked i lines) q
unfolding end_lines_of
end_wrote row n asked i lines v w = lines_more w v

pub empty_wrote : {o a b c d : List ℕ} {at p q r t : ℕ} (row : List ℕ) (n : ℕ) (asked s : Key) (i k lines : ℕ)
    → WroteLines c d r (one_line 3 (lines + 5) (key_along row i n asked.paths) ∷ []) t
    → WroteLines b c q (one_line 8 (lines + 4) (key_along row i n (with_empty (between n (length row) row))) ∷ []) r
    → WroteLines a b p (one_line 2 (lines + 3) (key_along row i k (with_empty (between k (length row) row))) ∷ []) q
    → WroteLines o a at (one_line 3 (lines + 2) (key_along row i k (insert [] s.paths)) ∷ []) p
    → WroteLines o d at (empty_lines_of row n asked s i k lines) t
unfolding empty_lines_of
empty_wrote row n asked s i k lines x u v w = lines_more w (lines_more v (lines_more u x))

-- ---- U

module _ {buffer asked cited set : List ℕ} {many : ℕ} (ka : KeyBody asked) (kc : KeyBody cited)
    (a : AtPath (key_in asked).paths 0 set) (n : many ≡ length (key_in asked).paths) where
  pub unite_fits : {bytes : List ℕ} {count : ℕ} → AtPath (key_in cited).paths 0 bytes → count ≡ length (key_in cited).paths → 128 ≤ length buffer → UniteFits buffer many set count bytes
  unite_fits b m r =
      let s = body_set ka a n in
      let t = body_set kc b m in
      let sf = s.few in
      let tf = t.few in
      let ss = s.short in
      let ts = t.short in
      record { set_ends = s.ends; ends = t.ends; small = omega arith; room = r; few = omega arith }

  pub united_yes : {bytes : List ℕ} {count : ℕ} (front : ℕ) → AtPath (key_in cited).paths 0 bytes → count ≡ length (key_in cited).paths
      → {e : Bool} → e ≡ holds_empty (key_in asked) → e ≡ true
      → {end : List ℕ} {all used : ℕ} → United buffer many set front count bytes end all used → SmallSet buffer end all used (united_by (key_in asked) (key_in cited) front)
  unfolding united_by united_of
  united_yes front b m e t {end} {all} {used} u =
      let s = body_set ka a n in
      let v = body_set kc b m in
      let sf = s.few in
      let tf = v.few in
      let ss = s.short in
      let ts = v.short in
      record {
        holds = rw (sym e ∙ t) (subst (SetIn end all used) (ap₂ (λ (x y : List (List ℕ)). unite x (map (drop front) y)) s.are v.are) u.holds);
        kept = u.kept;
        few = let f = u.fewer in omega arith;
        short = let f = u.shorter in omega arith;
      }

  pub united_no : (front : ℕ) → {e : Bool} → e ≡ holds_empty (key_in asked) → e ≡ false → {end : List ℕ} {used : ℕ} → Wrote buffer end 0 set used
      → SmallSet buffer end many used (united_by (key_in asked) (key_in cited) front)
  unfolding united_by
  united_no front e t {end} {used} w =
      let s = body_set ka a n in
      let sf = s.few in
      let ss = s.short in
      let l = w.after in
      let r = w.room in
      let k = w.kept in
      record {
        holds = rw (sym e ∙ t)
            (record {
              within = omega arith;
              number = n;
              ends = ap (paths_end many) (wrote_part w) ∙ s.ends;
              are = ap (paths_of many) (wrote_part w) ∙ s.are;
            });
        kept = k;
        few = omega arith;
        short = omega arith;
      }

-- U in the local buffer is the set that the lines are written with
pub chain_united : {o d buffer end : List ℕ} {at t count used : ℕ} (row : List ℕ) (n : ℕ) (asked : Key) {U : List (List ℕ)} (i k lines : ℕ)
    → SmallSet buffer end count used U → WroteLines o d at (chain_lines_of row n asked (paths_of count (take used end)) i k lines) t
    → WroteLines o d at (chain_lines_of row n asked U i k lines) t
chain_united row n asked i k lines u w = lines_is (ap (λ (x : List (List ℕ)). chain_lines_of row n asked x i k lines) u.holds.are) w
