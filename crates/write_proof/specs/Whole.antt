-- One law for each return of the writers of a step and of the proof.
use Prim.Native.Nat.{ℕ, zero, suc, ◌+◌, ◌-◌, ◌*◌, ◌<◌, ◌≤◌}
use Rattle.std.specs.Prelude.{◌≡◌, refl, Bool, true, false, ltb, get_or, drop}
use Rattle.std.proofs.Math.Path.{sym, ap, ap₂}
use Rattle.std.proofs.Common.{◌∙◌, subst, length-take, length-drop, le-leb, le-ltb, lt-ltb}
use Rattle.std.proofs.Math.Bool.{cond}
use mathlib.Core.List.{List, [], ◌∷◌, ◌++◌, append_assoc}
use native.Mathlib.Omega.{arith}
use Rattle.std.proofs.Math.Numerals.{sub-one}
use Rattle.std.proofs.Math.ListN.{length, take}
use borrow.Author.Rules.{part_to_end}
use Rattle.std.proofs.lemmas.Bool.{lt-leb}
use Rattle.meaning.specs.Rules.{Line}
use Rattle.meaning.specs.Keys.{Key}
use Rattle.meaning.specs.Records.{key_in, record_length, record_body}
use Rattle.meaning.specs.Operations.{records_from}
use Rattle.meaning.specs.Pattern.{t_of}
use Rattle.theory_pattern.specs.Spots.{Taken as Step, chain_of, row_of, holds_empty}
use Rattle.theory_pattern.specs.Rows.{chain_length}
use Rattle.theory_derive.specs.Written.{key_of, key_at, one_line, step_lines, first_line}
use Rattle.write_bytes.specs.Wrote.{Wrote, wrote_more, wrote_part}
use Rattle.write_step.specs.Fits.{KeyBody, OfKeyFits}
use Rattle.write_step.specs.Lines.{WroteLines, lines_more, lines_is, lines_none}
use Rattle.write_step.specs.StepLines.{opening_of, united_by, chain_lines_of, end_lines_of, empty_lines_of}
use Rattle.step_search.specs.declared.firing.Taken.{Taken}
use Rattle.write_proof.specs.Derived.{KeyNormal, key_normal}
use Rattle.write_proof.specs.Sizes.{size_of, step_size, size_few}
use Rattle.step_search.specs.Ranges.{step_of}
use Rattle.step_search.specs.Finding.{steps_below}
use Rattle.write_proof.specs.Asks
use Rattle.write_proof.specs.Asks.{StepRoom, SpotReady}
use Rattle.write_proof.specs.Cited.{step_on, step_on_is, cited_key, taken_by, lines_by, proof_by}

-- ---- the three ends of a step

module _ {o a b : List ℕ} {at p q : ℕ} (row : List ℕ) (asked s : Key) (number i k lines : ℕ) {chain : ℕ} (t : chain ≡ t_of asked)
    (w : WroteLines o a at (opening_of row s number i k lines) p) where
  pub on_chain : k ≤ chain → WroteLines a b p (chain_lines_of row chain asked (united_by asked s (chain - k)) i k lines) q
      → WroteLines o b at (step_on row asked s number i k lines) q
  unfolding step_on
  on_chain h v =
      rw (le-leb k (t_of asked) (omega arith))
      (lines_more w (subst (λ (n : ℕ). WroteLines a b p (chain_lines_of row n asked (united_by asked s (n - k)) i k lines) q) t v))

  pub on_empty : chain < k → {e : Bool} → e ≡ holds_empty asked → e ≡ true → WroteLines a b p (empty_lines_of row chain asked s i k lines) q
      → WroteLines o b at (step_on row asked s number i k lines) q
  unfolding step_on
  on_empty h e y v =
      rw (lt-leb k (t_of asked) (omega arith), sym e ∙ y)
      (lines_more w (subst (λ (n : ℕ). WroteLines a b p (empty_lines_of row n asked s i k lines) q) t v))

  pub on_end : chain < k → {e : Bool} → e ≡ holds_empty asked → e ≡ false → WroteLines a b p (end_lines_of row chain asked i lines) q
      → WroteLines o b at (step_on row asked s number i k lines) q
  unfolding step_on
  on_end h e y v =
      rw (lt-leb k (t_of asked) (omega arith), sym e ∙ y)
      (lines_more w (subst (λ (n : ℕ). WroteLines a b p (end_lines_of row n asked i lines) q) t v))

pub chain_is_t : (body : List ℕ) {C X : List ℕ} → C ≡ (key_in body).context → X ≡ (key_in body).target → length C + length X ≡ t_of (key_in body)
unfolding t_of
chain_is_t body c x = ap₂ (λ (a b : ℕ). a + b) (ap length c) (ap length x)

-- the opening has three lines
pub opening_short : {o a : List ℕ} {at p : ℕ} (row : List ℕ) (s : Key) (number i k lines : ℕ) → WroteLines o a at (opening_of row s number i k lines) p → p ≤ at + 768
unfolding opening_of
opening_short row s number i k lines w = let h = w.short in omega arith

-- over the asked row that was put into the local buffer
pub step_wrote : {o b z row body cited : List ℕ} {at q end : ℕ} (number node branch spot lines : ℕ) → SpotReady body cited node branch spot
    → Wrote z row 0 (row_of (key_in body) branch) end
    → WroteLines o b at (step_on (take end row) (key_in body) (key_in cited) number node spot lines) q
    → WroteLines o b at (step_lines (key_in body) (key_in cited) number node branch spot lines) q
step_wrote {body = body} {cited} number node branch spot lines r w v =
    lines_is
    (ap (λ (l : List ℕ). step_on l (key_in body) (key_in cited) number node spot lines) (wrote_part w)
    ∙ step_on_is (key_in body) (key_in cited) number node branch spot lines r.normal r.on_chain r.above) v

-- ---- the record of a cited key

module _ (profile : List ℕ) (labels n : ℕ) {rest : List ℕ} (e : rest ≡ records_from (labels + n) profile) {end : ℕ} (l : end ≡ record_length rest) where
  pub body_is : take (end - 4) (drop 4 rest) ≡ record_body (records_from (labels + n) profile)
  unfolding record_body
  body_is = ap₂ (λ (m : ℕ) (r : List ℕ). take (m - 4) (drop 4 r)) (l ∙ ap record_length e) e

  pub record_end : end ≡ record_length (records_from (labels + n) profile)
  record_end = l ∙ ap record_length e

  pub record_long : length rest ≡ length (records_from (labels + n) profile)
  record_long = ap length e

pub taken_wrote : {o b cited : List ℕ} {at q : ℕ} (profile : List ℕ) (labels : ℕ) (body : List ℕ) (t : Step) (lines : ℕ) → cited ≡ record_body (records_from (labels + t.key) profile)
    → WroteLines o b at (step_lines (key_in body) (key_in cited) t.key t.node t.branch t.spot lines) q
    → WroteLines o b at (taken_by profile labels (key_in body) t lines) q
unfolding taken_by cited_key
taken_wrote profile labels body t lines e w =
    lines_is (ap (λ (c : List ℕ). step_lines (key_in body) (key_in c) t.key t.node t.branch t.spot lines) e) w

-- ---- the first line and the last

-- "K n is rule 1 .."; where the loop ended above t, K u is rule 10
pub rule_above : (u t : ℕ) → u < t → ◌≡◌ {A = ℕ} 10 (cond (ltb u t) 10 1)
rule_above u t h = rw (lt-ltb u t h)

pub rule_end : (u t : ℕ) → t ≤ u → ◌≡◌ {A = ℕ} 1 (cond (ltb u t) 10 1)
rule_end u t h = rw (le-ltb u t h)

-- the line of the first key, split at u
module _ {body row : List ℕ} (k : KeyBody body) (is : row ≡ chain_of (key_in body)) (u : ℕ) {rule : ℕ} (told : rule ≡ cond (ltb u (length row)) 10 1) where
  long : length row ≡ t_of (key_in body)
  long = ap length is ∙ chain_length (key_in body)

  rule_short : rule < 256
  rule_short = subst (λ (n : ℕ). n < 256) (sym told) (go (ltb u (length row)))
    where
      go : (b : Bool) → cond b 10 1 < 256
      go true = omega arith
      go false = omega arith

  pub split_fits : {out : List ℕ} → u ≤ length row → 256 ≤ length out → OfKeyFits out 0 rule (take u row) (take (length row - u) (drop u row)) body
  split_fits h r =
      let l = long in
      let n = Asks.chain_short k in
      let a = length-take u row in
      let b = ap length (part_to_end row u) ∙ length-drop u row in
      record {
        rule_fits = rule_short;
        line_room = record { context_short = omega arith; target_short = omega arith; room = omega arith };
        key = k;
      }

  pub split_wrote : {o b : List ℕ} {r : ℕ}
      → WroteLines o b 0 (one_line rule 65535 (key_of (take u row) (take (length row - u) (drop u row)) (key_in body).paths) ∷ []) r
      → WroteLines o b 0 (first_line (key_in body) u ∷ []) r
  unfolding first_line key_at
  split_wrote w =
      lines_is
      (ap₂ (λ (n : ℕ) (l : List ℕ). one_line n 65535 (key_of (take u row) l (key_in body).paths) ∷ [])
      (told ∙ ap (λ (m : ℕ). cond (ltb u m) 10 1) long) (part_to_end row u)
      ∙ ap (λ (l : List ℕ). one_line (cond (ltb u (t_of (key_in body))) 10 1) 65535 (key_of (take u l) (drop u l) (key_in body).paths) ∷ []) is)
      w

module _ {body C X : List ℕ} (k : KeyBody body) (c : C ≡ (key_in body).context) (x : X ≡ (key_in body).target) where
  -- the line that is put together
  pub chain_put : {z y row : List ℕ} {i end : ℕ} → Wrote z y 0 C i → Wrote y row i X end → take end row ≡ chain_of (key_in body)
  unfolding chain_of
  chain_put w v = wrote_part (wrote_more w v) ∙ ap₂ (λ (a b : List ℕ). a ++ b) c x

  pub last_fits : {out : List ℕ} {at : ℕ} → at + 256 ≤ length out → OfKeyFits out at 7 C X body
  last_fits r =
      let d = ap length c in
      let e = ap length x in
      let u = k.fits.context_short in
      let m = k.fits.target_short in
      record { rule_fits = omega arith; line_room = record { context_short = omega arith; target_short = omega arith; room = r }; key = k }

  pub last_is : KeyNormal (key_in body) → key_of C X (key_in body).paths ≡ key_in body
  last_is n = ap₂ (λ (A B : List ℕ). key_of A B (key_in body).paths) c x ∙ key_normal (key_in body) n

-- ---- the loop, last step first

pub record Writing (profile : List ℕ) (labels : ℕ) (asked : Key) (steps : List Taken) (count : ℕ) (start out : List ℕ) (from at lines left : ℕ) : Type 0 where
  pub done : List Line
  pub wrote : WroteLines start out from done at
  pub goes : done ++ lines_by profile labels asked lines (steps_below steps left) ≡ lines_by profile labels asked 1 (steps_below steps count)
  pub some : 1 ≤ lines
  pub within : left ≤ count
  pub lines_few : lines + 8 * left ≤ 1 + 8 * count
  pub at_few : at + 2048 * left ≤ from + 2048 * count

pub writing_start : (profile : List ℕ) (labels : ℕ) (asked : Key) (steps : List Taken) (count : ℕ) (out : List ℕ) (at : ℕ) → at ≤ length out
    → Writing profile labels asked steps count out out at at 1 count
writing_start profile labels asked steps count out at h =
    record {
      done = [];
      wrote = lines_none out at h;
      goes = refl;
      some = omega arith;
      within = omega arith;
      lines_few = omega arith;
      at_few = omega arith;
    }

module _ {profile : List ℕ} {labels : ℕ} {asked : Key} {steps : List Taken} {count : ℕ} {start out : List ℕ} {from at lines left : ℕ}
    (w : Writing profile labels asked steps count start out from at lines left) where
  pub writing_room : count ≤ 8 → 65536 ≤ length start → from ≤ 256 → 0 < left → StepRoom out at lines
  writing_room c r f h =
      let a = w.at_few in
      let l = w.lines_few in
      let k = w.wrote.wrote.kept in
      record { room = omega arith; some = w.some; few = omega arith }

  steps_left : (n : ℕ) → 0 < n → steps_below steps n ≡ step_of (get_or steps (n - 1) (record { key = 0; node = 0; branch = 0; spot = 0 })) ∷ steps_below steps (n - 1)
  unfolding steps_below
  steps_left zero h = absurd (omega arith)
  steps_left (suc n) h = rw sub-one

  pub writing_next : 0 < left → {end : List ℕ} {next size : ℕ} (t : Step)
      → t ≡ step_of (get_or steps (left - 1) (record { key = 0; node = 0; branch = 0; spot = 0 }))
      → WroteLines out end at (taken_by profile labels asked t lines) next → size ≡ size_of asked t.spot
      → Writing profile labels asked steps count start end from next (lines + size) (left - 1)
  unfolding lines_by taken_by
  writing_next h {end} {next} {size} t e v z =
      let here = taken_by profile labels asked t lines in
      let len : length here ≡ size = step_size asked (cited_key profile (labels + t.key)) t.key t.node t.branch t.spot lines ∙ sym z in
      let few = size_few asked t.spot in
      let s = v.short in
      record {
        done = w.done ++ here;
        wrote = lines_more w.wrote v;
        goes = append_assoc w.done here (lines_by profile labels asked (lines + size) (steps_below steps (left - 1)))
            ∙ ap (λ (l : List Line). w.done ++ l)
            (ap (λ (n : ℕ). here ++ lines_by profile labels asked (lines + n) (steps_below steps (left - 1))) (sym len)
            ∙ sym (ap (lines_by profile labels asked lines) (steps_left left h ∙ ap {B = List Step} (λ (x : Step). x ∷ steps_below steps (left - 1)) (sym e))))
            ∙ w.goes;
        some = let k = w.some in omega arith;
        within = let k = w.within in omega arith;
        lines_few = let k = w.lines_few in omega arith;
        at_few = let k = w.at_few in omega arith;
      }

  pub writing_end : left ≤ 0 → (u : ℕ) {end entry : List ℕ} {r : ℕ} (C X : List ℕ) → key_of C X asked.paths ≡ asked
      → WroteLines entry start 0 (first_line asked u ∷ []) from
      → WroteLines out end at (one_line 7 (lines - 1) (key_of C X asked.paths) ∷ []) r
      → WroteLines entry end 0 (proof_by profile labels asked u (steps_below steps count)) r
  unfolding proof_by lines_by steps_below
  writing_end h u C X k f v =
      let z : left ≡ 0 = omega arith in
      lines_more f
      (lines_is
      (ap (λ (x : Key). w.done ++ (one_line 7 (lines - 1) x ∷ [])) k
      ∙ ap (λ (n : ℕ). w.done ++ lines_by profile labels asked lines (steps_below steps n)) (sym z) ∙ w.goes)
      (lines_more w.wrote v))
