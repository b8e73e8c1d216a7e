-- What the writers of the proof ask.
use Rattle.std.specs.Prelude.{ℕ, zero, suc, ◌+◌, ◌<◌, ◌≤◌, ◌≡◌, get_or, take}
use Rattle.std.proofs.Common.{◌∙◌, ap₂}
use Rattle.std.proofs.Math.Path.{ap}
use mathlib.Core.List.{List, [], ◌++◌}
use native.Mathlib.Omega.{arith}
use Rattle.std.proofs.Math.ListN.{length, length-append}
use Rattle.meaning.specs.Lists.{Each, end, also}
use Rattle.meaning.specs.Records.{key_in, record_length, record_body}
use Rattle.meaning.specs.Operations.{records_from}
use Rattle.meaning.specs.Pattern.{t_of}
use Rattle.theory_pattern.specs.Spots.{Taken as Step, chain_of, branch_of, row_of}
use Rattle.theory_pattern.specs.Rows.{chain_length}
use Rattle.write_bytes.specs.Wrote.{Wrote, wrote_more, wrote_is, wrote_part}
use Rattle.write_step.specs.Fits.{KeyBody}
use Rattle.write_step.specs.StepFits.{OpeningFits, StepFits}
use Rattle.write_proof.specs.Derived.{KeyNormal}
use Rattle.step_search.specs.declared.firing.Taken.{Taken}
use Rattle.step_search.specs.Ranges.{step_of}

pub record AskedRow (row body : List ℕ) (branch : ℕ) : Type 0 where
  pub key : KeyBody body
  pub is_branch : branch < length (key_in body).paths
  pub room : 24 ≤ length row

-- room for a step's lines
pub record StepRoom (out : List ℕ) (at lines : ℕ) : Type 0 where
  pub room : at + 2048 ≤ length out
  pub some : 1 ≤ lines
  pub few : lines < 50000

pub record OnRow (out : List ℕ) (at lines : ℕ) (row body cited : List ℕ) (node spot : ℕ) : Type 0 where
  pub space : StepRoom out at lines
  pub key : KeyBody body
  pub cited_key : KeyBody cited
  pub short : length row ≤ 24
  pub chain_within : t_of (key_in body) ≤ length row
  pub on_chain : node ≤ t_of (key_in body)
  pub above : node ≤ spot
  pub within : spot ≤ length row

pub record SpotReady (body cited : List ℕ) (node branch spot : ℕ) : Type 0 where
  pub key : KeyBody body
  pub cited_key : KeyBody cited
  pub normal : KeyNormal (key_in cited)
  pub is_branch : branch < length (key_in body).paths
  pub on_chain : node ≤ t_of (key_in body)
  pub above : node ≤ spot
  pub on_row : spot ≤ length (row_of (key_in body) branch)

-- the cited key's record stands whole at its place
pub record TakenReady (profile : List ℕ) (labels : ℕ) (body : List ℕ) (t : Step) : Type 0 where
  pub small : labels + t.key < 65536
  pub long : 4 ≤ record_length (records_from (labels + t.key) profile)
  pub within : record_length (records_from (labels + t.key) profile) ≤ length (records_from (labels + t.key) profile)
  pub ready : SpotReady body (record_body (records_from (labels + t.key) profile)) t.node t.branch t.spot

pub record ProofReady (out profile : List ℕ) (labels : ℕ) (body : List ℕ) (u : ℕ) (steps : List Taken) (count : ℕ) : Type 0 where
  pub room : 65536 ≤ length out
  pub few : count ≤ 8
  pub key : KeyBody body
  pub normal : KeyNormal (key_in body)
  pub on_chain : u ≤ t_of (key_in body)
  pub each : (n : ℕ) → n < count → TakenReady profile labels body (step_of (get_or steps n (record { key = 0; node = 0; branch = 0; spot = 0 })))

-- ---- sizes of a line

each_at : {ps : List (List ℕ)} → Each (λ (p : List ℕ). length p ≤ 8) ps → (j : ℕ) → length (get_or ps j []) ≤ 8
each_at end j = omega arith
each_at (also h e) zero = h
each_at (also h e) (suc j) = each_at e j

module _ {body : List ℕ} (k : KeyBody body) where
  pub chain_short : t_of (key_in body) ≤ 16
  unfolding t_of
  chain_short = let c = k.fits.context_short in let t = k.fits.target_short in omega arith

  pub row_length : (j : ℕ) → length (row_of (key_in body) j) ≡ t_of (key_in body) + length (branch_of (key_in body) j)
  unfolding row_of
  row_length j = length-append (chain_of (key_in body)) (branch_of (key_in body) j) ∙ ap (λ (n : ℕ). n + length (branch_of (key_in body) j)) (chain_length (key_in body))

  pub branch_short : (j : ℕ) → length (branch_of (key_in body) j) ≤ 8
  unfolding branch_of
  branch_short j = each_at k.fits.short j

  pub row_short : (j : ℕ) → length (row_of (key_in body) j) ≤ 24
  row_short j = let l = row_length j in let b = branch_short j in let c = chain_short in omega arith

-- ---- line j of the asked key

module _ {row body : List ℕ} {branch : ℕ} (f : AskedRow row body branch) where
  module _ {C X P : List ℕ} (c : C ≡ (key_in body).context) (x : X ≡ (key_in body).target) (p : P ≡ get_or (key_in body).paths branch []) where
    pub asked_room : length C + length X + length P ≤ length row
    asked_room =
        let a = ap length c in
        let b = ap length x in
        let d = ap length p in
        let r = f.room in
        let u = f.key.fits.context_short in
        let v = f.key.fits.target_short in
        let w = each_at f.key.fits.short branch in
        omega arith

    pub asked_wrote : {m n o : List ℕ} {i j r : ℕ} → Wrote row m 0 C i → Wrote m n i X j → Wrote n o j P r
        → Wrote row o 0 (row_of (key_in body) branch) r
    unfolding row_of chain_of branch_of
    asked_wrote w v u =
        wrote_is (ap₂ (λ (a b : List ℕ). a ++ b) (ap₂ (λ (a b : List ℕ). a ++ b) c x) p) (wrote_more (wrote_more w v) u)

-- ---- the calls of a step

module _ {out row body cited : List ℕ} {at lines node spot : ℕ} (f : OnRow out at lines row body cited node spot) where
  pub opening_fits : OpeningFits out at lines row cited node spot
  opening_fits =
      let s = f.space in
      let n = chain_short f.key in
      record {
        room = let r = s.room in omega arith;
        few = let r = s.few in omega arith;
        node_short = let r = f.on_chain in omega arith;
        above = f.above;
        within = f.within;
        row_short = f.short;
        key = f.cited_key;
      }

  -- behind the opening
  pub step_fits : {mid : List ℕ} {next chain many : ℕ} → next ≤ at + 768 → length mid ≡ length out → chain ≡ t_of (key_in body) → many ≤ 5
      → StepFits mid next many lines row chain node spot body
  step_fits h k c m =
      let s = f.space in
      let n = chain_short f.key in
      let w = f.chain_within in
      let o = f.on_chain in
      record {
        room = let r = s.room in omega arith;
        some = s.some;
        few = let r = s.few in omega arith;
        chain_short = omega arith;
        row_short = f.short;
        chain_within = omega arith;
        on_chain = omega arith;
        above = f.above;
        within = f.within;
        key = f.key;
      }

-- a step that ends at its own node, for the lines that name no spot
pub at_node : {out row body : List ℕ} {at many lines chain node spot : ℕ} → StepFits out at many lines row chain node spot body
    → StepFits out at many lines row chain node node body
at_node s =
    let a = s.above in
    let w = s.within in
    record {
      room = s.room;
      some = s.some;
      few = s.few;
      chain_short = s.chain_short;
      row_short = s.row_short;
      chain_within = s.chain_within;
      on_chain = s.on_chain;
      above = omega arith;
      within = omega arith;
      key = s.key;
    }

pub on_row_lem : {out body cited z row : List ℕ} {at lines node branch spot end : ℕ} → SpotReady body cited node branch spot → StepRoom out at lines
    → Wrote z row 0 (row_of (key_in body) branch) end → OnRow out at lines (take end row) body cited node spot
on_row_lem {branch = branch} r s w =
    let e = ap length (wrote_part w) in
    let l = row_short r.key branch in
    let m = row_length r.key branch in
    let o = r.on_row in
    record {
      space = s;
      key = r.key;
      cited_key = r.cited_key;
      short = omega arith;
      chain_within = omega arith;
      on_chain = r.on_chain;
      above = r.above;
      within = omega arith;
    }
