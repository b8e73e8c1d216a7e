-- What the lines of a step ask.
use Rattle.std.specs.Prelude.{ℕ, ◌+◌, ◌*◌, ◌<◌, ◌≤◌, ◌≡◌, List, [], ◌∷◌, length, take}
use Rattle.std.proofs.Common.{ap, arith, length-take}
use Rattle.meaning.specs.Rules.{Line}
use Rattle.meaning.specs.Records.{key_in}
use Rattle.write_step.specs.Fits.{KeyBody, OfKeyFits}
use Rattle.write_step.specs.Lines.{WroteLines}

pub record OpeningFits (out : List ℕ) (at lines : ℕ) (row cited : List ℕ) (node spot : ℕ) : Type 0 where
  pub room : at + 768 ≤ length out
  pub few : lines < 60000
  pub node_short : node ≤ 16
  pub above : node ≤ spot
  pub within : spot ≤ length row
  pub row_short : length row ≤ 24
  pub key : KeyBody cited

-- room for so many lines; the chain has `chain` symbols, the step goes from `spot` to `node`
pub record StepFits (out : List ℕ) (at many lines : ℕ) (row : List ℕ) (chain node spot : ℕ) (asked : List ℕ) : Type 0 where
  pub room : at + 256 * many ≤ length out
  pub some : 1 ≤ lines
  pub few : lines < 60000
  pub chain_short : chain ≤ 16
  pub row_short : length row ≤ 24
  pub chain_within : chain ≤ length row
  pub on_chain : node ≤ chain
  pub above : node ≤ spot
  pub within : spot ≤ length row
  pub key : KeyBody asked

-- ---- what a call asks

pub meeting_fits : {out row asked : List ℕ} {at lines chain node spot : ℕ} → StepFits out at 5 lines row chain node spot asked
    → StepFits out at 3 lines row chain node spot asked
meeting_fits f =
    record {
      room = omega arith;
      some = f.some;
      few = f.few;
      chain_short = f.chain_short;
      row_short = f.row_short;
      chain_within = f.chain_within;
      on_chain = f.on_chain;
      above = f.above;
      within = f.within;
      key = f.key;
    }

module _ {out row cited X : List ℕ} {at lines node spot : ℕ} (f : OpeningFits out at lines row cited node spot) (x : X ≡ (key_in cited).target) where
  pub cited_fits : {C : List ℕ} → C ≡ (key_in cited).context → OfKeyFits out at 0 C X cited
  cited_fits c =
      let k = f.key.fits in
      let e = ap length c in
      let d = ap length x in
      record {
        rule_fits = omega arith;
        line_room = record { context_short = omega arith; target_short = omega arith; room = omega arith };
        key = f.key;
      }

  -- behind the first line
  pub narrowed_fits : {mid : List ℕ} {l : Line} {next : ℕ} → WroteLines out mid at (l ∷ []) next → OfKeyFits mid next 5 (take node row) X cited
  narrowed_fits w =
      let k = f.key.fits in
      let e = length-take node row in
      let d = ap length x in
      record {
        rule_fits = omega arith;
        line_room = record { context_short = omega arith; target_short = omega arith; room = omega arith };
        key = f.key;
      }
