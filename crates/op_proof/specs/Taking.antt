-- An operation over a proof that the check accepts: a law for each of its returns, over what `check_proof` answers.
use Rattle.std.specs.Prelude.{ℕ, ◌≤◌, ◌<◌, ◌≡◌, length}
use Rattle.std.proofs.Common.{sym, ap₂}
use Rattle.std.proofs.Math.Path.{subst}
use mathlib.Core.List.{List, []}
use Rattle.meaning.specs.Refusals as Table
use Rattle.meaning.specs.Operations.{Verdict, refused_by, filled, plain, accepted, ChecksProof, FromProof}
use Rattle.theory_answers.specs.FromProof.{from_small, from_refused, from_filled}
use Rattle.write_bytes.specs.Wrote.{Wrote, wrote_front}
use Rattle.op_answers.specs.declared.Refusal.{Refusal}
use Rattle.op_answers.specs.Cases.{meant, used_of}

module _ (v : Verdict) (profile question proof bytes buffer : List ℕ) where
  -- 14, before all else
  pub return_small : (r : Refusal) → length buffer < 65536 → meant r ≡ record { number = 14; input = 4; place = 0 }
      → FromProof v profile question proof bytes buffer (refused_by (meant r) buffer)
  return_small r h e =
      subst (λ (x : Table.Refusal). FromProof v profile question proof bytes buffer (refused_by x buffer)) (sym e)
      (from_small v profile question proof bytes buffer h)

  module _ (room : 65536 ≤ length buffer) where
    -- the check's own refusal
    pub return_refused : (r : Refusal) → ChecksProof profile question proof (refused_by (meant r) []) → FromProof v profile question proof bytes buffer (refused_by (meant r) buffer)
    return_refused r checked = from_refused v profile question proof bytes buffer room (meant r) checked

    pub return_filled : ChecksProof profile question proof (plain accepted) → {after : List ℕ} {used : ℕ} → Wrote buffer after 0 bytes used
        → FromProof v profile question proof bytes buffer (used_of v used after)
    unfolding filled
    return_filled checked wrote =
        let w = wrote_front wrote in
        subst (FromProof v profile question proof bytes buffer) (ap₂ (λ (n : ℕ) (b : List ℕ). used_of v n b) (sym w.0) (sym w.1))
        (from_filled v profile question proof bytes buffer room checked)
