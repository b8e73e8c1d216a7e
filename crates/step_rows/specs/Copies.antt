-- Runs written into a list, each behind what stands there: a law for each store and each call.
use Rattle.std.specs.Prelude.{ℕ, ◌+◌, ◌≤◌, ◌<◌, ◌≡◌, List, [], ◌∷◌, ◌++◌, length, set, take, drop}
use Rattle.std.proofs.Common.{sym, ap, ◌∙◌, append_assoc, add-one, arith, length-append, length-set}
use lib.Seq.{take-suc, take-suc-set, take-take, take_all, slice, drop_at, length-take-le}

-- from a place on the run is written, and what stands before it is kept
pub record Copied (old : List ℕ) (at : ℕ) (run new : List ℕ) : Type 0 where
  pub size : length new ≡ length old
  pub written : take (at + length run) new ≡ take at old ++ run

-- there is room for it
pub record Room (rows : List ℕ) (at : ℕ) (run : List ℕ) : Type 0 where
  pub size : length rows ≡ 100
  pub fits : at + length run ≤ 100

-- one byte
pub copied_one : (old : List ℕ) (at v : ℕ) → at < length old → Copied old at (v ∷ []) (set old at v)
copied_one old at v h = record { size = length-set old at v; written = rw (add-one at) (take-suc-set old at v h) }

-- one run behind another
pub copied_then : {old : List ℕ} {at : ℕ} {run new : List ℕ} {next : List ℕ} {last : List ℕ} {to : ℕ} → Copied old at run new → to ≡ at + length run
    → Copied new to next last → Copied old at (run ++ next) last
copied_then {old} {at} {run} {new} {next} {last} {to} a e b =
    record {
      size = b.size ∙ a.size;
      written =
          let n : at + length (run ++ next) ≡ to + length next = omega (arith, length-append run next) in
          ap (λ (k : ℕ). take k last) n ∙ b.written
          ∙ ap (λ (l : List ℕ). l ++ next) (ap (λ (k : ℕ). take k new) e ∙ a.written)
          ∙ append_assoc (take at old) run next;
    }

-- what stands before the run is as it was
pub copied_before : {old : List ℕ} {at : ℕ} {run new : List ℕ} → Copied old at run new → at ≤ length old → (b : ℕ) → b ≤ at → take b new ≡ take b old
copied_before {old} {at} {run} {new} c h b k =
    sym (take-take b at new k) ∙ ap (take b) front ∙ take-take b at old k
  where
    front : take at new ≡ take at old
    front =
        sym (take-take at (at + length run) new (omega arith)) ∙ ap (take at) c.written
        ∙ lib.Seq.take_at (take at old) run at (length-take-le at old h)

-- and the run stands from its place on
pub copied_there : {old : List ℕ} {at : ℕ} {run new : List ℕ} → Copied old at run new → at ≤ length old → slice at (at + length run) new ≡ run
copied_there {old} {at} {run} {new} c h = ap (drop at) c.written ∙ drop_at (take at old) run at (length-take-le at old h)
