-- "Each public operation's contract determines result and final buffer contents for all inputs, refused ones too, and this uniqueness is proved": the
-- number returned, the detail slice and the answer buffer.
use Rattle.std.specs.Prelude.{ℕ, ◌≡◌, ◌⊎◌, List, [], ◌++◌, drop}
use Rattle.std.proofs.Common.{sym, ◌∙◌, ap, inl, inr, arith}
use Rattle.meaning.specs.Operations.{Answer}
use Rattle.meaning.specs.Calls.{Called, Calls, DecideCall, ProofCall, CounterexampleCall, details, detail_bytes}
use Rattle.meaning.specs.Calls.Calls.{short_detail, told}
use Rattle.theory_answers.specs.Unique.{checks_proof_unique, checks_counterexample_unique, decides_unique, BothProofs}

-- what a call leaves when it has told an answer
abbrev pub called_by : List ℕ → Answer → Called
called_by detail a = record { returned = a.number; detail = details a ++ drop detail_bytes detail; buffer = a.buffer }

-- one answer, one outcome
pub calls_unique : {Asks : Answer → Type 0} → ((a b : Answer) → Asks a → Asks b → a ≡ b) → (detail buffer : List ℕ) (x y : Called) → Calls Asks detail buffer x
    → Calls Asks detail buffer y → x ≡ y
calls_unique one detail buffer x y (short_detail h p) (short_detail k q) = p ∙ sym q
calls_unique one detail buffer x y (short_detail h p) (told k b m q) = absurd (omega arith)
calls_unique one detail buffer x y (told h a l p) (short_detail k q) = absurd (omega arith)
calls_unique one detail buffer x y (told h a l p) (told k b m q) = p ∙ ap (called_by detail) (one a b l m) ∙ sym q

pub proof_call_unique : (profile question proof detail : List ℕ) (x y : Called) → ProofCall profile question proof detail x
    → ProofCall profile question proof detail y → x ≡ y
unfolding ProofCall
proof_call_unique profile question proof detail = calls_unique (checks_proof_unique profile question proof) detail []

pub counterexample_call_unique : (profile question tree detail : List ℕ) (x y : Called) → CounterexampleCall profile question tree detail x
    → CounterexampleCall profile question tree detail y → x ≡ y
unfolding CounterexampleCall
counterexample_call_unique profile question tree detail = calls_unique (checks_counterexample_unique profile question tree) detail []

-- The one exception, "which accepted proof is written": both calls say implied, with a proof that the check accepts
pub record BothProved (profile question buffer detail : List ℕ) (x y : Called) : Type 0 where
  pub first : Answer
  pub second : Answer
  pub proofs : BothProofs profile question buffer first second
  pub first_told : x ≡ called_by detail first
  pub second_told : y ≡ called_by detail second

pub decide_call_unique : (profile question buffer detail : List ℕ) (x y : Called) → DecideCall profile question buffer detail x
    → DecideCall profile question buffer detail y → (x ≡ y) ⊎ BothProved profile question buffer detail x y
unfolding DecideCall
decide_call_unique profile question buffer detail x y (short_detail h p) (short_detail k q) = inl (p ∙ sym q)
decide_call_unique profile question buffer detail x y (short_detail h p) (told k b m q) = absurd (omega arith)
decide_call_unique profile question buffer detail x y (told h a l p) (short_detail k q) = absurd (omega arith)
decide_call_unique profile question buffer detail x y (told h a l p) (told k b m q) = go (decides_unique profile question buffer a b l m)
  where
    go : (a ≡ b) ⊎ BothProofs profile question buffer a b → (x ≡ y) ⊎ BothProved profile question buffer detail x y
    go (inl e) = inl (p ∙ ap (called_by detail) e ∙ sym q)
    go (inr both) = inr (record { first = a; second = b; proofs = both; first_told = p; second_told = q })
