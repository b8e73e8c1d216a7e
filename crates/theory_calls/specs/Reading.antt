-- What C reads back of the 16 bytes: each field of the answer.
use Rattle.std.specs.Prelude.{ℕ, ◌/◌, ◌%◌, ◌≤◌, ◌<◌, ◌≡◌, List, [], ◌∷◌, ◌++◌, length, take, drop}
use Rattle.std.proofs.Common.{sym, ◌∙◌, ap, ap₂, subst, arith}
use Rattle.std.proofs.Math.Nat.{div-div-eq-div-mul}
use Rattle.meaning.specs.Records
use Rattle.meaning.specs.Records.{word, word_bytes, number_bytes}
use Rattle.meaning.specs.Operations.{Answer, Verdict, Decides, ChecksProof, ChecksCounterexample}
use Rattle.meaning.specs.Operations as O
use Rattle.meaning.specs.Calls.{details, detail_bytes, four_bytes, verdict_number, Called, Calls, DecideCall, ProofCall, CounterexampleCall}
use Rattle.meaning.specs.Calls.Calls.{short_detail, told}
use Rattle.theory_records.specs.Bytes.{word_word_bytes, number_bytes_lem}
use Rattle.theory_calls.specs.Fitting.{Fits, decides_fits, proof_fits, counterexample_fits}

-- the fields, where the header's readers look for them
pub record ReadBack (a : Answer) (l : List ℕ) : Type 0 where
  pub verdict : word l 0 ≡ verdict_number a.verdict
  pub number : word l 2 ≡ a.number
  pub input : word l 4 ≡ a.input
  pub place : word l 6 ≡ a.place
  pub used : Records.number (take 4 (drop 8 l)) ≡ a.used

four_bytes_lem : (n : ℕ) → four_bytes n ≡ number_bytes 4 n
unfolding four_bytes number_bytes
four_bytes_lem n =
    let two = div-div-eq-div-mul n 256 256 in
    ap₂ (λ (x y : ℕ). n % 256 ∷ n / 256 % 256 ∷ x % 256 ∷ y % 256 ∷ []) (sym two)
    (sym (ap (λ (m : ℕ). m / 256) two ∙ div-div-eq-div-mul n 65536 256))

verdict_small : (v : Verdict) → verdict_number v < 65536
unfolding verdict_number
verdict_small O.refused = omega arith
verdict_small O.implied = omega arith
verdict_small O.accepted = omega arith
verdict_small O.not_implied = omega arith
verdict_small O.rewritten = omega arith
verdict_small O.included = omega arith
verdict_small O.not_included = omega arith
verdict_small O.kept = omega arith
verdict_small O.broken = omega arith
verdict_small O.listed = omega arith
verdict_small O.key_read = omega arith
verdict_small O.line_written = omega arith
verdict_small O.reduced = omega arith
verdict_small O.drop_proved = omega arith
verdict_small O.trimmed = omega arith
verdict_small O.salvaged = omega arith
verdict_small O.reported = omega arith

pub details_say : (a : Answer) → Fits a → (rest : List ℕ) → ReadBack a (details a ++ rest)
unfolding details word word_bytes four_bytes
details_say a fits rest =
    record {
      verdict = word_word_bytes (verdict_number a.verdict) [] (verdict_small a.verdict);
      number = word_word_bytes a.number [] fits.number;
      input = word_word_bytes a.input [] fits.input;
      place = word_word_bytes a.place [] fits.place;
      used = ap Records.number (four_bytes_lem a.used) ∙ number_bytes_lem 4 a.used fits.used;
    }

-- A call that is lent its 16 bytes tells an answer of the operation, and every field that C reads there is that answer's
pub record Says (Asks : Answer → Type 0) (called : Called) : Type 0 where
  pub answer : Answer
  pub asked : Asks answer
  pub returned : called.returned ≡ answer.number
  pub read : ReadBack answer called.detail

calls_say : {Asks : Answer → Type 0} → ((a : Answer) → Asks a → Fits a) → (detail buffer : List ℕ) (called : Called) → detail_bytes ≤ length detail
    → Calls Asks detail buffer called → Says Asks called
calls_say fits detail buffer called room (short_detail h e) = absurd (omega arith)
calls_say fits detail buffer called room (told h a asked e) =
    record {
      answer = a;
      asked = asked;
      returned = ap (λ (c : Called). c.returned) e;
      read = subst (λ (c : Called). ReadBack a c.detail) (sym e) (details_say a (fits a asked) (drop detail_bytes detail));
    }

pub decide_says : (profile question buffer detail : List ℕ) (called : Called) → detail_bytes ≤ length detail
    → DecideCall profile question buffer detail called → Says (Decides profile question buffer) called
unfolding DecideCall
decide_says profile question buffer detail called = calls_say (decides_fits profile question buffer) detail buffer called

pub proof_says : (profile question proof detail : List ℕ) (called : Called) → detail_bytes ≤ length detail → ProofCall profile question proof detail called
    → Says (ChecksProof profile question proof) called
unfolding ProofCall
proof_says profile question proof detail called = calls_say (proof_fits profile question proof) detail [] called

pub counterexample_says : (profile question tree detail : List ℕ) (called : Called) → detail_bytes ≤ length detail
    → CounterexampleCall profile question tree detail called → Says (ChecksCounterexample profile question tree) called
unfolding CounterexampleCall
counterexample_says profile question tree detail called = calls_say (counterexample_fits profile question tree) detail [] called
