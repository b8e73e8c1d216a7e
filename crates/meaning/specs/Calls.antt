-- Calls from the tap's firmware: document 02, request 14.
use Rattle.std.specs.Prelude.{ℕ, ◌/◌, ◌%◌, ◌<◌, ◌≤◌, ◌≡◌, List, [], ◌∷◌, ◌++◌, length, drop}
use Rattle.meaning.specs.Records.{word_bytes}
use Rattle.meaning.specs.Operations.{Answer, Verdict, refused, rewritten, included, not_included, kept, broken, accepted, implied, not_implied, listed, key_read, line_written, reduced, drop_proved, trimmed, salvaged, reported, Decides, ChecksProof, ChecksCounterexample}

-- "with the details of an answer written to the first 16 bytes of a lent slice"
abbrev pub detail_bytes : ℕ
detail_bytes = 16

-- "verdict (0 refused, 1 implied or accepted, 2 not implied)"; no call answers another
unfoldable pub verdict_number : Verdict → ℕ
verdict_number refused = 0
verdict_number implied = 1
verdict_number accepted = 1
verdict_number not_implied = 2
verdict_number rewritten = 0
verdict_number included = 0
verdict_number not_included = 0
verdict_number kept = 0
verdict_number broken = 0
verdict_number listed = 0
verdict_number key_read = 0
verdict_number line_written = 0
verdict_number reduced = 0
verdict_number drop_proved = 0
verdict_number trimmed = 0
verdict_number salvaged = 0
verdict_number reported = 0

unfoldable pub four_bytes : ℕ → List ℕ
four_bytes n = n % 256 ∷ n / 256 % 256 ∷ n / 65536 % 256 ∷ n / 16777216 % 256 ∷ []

-- "verdict .., refusal number, input, record, bytes used (0 if none), the remaining bytes zero, all fields two bytes except bytes used with four,
-- little-endian"
unfoldable pub details : Answer → List ℕ
details a =
    word_bytes (verdict_number a.verdict) ++ (word_bytes a.number ++ (word_bytes a.input ++ (word_bytes a.place
    ++ (four_bytes a.used ++ (0 ∷ 0 ∷ 0 ∷ 0 ∷ [])))))

-- what a call leaves: the number that it returns, the detail slice, the answer buffer (empty where none is lent)
pub record Called : Type 0 where
  pub returned : ℕ
  pub detail : List ℕ
  pub buffer : List ℕ

-- "each returning one number (the refusal, 0 for none)"; "19, detail slice shorter than 16 bytes, before 14; with 19 nothing is written. For every
-- other refusal the detail slice is written and the answer buffer stays". `Asks` is the operation's definition
pub data Calls (Asks : Answer → Type 0) (detail buffer : List ℕ) (called : Called) : Type 0 where
  short_detail : length detail < detail_bytes → called ≡ record { returned = 19; detail = detail; buffer = buffer } → Calls Asks detail buffer called
  told : detail_bytes ≤ length detail → (answer : Answer) → Asks answer
      → called ≡ record { returned = answer.number; detail = details answer ++ drop detail_bytes detail; buffer = answer.buffer }
      → Calls Asks detail buffer called

unfoldable pub DecideCall : (profile question buffer detail : List ℕ) → Called → Type 0
DecideCall profile question buffer detail = Calls (Decides profile question buffer) detail buffer

unfoldable pub ProofCall : (profile question proof detail : List ℕ) → Called → Type 0
ProofCall profile question proof detail = Calls (ChecksProof profile question proof) detail []

unfoldable pub CounterexampleCall : (profile question tree detail : List ℕ) → Called → Type 0
CounterexampleCall profile question tree detail = Calls (ChecksCounterexample profile question tree) detail []
