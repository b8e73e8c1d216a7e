-- What a reading answers: how many bytes stand at the front of the buffer that was lent, if the file could be read. Of what they are no contract can
-- speak.
use Rattle.std.specs.Prelude.{List, ℕ, ◌≡◌, ◌≤◌, length, take, Option, Some, None}
use Rattle.std.proofs.Common.{subst}

-- so many bytes stand at the front of the buffer; the second part follows from the first, and spares a caller's `&buffer[..count]` a proof file
abbrev pub IsPrefixLen : ℕ → List ℕ → Type 0
IsPrefixLen count buffer = (count ≤ length buffer) × (count ≡ length (take count buffer))

abbrev pub Fits : Option ℕ → List ℕ → Type 0
Fits None buffer = Unit {0}
Fits (Some count) buffer = IsPrefixLen count buffer

-- what a program knows once it has taken the answer apart
pub fits_read : (r : Option ℕ) (count : ℕ) (buffer : List ℕ) → r ≡ Some count → Fits r buffer → IsPrefixLen count buffer
fits_read r count buffer told fits = subst (λ answer. Fits answer buffer) told fits
