-- A proof in plain text, line by line: the key of a line, as request 1 of document 02 writes keys.
use Rattle.std.specs.Prelude.{ℕ, List, []}
use Rattle.std.proofs.Math.Option.{Option, none, some}
use Rattle.std.proofs.Math.ListN.{get_elem?}
use Rattle.meaning.specs.Paths.{Label}
use Rattle.meaning.specs.Keys.{Key}
use Rattle.meaning.specs.Rules.{line_keys}
use Rattle.meaning.specs.Operations.{Answer, labels_in, line_written, FromProof}
use Rattle.meaning.specs.Trimming.{lines_in}
use Rattle.meaning.specs.Text.{print_key, typed_of}

unfoldable pub text_of : List Label → Option Key → List ℕ
text_of labels none = []
text_of labels (some key) = print_key (typed_of labels key)

-- the key of line n of an accepted proof; no text where the proof has no line n
unfoldable pub line_text : (profile proof : List ℕ) (n : ℕ) → List ℕ
line_text profile proof n = text_of (labels_in profile) (get_elem? (line_keys (lines_in profile proof)) n)

-- as trimming takes a proof
unfoldable pub WritesProofLine : (profile question proof : List ℕ) (n : ℕ) (buffer : List ℕ) → Answer → Type 0
WritesProofLine profile question proof n = FromProof line_written profile question proof (line_text profile proof n)
