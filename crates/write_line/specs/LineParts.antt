-- The bytes of a proof line as they are written: its head and fields, then the key body.
use Rattle.std.specs.Prelude.{ℕ, ◌+◌, ◌%◌, ◌<◌, ◌≤◌, ◌≡◌, true, take}
use Rattle.std.specs.Int.{w16, to_le_bytes}
use Rattle.std.proofs.Common.{sym, ◌∙◌}
use Rattle.std.proofs.Math.Path.{ap, ap₂}
use mathlib.Core.List.{List, [], ◌∷◌, ◌++◌}
use native.Mathlib.Omega.{arith}
use Rattle.std.proofs.Math.ListN.{length, length-append}
use Rattle.meaning.specs.Limits.{line_kind}
use Rattle.meaning.specs.Paths.{norm}
use Rattle.meaning.specs.Records.{word_bytes, record_bytes, path_bytes, key_body, line_bytes}
use Rattle.read_record.specs.BodyParts.{paths_end, paths_of}
use Rattle.read_record.specs.KeyPaths.{paths_count}
use Rattle.read_record.specs.PathBytes.{paths_bytes}
use Rattle.theory_derive.specs.Written.{key_of, two_line}
use Rattle.theory_pattern.specs.RowParts.{norm_length}
use Rattle.write_bytes.specs.Wrote.{Wrote, wrote_more, wrote_is, wrote_part}

unfoldable pub line_head : (size rule first second : ℕ) → List ℕ
line_head size rule first second = word_bytes size ++ (word_bytes line_kind ++ ((rule ∷ []) ++ (word_bytes first ++ word_bytes second)))

unfoldable pub key_part : (context target : List ℕ) (count : ℕ) (paths : List ℕ) → List ℕ
key_part context target count paths = path_bytes context ++ (path_bytes target ++ ((count ∷ []) ++ paths))

-- What a line takes: fields that fit their bytes, whole key paths, at most 256 bytes in all
pub record LineFits (out : List ℕ) (at rule : ℕ) (context target : List ℕ) (count : ℕ) (paths : List ℕ) : Type 0 where
  pub rule_fits : rule < 256
  pub count_fits : count < 256
  pub context_short : length context ≤ 32
  pub target_short : length target ≤ 32
  pub short : length context + length target + length paths ≤ 244
  pub room : at + 256 ≤ length out
  pub ends : paths_end count paths ≡ true

-- A line written has at most 256 bytes
pub record WroteLine (out end : List ℕ) (at : ℕ) (v : List ℕ) (next : ℕ) : Type 0 where
  pub wrote : Wrote out end at v next
  pub short : next ≤ at + 256

-- Bytes of which so many were written
pub record Sized (out end : List ℕ) (at : ℕ) (v : List ℕ) (many next : ℕ) : Type 0 where
  pub wrote : Wrote out end at v next
  pub size : next ≡ at + many

module _ (context target : List ℕ) (count : ℕ) (paths : List ℕ) where
  key_part_is : paths_end count paths ≡ true → key_part (norm context) (norm target) count paths ≡ key_body (key_of context target (paths_of count paths))
  unfolding key_part key_body key_of
  key_part_is e =
      ap₂ (λ (n : ℕ) (l : List ℕ). path_bytes (norm context) ++ (path_bytes (norm target) ++ (n ∷ l))) (sym (paths_count count paths))
      (sym (paths_bytes count paths e))

  key_part_length : length (key_part (norm context) (norm target) count paths) ≡ length (norm context) + length (norm target) + length paths + 3
  unfolding key_part path_bytes
  key_part_length =
      omega (
        arith,
        length-append (length (norm context) ∷ norm context) ((length (norm target) ∷ norm target) ++ (count ∷ paths)),
        length-append (length (norm target) ∷ norm target) (count ∷ paths),
      )

line_joined : (size rule first second : ℕ) (body : List ℕ) → size ≡ 4 + length (rule ∷ (word_bytes first ++ (word_bytes second ++ body)))
    → line_head size rule first second ++ body ≡ record_bytes line_kind (rule ∷ (word_bytes first ++ (word_bytes second ++ body)))
unfolding line_head record_bytes word_bytes
line_joined size rule first second body e = ap (λ (n : ℕ). word_bytes n ++ (word_bytes line_kind ++ (rule ∷ (word_bytes first ++ (word_bytes second ++ body))))) e

module _ {o a b : List ℕ} {at p q : ℕ} (rule first second : ℕ) (context target : List ℕ) (count : ℕ) (paths : List ℕ) (size : ℕ)
    (f : LineFits o at rule context target count paths) (s : size ≡ 12 + length (norm context) + length (norm target) + length paths) where
  line_joined_wrote : Wrote o a at (line_head size rule first second) p → Wrote a b p (key_part (norm context) (norm target) count paths) q
      → p ≡ at + 9 → WroteLine o b at (line_bytes (two_line rule first second (key_of context target (paths_of count paths)))) q
  unfolding line_bytes two_line word_bytes
  line_joined_wrote w v h =
      let body = key_part (norm context) (norm target) count paths in
      let e = key_part_is context target count paths f.ends in
      let l = key_part_length context target count paths in
      let m = norm_length context in
      let n = norm_length target in
      record {
        wrote = wrote_is
            (line_joined size rule first second body (let z : size ≡ 4 + (5 + length body) = omega arith in z ∙ (omega arith))
            ∙ ap (λ (k : List ℕ). record_bytes line_kind (rule ∷ (word_bytes first ++ (word_bytes second ++ k)))) e)
            (wrote_more w v);
        short = omega (arith, v.after, f.short);
      }

  -- from the parts of the two local buffers
  pub line_wrote : {z c z₂ t : List ℕ} {n m : ℕ} → Wrote a b p (key_part (take n c) (take m t) count paths) q → Sized o a at (line_head size rule first second) 9 p
      → Wrote z₂ t 0 (norm target) m → Wrote z c 0 (norm context) n
      → WroteLine o b at (line_bytes (two_line rule first second (key_of context target (paths_of count paths)))) q
  line_wrote w h t c =
      line_joined_wrote h.wrote
      (wrote_is (ap₂ (λ (x y : List ℕ). key_part x y count paths) (wrote_part c) (wrote_part t)) w) h.size

-- ---- one law for each return; what was written last stands first

-- as the library writes the two bytes
word_le : (n : ℕ) → to_le_bytes w16 (n % 65536) ≡ word_bytes n
unfolding word_bytes
word_le n = ap₂ (λ (a b : ℕ). a ∷ b ∷ []) (omega arith) (omega arith)

pub word_wrote : {o e : List ℕ} {at next : ℕ} (n : ℕ) → Wrote o e at (to_le_bytes w16 (n % 65536)) next → Sized o e at (word_bytes n) 2 next
unfolding word_bytes
word_wrote n w = let v = wrote_is (word_le n) w in record { wrote = v; size = v.after }

pub path_wrote : {o a b path : List ℕ} {at p q : ℕ} → Wrote a b p path q → Wrote o a at (length path ∷ []) p
    → Sized o b at (path_bytes path) (length path + 1) q
unfolding path_bytes
path_wrote w v = record { wrote = wrote_more v w; size = omega arith }

pub head_wrote : {o a b c d e : List ℕ} {at p q r s t : ℕ} (size rule first second : ℕ) → Sized d e s (word_bytes second) 2 t
    → Sized c d r (word_bytes first) 2 s → Wrote b c q (rule ∷ []) r → Sized a b p (word_bytes line_kind) 2 q
    → Sized o a at (word_bytes size) 2 p → Sized o e at (line_head size rule first second) 9 t
unfolding line_head
head_wrote size rule first second w v u t s =
    record { wrote = wrote_more s.wrote (wrote_more t.wrote (wrote_more u (wrote_more v.wrote w.wrote))); size = omega arith }

pub key_wrote : {o a b c d : List ℕ} {at p q r s : ℕ} (context target : List ℕ) (count : ℕ) (paths : List ℕ) → Wrote c d r paths s → Wrote b c q (count ∷ []) r
    → Sized a b p (path_bytes target) (length target + 1) q → Sized o a at (path_bytes context) (length context + 1) p
    → Wrote o d at (key_part context target count paths) s
unfolding key_part
key_wrote context target count paths w v u t = wrote_more t.wrote (wrote_more u.wrote (wrote_more v w))
