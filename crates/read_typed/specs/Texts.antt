-- The texts of a set's paths: pieces between commas, each but the first behind "exactly one space after each comma".
use Rattle.std.specs.Prelude as library
use Rattle.std.specs.Prelude.{ℕ, zero, suc, ◌+◌, ◌<◌, ◌≤◌, ◌≡◌, refl, Bool, true, false, ◌&&◌, ◌==◌, cond, eqb, List, [], ◌∷◌, length, map, unwrap_or}
use Rattle.std.specs.List.{onto_first, enumerate_from}
use Rattle.std.specs.Option.{MatchOption}
use Rattle.std.proofs.Common.{sym, ap, ap₂, ◌∙◌, arith, add-one, eqb-true}
use Rattle.std.proofs.lemmas.Bool.{false≢true}
use Rattle.std.proofs.Math.Option.{Option, none, some}
use mathlib.Core.List.{cons≢nil}
use denote.Ref.{Bor}
use Rattle.meaning.specs.Lists.{same}
use Rattle.meaning.specs.Records.{and_then}
use Rattle.meaning.specs.Text.{Typed, every_one}
use Rattle.theory_text.specs.Reading.{up_to, from_the, named_of, read_symbol, read_symbols, read_path, rest_of_set, read_paths, read_set}
use Rattle.theory_text.specs.Pieces.{from_length}
use Rattle.read_text.specs.Cutting.{Missing, Stripped}
use Rattle.read_symbols.specs.Splitting.{pieces, other_pieces, pieces_first}

-- behind the space; nothing where there is none, which is no path's text
unfoldable pub behind_space : List ℕ → List ℕ
behind_space [] = []
behind_space (b ∷ l) = cond (eqb b 32) l []

unfoldable pub text_at : ℕ → List ℕ → List ℕ
text_at zero piece = piece
text_at (suc at) piece = behind_space piece

unfoldable pub texts_of : ℕ → List (List ℕ) → List (List ℕ)
texts_of zero [] = []
texts_of zero (p ∷ ps) = p ∷ map behind_space ps
texts_of (suc at) ps = map behind_space ps

unfoldable pub texts : List ℕ → List (List ℕ)
texts t = texts_of 0 (pieces 44 t)

-- nothing is no path's text
no_path : read_path [] ≡ none
unfolding read_path read_symbols up_to read_symbol same and_then named_of
no_path = refl

first_torn : (b : ℕ) (r : List ℕ) → eqb b 32 ≡ false → every_one read_path (map behind_space (pieces 44 (b ∷ r))) ≡ none
first_torn b r e = ap (λ (l : List (List ℕ)). every_one read_path (map behind_space l)) (pieces_first 44 (b ∷ r)) ∙ go (eqb b 44) refl
  where
    stop : (p : List ℕ) (ps : List (List ℕ)) → behind_space p ≡ [] → every_one read_path (map behind_space (p ∷ ps)) ≡ none
    stop p ps q =
        unfold every_one and_then in
        rw (q, no_path)

    go : (c : Bool) → eqb b 44 ≡ c → every_one read_path (map behind_space (up_to 44 (b ∷ r) ∷ other_pieces 44 (from_the 44 (b ∷ r)))) ≡ none
    go true q = stop (up_to 44 (b ∷ r)) (other_pieces 44 (from_the 44 (b ∷ r))) (unfold up_to behind_space in rw q)
    go false q = stop (up_to 44 (b ∷ r)) (other_pieces 44 (from_the 44 (b ∷ r))) (unfold up_to behind_space in rw (q, e))

spaced : (b : ℕ) (r : List ℕ) → b ≡ 32 → map behind_space (pieces 44 (b ∷ r)) ≡ texts_of 0 (pieces 44 r)
spaced b r e =
    let first : pieces 44 (32 ∷ r) ≡ onto_first 32 (pieces 44 r) = unfold pieces in refl in
    ap (λ (x : ℕ). map behind_space (pieces 44 (x ∷ r))) e ∙ (ap (map behind_space) first ∙ go (pieces 44 r) (pieces_first 44 r))
  where
    go : (ps : List (List ℕ)) {p : List ℕ} {qs : List (List ℕ)} → ps ≡ p ∷ qs → map behind_space (onto_first 32 ps) ≡ texts_of 0 ps
    go [] q = absurd (cons≢nil (sym q))
    go (p ∷ ps) q = unfold behind_space texts_of in refl

-- the reader of paths reads each text
pub read_texts : (fuel : ℕ) (t : List ℕ) → length t < fuel → read_paths fuel t ≡ every_one read_path (texts t)
unfolding read_paths texts
read_texts zero t h = absurd (omega arith)
read_texts (suc fuel) t h = go (from_the 44 t) (from_length 44 t) (read_texts fuel) ∙ ap (λ (l : List (List ℕ)). every_one read_path (texts_of 0 l)) (sym (pieces_first 44 t))
  where
    same_rest : (x y : Option (List (List Typed))) → x ≡ y
        → and_then (read_path (up_to 44 t)) (λ p. and_then x (λ ps. some (p ∷ ps))) ≡ and_then (read_path (up_to 44 t)) (λ p. and_then y (λ ps. some (p ∷ ps)))
    same_rest x y e = ap (λ (o : Option (List (List Typed))). and_then (read_path (up_to 44 t)) (λ p. and_then o (λ ps. some (p ∷ ps)))) e

    torn : (o : Option (List Typed)) → and_then o (λ p. none) ≡ and_then o (λ p. and_then none (λ ps. some (p ∷ ps)))
    torn none = unfold and_then in refl
    torn (some p) = unfold and_then in refl

    go : (r : List ℕ) → length r ≤ length t → ((u : List ℕ) → length u < fuel → read_paths fuel u ≡ every_one read_path (texts_of 0 (pieces 44 u)))
        → and_then (read_path (up_to 44 t)) (λ p. rest_of_set (read_paths fuel) p r) ≡ every_one read_path (texts_of 0 (up_to 44 t ∷ other_pieces 44 r))
    go [] small more = unfold rest_of_set every_one other_pieces texts_of and_then in refl
    go (c ∷ []) small more = unfold rest_of_set every_one other_pieces texts_of pieces behind_space in torn (read_path (up_to 44 t)) ∙ same_rest none (every_one read_path ([] ∷ [])) (unfold every_one and_then in rw no_path)
    go (c ∷ b ∷ r) small more = unfold rest_of_set every_one other_pieces texts_of in at (eqb b 32) refl
      where
        at : (d : Bool) → eqb b 32 ≡ d
            → and_then (read_path (up_to 44 t)) (λ p. cond d (and_then (read_paths fuel r) (λ ps. some (p ∷ ps))) none)
            ≡ and_then (read_path (up_to 44 t)) (λ p. and_then (every_one read_path (map behind_space (pieces 44 (b ∷ r)))) (λ ps. some (p ∷ ps)))
        at true e = same_rest _ _ (more r (omega (arith, h, small)) ∙ ap (every_one read_path) (sym (spaced b r (eqb-true b 32 e))))
        at false e = torn (read_path (up_to 44 t)) ∙ same_rest none _ (sym (first_torn b r e))

pub read_set_texts : (t : List ℕ) → (length t ≡ 0 → ⊥) → read_set t ≡ every_one read_path (texts t)
read_set_texts [] h = absurd (h refl)
read_set_texts (b ∷ t) h =
    let is : read_set (b ∷ t) ≡ read_paths (suc (length (b ∷ t))) (b ∷ t) = unfold read_set in refl in
    is ∙ read_texts (suc (length (b ∷ t))) (b ∷ t) (omega arith)

and_true : (c d : Bool) → (c && true) ≡ d → c ≡ d
and_true true d e = e
and_true false d e = e

-- a path's text, return by return
pub text_first : (place : ℕ) (piece : List ℕ) → place ≡ 0 → piece ≡ text_at place piece
unfolding text_at
text_first place piece e = rw e refl

pub text_behind : (place : ℕ) (piece : List ℕ) → (place ≡ 0 → ⊥) → (r : library.Option (Bor (List ℕ)))
    → MatchOption r (Missing (32 ∷ []) piece) (λ x. Stripped (32 ∷ []) piece x.now) → (other : Bor (List ℕ)) → other.now ≡ []
    → (unwrap_or r other).now ≡ text_at place piece
unfolding text_at behind_space
text_behind zero piece h r m other z = absurd (h refl)
text_behind (suc place) piece h r m other z = at r piece m
  where
    at : (r : library.Option (Bor (List ℕ))) (piece : List ℕ) → MatchOption r (Missing (32 ∷ []) piece) (λ x. Stripped (32 ∷ []) piece x.now)
        → (unwrap_or r other).now ≡ behind_space piece
    at library.None [] m = z
    at library.None (b ∷ l) m = rw (and_true (b == 32) false m) z
    at (library.Some x) [] m = absurd (false≢true m.0)
    at (library.Some x) (b ∷ l) m = rw (and_true (b == 32) true m.0) m.1

-- the texts of the pieces, each with its number
pub texts_by : (ps : List (List ℕ)) → map (λ p. text_at p.0 p.1) (enumerate_from 0 ps) ≡ texts_of 0 ps
unfolding texts_of text_at
texts_by [] = refl
texts_by (p ∷ ps) = ap (λ (l : List (List ℕ)). p ∷ l) (others 0 ps)
  where
    others : (n : ℕ) (ps : List (List ℕ)) → map (λ p. text_at p.0 p.1) (enumerate_from (n + 1) ps) ≡ map behind_space ps
    others n [] = refl
    others n (p ∷ ps) = ap₂ ◌∷◌ (rw add-one refl) (others (n + 1) ps)

pub texts_all : (t : List ℕ) (xs : List (ℕ × Bor (List ℕ))) → map (λ p. (p.0, p.1.now)) xs ≡ enumerate_from 0 (pieces 44 t)
    → map (λ p. text_at p.0 p.1.now) xs ≡ texts t
unfolding texts
texts_all t xs e = sym (parts xs) ∙ (ap (map (λ p. text_at p.0 p.1)) e ∙ texts_by (pieces 44 t))
  where
    parts : (xs : List (ℕ × Bor (List ℕ))) → map (λ p. text_at p.0 p.1) (map {B = ℕ × List ℕ} (λ p. (p.0, p.1.now)) xs) ≡ map (λ p. text_at p.0 p.1.now) xs
    parts [] = refl
    parts (x ∷ xs) = ap (λ (l : List (List ℕ)). text_at x.0 x.1.now ∷ l) (parts xs)
