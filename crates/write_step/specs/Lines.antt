-- Proof lines written one after another, each of at most 256 bytes.
use Rattle.std.specs.Prelude.{ℕ, ◌+◌, ◌*◌, ◌≤◌, ◌≡◌, refl, length}
use Rattle.std.proofs.Common.{sym, ◌∙◌, ap, subst, arith, length-append}
use mathlib.Core.List.{List, [], ◌∷◌, ◌++◌, map, flatten, append_assoc, append-nil}
use Rattle.meaning.specs.Rules.{Line}
use Rattle.meaning.specs.Records.{line_bytes}
use Rattle.write_bytes.specs.Wrote.{Wrote, wrote_more, wrote_is, wrote_none}
use Rattle.write_line.specs.LineParts.{WroteLine}

unfoldable pub bytes_of_lines : List Line → List ℕ
bytes_of_lines lines = flatten (map line_bytes lines)

pub record WroteLines (out end : List ℕ) (at : ℕ) (lines : List Line) (next : ℕ) : Type 0 where
  pub wrote : Wrote out end at (bytes_of_lines lines) next
  pub short : next ≤ at + 256 * length lines

lines_append : (xs ys : List Line) → bytes_of_lines (xs ++ ys) ≡ bytes_of_lines xs ++ bytes_of_lines ys
unfolding bytes_of_lines flatten
lines_append [] ys = refl
lines_append (x ∷ xs) ys = ap (λ (l : List ℕ). line_bytes x ++ l) (lines_append xs ys) ∙ sym (append_assoc (line_bytes x) (bytes_of_lines xs) (bytes_of_lines ys))

pub lines_more : {out mid end : List ℕ} {at next last : ℕ} {xs ys : List Line} → WroteLines out mid at xs next → WroteLines mid end next ys last
    → WroteLines out end at (xs ++ ys) last
lines_more {xs = xs} {ys} a b =
    record {
      wrote = wrote_is (sym (lines_append xs ys)) (wrote_more a.wrote b.wrote);
      short = let e = length-append xs ys in let p = a.short in let q = b.short in omega arith;
    }

pub line_one : {out end : List ℕ} {at next : ℕ} (l : Line) → WroteLine out end at (line_bytes l) next → WroteLines out end at (l ∷ []) next
unfolding bytes_of_lines flatten
line_one l w =
    record { wrote = wrote_is (sym (append-nil (line_bytes l))) w.wrote; short = let s = w.short in omega arith }

pub lines_is : {out end : List ℕ} {at next : ℕ} {xs ys : List Line} → xs ≡ ys → WroteLines out end at xs next → WroteLines out end at ys next
lines_is {out} {end} {at} {next} e w = subst (λ (l : List Line). WroteLines out end at l next) e w

pub lines_none : (out : List ℕ) (at : ℕ) → at ≤ length out → WroteLines out out at [] at
unfolding bytes_of_lines flatten
lines_none out at h = record { wrote = wrote_none out at h; short = omega arith }
