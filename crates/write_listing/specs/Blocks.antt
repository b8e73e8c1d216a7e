-- A block's lines one after another.
use Prim.Native.Nat.{ℕ, suc, ◌+◌, ◌-◌, ◌*◌, ◌<◌, ◌≤◌}
use Rattle.std.specs.Prelude.{◌≡◌, take, drop}
use Rattle.std.proofs.Math.Path.{sym, ap}
use Rattle.std.proofs.Common.{◌∙◌, drop_of_length-le, take-suc, get_or-drop, take_all}
use mathlib.Core.List.{List, [], ◌∷◌, ◌++◌, flatten, append_assoc, append-nil}
use native.Mathlib.Omega.{arith}
use Rattle.std.proofs.Math.Decide.{dec_lt}
use Rattle.std.proofs.Math.ListN.{get_or, length-drop}
use Rattle.meaning.specs.Limits.{block_lines}
use Rattle.meaning.specs.Paths.{Class}
use Rattle.meaning.specs.Trees.{Table}
use Rattle.write_listing.specs.Lines.{lines_of, line_at, block_of, lines_at, lines_length}

-- the lines from number start up to line i
unfoldable pub shown : (ℕ → Class) → Table → ℕ → ℕ → List ℕ
shown κ t start i = flatten (take (i - start) (drop start (lines_of κ t)))

pub flatten_append : (xs : List (List ℕ)) (y : List ℕ) → flatten (xs ++ (y ∷ [])) ≡ flatten xs ++ y
unfolding flatten
flatten_append [] y = append-nil y
flatten_append (x ∷ xs) y = ap (λ (w : List ℕ). x ++ w) (flatten_append xs y) ∙ sym (append_assoc x (flatten xs) y)

module _ (κ : ℕ → Class) (t : Table) where
  pub shown_none : (start : ℕ) → shown κ t start start ≡ []
  unfolding shown flatten
  shown_none start = let e : start - start ≡ 0 = omega arith in rw e

  pub shown_more : (start i : ℕ) → start ≤ i → i < t.size + 1 → shown κ t start (i + 1) ≡ shown κ t start i ++ line_at κ t i
  unfolding shown
  shown_more start i low high =
      let e : i + 1 - start ≡ suc (i - start) = omega arith in
      let f : start + (i - start) ≡ i = omega arith in
      ap (λ (n : ℕ). flatten (take n (drop start (lines_of κ t)))) e
      ∙ ap flatten (take-suc (drop start (lines_of κ t)) (i - start) [] (let l = lines_length κ t in simp length-drop (omega arith)))
      ∙ flatten_append (take (i - start) (drop start (lines_of κ t))) (get_or (drop start (lines_of κ t)) (i - start) [])
      ∙ ap (λ (w : List ℕ). flatten (take (i - start) (drop start (lines_of κ t))) ++ w)
      (get_or-drop start (lines_of κ t) (i - start) [] ∙ ap (λ (n : ℕ). get_or (lines_of κ t) n []) f ∙ lines_at κ t i high)

  pub shown_all : (k i : ℕ) → block_lines * k ≤ i → i ≤ block_lines * k + block_lines → ((i < t.size + 1) → i ≡ block_lines * k + block_lines)
      → shown κ t (block_lines * k) i ≡ block_of κ t k
  unfolding shown block_of
  shown_all k i low high end = go (dec_lt i (t.size + 1))
    where
      go : Dec (i < t.size + 1)
          → flatten (take (i - block_lines * k) (drop (block_lines * k) (lines_of κ t))) ≡ flatten (take block_lines (drop (block_lines * k) (lines_of κ t)))
      go (yes h) =
          let f = end h in
          let e : i - block_lines * k ≡ block_lines = omega arith in
          ap (λ (n : ℕ). flatten (take n (drop (block_lines * k) (lines_of κ t)))) e
      go (no h) =
          let l = lines_length κ t in
          ap flatten
          (take_all (i - block_lines * k) (drop (block_lines * k) (lines_of κ t)) (simp length-drop (omega arith))
          ∙ sym (take_all block_lines (drop (block_lines * k) (lines_of κ t)) (simp length-drop (omega arith))))

  -- "past the end 0 bytes"
  pub block_past : (k : ℕ) → t.size + 1 ≤ block_lines * k → block_of κ t k ≡ []
  unfolding block_of flatten
  block_past k h =
      let l = lines_length κ t in
      ap (λ (l : List (List ℕ)). flatten (take block_lines l)) (drop_of_length-le (lines_of κ t) {i = block_lines * k} (omega arith))
