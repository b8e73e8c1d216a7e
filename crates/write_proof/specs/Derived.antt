-- The lines that the code writes over an asked row are theory_derive's.
use Rattle.std.specs.Prelude.{ℕ, ◌+◌, ◌-◌, ◌≤◌, ◌≡◌, length, take, drop}
use Rattle.std.proofs.Math.Path.{sym, ap, ap₂}
use Rattle.std.proofs.Common.{◌∙◌, arith, length-drop, take_at}
use Rattle.std.proofs.Math.Bool.{cond}
use mathlib.Core.List.{List, [], ◌∷◌, map}
use Rattle.std.proofs.Math.Seq.{take-append-le, drop_at}
use borrow.Author.Rules.{part_to_end}
use Rattle.meaning.specs.Keys.{Key}
use Rattle.meaning.specs.Paths.{norm}
use Rattle.meaning.specs.Pattern.{t_of}
use Rattle.theory_derive.specs.Sets.{unite}
use Rattle.theory_pattern.specs.Spots.{chain_of, branch_of, row_of, part, holds_empty}
use Rattle.theory_pattern.specs.Rows.{chain_length}
use Rattle.theory_derive.specs.Written.{key_of, key_at, one_line, above, to_spot, to_t, below_spot, narrowed, at_spot, opening, beyond, united, chain_lines, end_lines, empty_lines}
use Rattle.write_set.specs.Inserts.{drop_of_take}
use Rattle.write_set.specs.Fronts.{in_front}
use Rattle.write_step.specs.StepLines.{between, opening_of, united_by, chain_lines_of, end_lines_of, empty_lines_of}

-- a key whose context and target are in normal form
pub record KeyNormal (k : Key) : Type 0 where
  pub context : norm k.context ≡ k.context
  pub target : norm k.target ≡ k.target

pub key_normal : (k : Key) → KeyNormal k → key_of k.context k.target k.paths ≡ k
unfolding key_of
key_normal k n = ap₂ (λ (C X : List ℕ). record { context = C; target = X; paths = k.paths }) n.context n.target

module _ (asked : Key) (j : ℕ) where
  above_is : (i : ℕ) → i ≤ t_of asked → take i (row_of asked j) ≡ above asked i
  unfolding row_of above
  above_is i h = take-append-le i (chain_of asked) (branch_of asked j) (let e = chain_length asked in omega arith)

  spot_is : (i k : ℕ) → i ≤ k → between i k (row_of asked j) ≡ to_spot asked i j k
  unfolding to_spot part
  spot_is i k h = sym (drop_of_take i k (row_of asked j) h)

  to_t_is : (i : ℕ) → i ≤ t_of asked → between i (t_of asked) (row_of asked j) ≡ to_t asked i
  unfolding to_t row_of
  to_t_is i h =
      sym (drop_of_take i (t_of asked) (row_of asked j) h) ∙ ap (drop i) (take_at (chain_of asked) (branch_of asked j) (t_of asked) (chain_length asked))

  below_is : (k : ℕ) → between k (length (row_of asked j)) (row_of asked j) ≡ below_spot asked j k
  unfolding below_spot
  below_is k = part_to_end (row_of asked j) k

  branch_is : between (t_of asked) (length (row_of asked j)) (row_of asked j) ≡ branch_of asked j
  unfolding row_of
  branch_is = part_to_end (row_of asked j) (t_of asked) ∙ drop_at (chain_of asked) (branch_of asked j) (t_of asked) (chain_length asked)

  narrowed_is : (s : Key) (i : ℕ) → KeyNormal s → i ≤ t_of asked → key_of (take i (row_of asked j)) s.target s.paths ≡ narrowed asked s i
  unfolding key_of narrowed
  narrowed_is s i n h = ap₂ (λ (A X : List ℕ). record { context = norm A; target = X; paths = s.paths }) (above_is i h) n.target

  pub opening_is : (s : Key) (number i k lines : ℕ) → KeyNormal s → i ≤ t_of asked → i ≤ k
      → opening_of (row_of asked j) s number i k lines ≡ opening asked s number i j k lines
  unfolding opening_of opening narrowed at_spot
  opening_is s number i k lines n h l =
      ap₂ (λ (K M : Key). one_line 0 number K ∷ one_line 5 lines M ∷ one_line 6 (lines + 1) (key_of (take i (row_of asked j)) (between i k (row_of asked j)) s.paths) ∷ [])
      (key_normal s n) (narrowed_is s i n h)
      ∙ ap₂ (λ (A X : List ℕ). one_line 0 number s ∷ one_line 5 lines (narrowed asked s i) ∷ one_line 6 (lines + 1) (key_of A X s.paths) ∷ [])
      (above_is i h) (spot_is i k l)

  united_is : (s : Key) (k : ℕ) → united_by asked s (t_of asked - k) ≡ united asked s k
  unfolding united_by united beyond to_t
  united_is s k =
      ap (λ (m : ℕ). cond (holds_empty asked) (unite asked.paths (map (drop m) s.paths)) asked.paths)
      (sym (length-drop k (chain_of asked) ∙ ap (λ (m : ℕ). m - k) (chain_length asked)))

  pub chain_is : (s : Key) (i k lines : ℕ) → i ≤ t_of asked → i ≤ k → k ≤ t_of asked
      → chain_lines_of (row_of asked j) (t_of asked) asked (united_by asked s (t_of asked - k)) i k lines ≡ chain_lines asked s i j k lines
  unfolding chain_lines_of chain_lines key_at in_front above to_t
  chain_is s i k lines h l m = rw (above_is i h, above_is k m, spot_is i k l, to_t_is i h, to_t_is k m, united_is s k)

  pub end_is : (i lines : ℕ) → i ≤ t_of asked → end_lines_of (row_of asked j) (t_of asked) asked i lines ≡ end_lines asked i j lines
  unfolding end_lines_of end_lines key_at above to_t
  end_is i lines h = rw (above_is i h, to_t_is i h, branch_is)

  pub empty_is : (s : Key) (i k lines : ℕ) → i ≤ t_of asked → i ≤ k
      → empty_lines_of (row_of asked j) (t_of asked) asked s i k lines ≡ empty_lines asked s i j k lines
  unfolding empty_lines_of empty_lines key_at above to_t
  empty_is s i k lines h l = rw (above_is i h, spot_is i k l, to_t_is i h, below_is k, branch_is)
