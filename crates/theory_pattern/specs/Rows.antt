-- The rows of the asked key, C.T.P for each of its key paths P: what begins one, their lengths, and that each is valid.
use Rattle.std.specs.Prelude.{ℕ, suc, ◌+◌, ◌≤◌, ◌<◌, ◌≡◌, length, get_or, take, drop}
use Rattle.std.proofs.Common.{sym, ap, subst, ◌∙◌, arith}
use mathlib.Core.List.{List, [], ◌++◌, append-nil, Memᴰ}
use Rattle.std.proofs.Math.Dec.{T}
use Rattle.std.proofs.Math.ListN.{length-append}
use Rattle.std.proofs.Math.Seq.{split_at}
use Rattle.meaning.specs.Limits.{in_profile}
use Rattle.meaning.specs.Lists.{every}
use Rattle.meaning.specs.Paths.{Label, class_of, valid}
use Rattle.meaning.specs.Keys.{Key}
use Rattle.meaning.specs.Pattern.{t_of}
use Rattle.meaning.specs.Refusals.{is_symbol}
use Rattle.theory_lists.specs.Bools.{every_append, every_left}
use Rattle.theory_lists.specs.Lists.{get_or_mem}
use Rattle.theory_paths.specs.Valid.{may_step, valid_left, valid_before}
use Rattle.theory_paths.specs.Good.{GoodKey, context_symbols, target_symbols, key_path_symbols, context_length, target_length, valid_whole}
use Rattle.theory_pattern.specs.Spots.{chain_of, branch_of, row_of}

-- X begins a row of the asked key
pub record OnRow (asked : Key) (X : List ℕ) : Type 0 where
  pub path : List ℕ
  pub among : Memᴰ path asked.paths
  pub rest : List ℕ
  pub whole : X ++ rest ≡ chain_of asked ++ path

pub chain_length : (asked : Key) → length (chain_of asked) ≡ t_of asked
unfolding chain_of t_of
chain_length asked = length-append asked.context asked.target

pub branch_among : (asked : Key) (j : ℕ) → j < length asked.paths → Memᴰ (branch_of asked j) asked.paths
unfolding branch_of
branch_among asked j h = get_or_mem asked.paths j [] h

pub row_length : (asked : Key) (j : ℕ) → length (row_of asked j) ≡ t_of asked + length (branch_of asked j)
unfolding row_of
row_length asked j = length-append (chain_of asked) (branch_of asked j) ∙ ap (λ m. m + length (branch_of asked j)) (chain_length asked)

module _ (labels : List Label) (asked : Key) (g : GoodKey labels in_profile asked) where
  pub chain_short : length (chain_of asked) ≤ 16
  unfolding chain_of
  chain_short =
      omega (arith, length-append asked.context asked.target, context_length labels in_profile asked g, target_length labels in_profile asked g)

  pub on_symbols : (X : List ℕ) → OnRow asked X → T (every (is_symbol labels) X)
  unfolding chain_of
  on_symbols X o =
      every_left (is_symbol labels) X o.rest
      (subst (λ l. T (every (is_symbol labels) l)) (sym o.whole)
      (every_append (is_symbol labels) (chain_of asked) o.path
      (every_append (is_symbol labels) asked.context asked.target (context_symbols labels in_profile asked g) (target_symbols labels in_profile asked g))
      (key_path_symbols labels in_profile asked g o.path o.among)))

  pub on_valid : (X : List ℕ) → OnRow asked X → T (valid (class_of labels) X)
  unfolding chain_of
  on_valid X o =
      valid_left (class_of labels) X o.rest
      (subst (λ l. T (valid (class_of labels) l)) (sym o.whole) (valid_whole labels in_profile asked g o.path o.among))

  -- each row is valid, so what stands before another symbol of it steps on
  pub row_valid : (j : ℕ) → j < length asked.paths → T (valid (class_of labels) (row_of asked j))
  unfolding row_of
  row_valid j h =
      on_valid (row_of asked j)
      (record { path = branch_of asked j; among = branch_among asked j h; rest = []; whole = append-nil (row_of asked j) })

  pub before_steps : (i j : ℕ) → j < length asked.paths → i < length (row_of asked j)
      → T (every (may_step (class_of labels)) (take i (row_of asked j)))
  before_steps i j h l =
      valid_before (class_of labels) (take i (row_of asked j)) (get_or (row_of asked j) i 0) (drop (suc i) (row_of asked j))
      (subst (λ r. T (valid (class_of labels) r)) (split_at (row_of asked j) i 0 l) (row_valid j h))

  pub chain_symbols : T (every (is_symbol labels) (chain_of asked))
  unfolding chain_of
  chain_symbols =
      every_append (is_symbol labels) asked.context asked.target (context_symbols labels in_profile asked g) (target_symbols labels in_profile asked g)
