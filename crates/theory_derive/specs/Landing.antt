-- Where the key paths of a step's key land: ARGUMENT 5, "every mark lies at n or further, so each key path of s has F as its beginning",
-- and for k > n "S_s is a set of beginnings of H".
use Rattle.std.specs.Prelude.{ℕ, ◌+◌, ◌-◌, ◌≤◌, ◌<◌, ◌≡◌, false, eqb}
use Rattle.std.proofs.Math.Path.{sym, ap}
use Rattle.std.proofs.Common.{ap₂, subst, ◌∙◌, arith, drop_of_length-le, take_all}
use Rattle.std.proofs.Math.Logic.{⊎_elim}
use mathlib.Core.List.{List, ◌++◌, append_assoc, append-nil, append_cancel_left, Memᴰ}
use Rattle.std.proofs.Math.Dec.{T, eqb→eq, leb→le}
use Rattle.std.proofs.Math.ListN.{length, take, drop, take-append-drop}
use Rattle.std.proofs.Math.Seq.{take-append-le}
use Rattle.meaning.specs.Keys.{Key}
use Rattle.meaning.specs.Rules.{BeginsSome}
use Rattle.meaning.specs.Pattern.{t_of}
use Rattle.theory_lists.specs.Bools.{or_cases, and_left, and_right}
use Rattle.theory_lists.specs.Logic.{less_or}
use Rattle.theory_pattern.specs.RowParts.{take_part, part_drop, take_past}
use Rattle.theory_pattern.specs.Spots.{chain_of, branch_of, row_of, part, holds_empty, marked_at, LandsAt}
use Rattle.theory_pattern.specs.Rows.{OnRow, chain_length, row_length, branch_among}

module _ (asked : Key) (j k : ℕ) (p : List ℕ) (h : LandsAt asked j k p) where
  -- the mark lies at t or further
  pub mark_past : t_of asked ≤ k + length p
  unfolding marked_at
  mark_past =
      ⊎_elim (λ e. omega (arith, eqb→eq (k + length p) (length (row_of asked h.at)) e, row_length asked h.at))
      (λ e. leb→le (t_of asked) (k + length p) (and_right (holds_empty asked) _ e))
      (or_cases (eqb (k + length p) (length (row_of asked h.at))) _ h.mark)

  -- without e in S only the ends of the branches are marked
  pub mark_end : holds_empty asked ≡ false → k + length p ≡ length (row_of asked h.at)
  unfolding marked_at
  mark_end none =
      ⊎_elim (λ e. eqb→eq (k + length p) (length (row_of asked h.at)) e)
      (λ e. absurd (subst T none (and_left (holds_empty asked) _ e)))
      (or_cases (eqb (k + length p) (length (row_of asked h.at))) _ h.mark)

  -- the two lines are one down to the spot
  pub same_above : take k (row_of asked h.at) ≡ take k (row_of asked j)
  unfolding row_of
  same_above =
      ⊎_elim (λ l. ap (λ b. take k (row_of asked b)) (h.in_branch l))
      (λ l. on h.at l ∙ sym (on j l)) (less_or (t_of asked) k)
    where
      on : (b : ℕ) → k ≤ t_of asked → take k (row_of asked b) ≡ take k (chain_of asked)
      on b l = take-append-le k (chain_of asked) (branch_of asked b) (omega (arith, chain_length asked))

  pub reads_on : take k (row_of asked j) ++ p ≡ take (k + length p) (row_of asked h.at)
  reads_on =
      ap₂ (λ (a b : List ℕ). a ++ b) (sym same_above) (sym h.reads)
      ∙ take_part k (k + length p) (row_of asked h.at) (omega arith)

  pub landed_on : OnRow asked (take k (row_of asked j) ++ p)
  unfolding row_of
  landed_on =
      record {
        path = branch_of asked h.at;
        among = branch_among asked h.at h.is_branch;
        rest = drop (k + length p) (row_of asked h.at);
        whole = ap (λ l. l ++ drop (k + length p) (row_of asked h.at)) reads_on ∙ take-append-drop (k + length p) (row_of asked h.at);
      }

-- k ≤ n: the path has what is left of the chain as its beginning, and the rest begins a key path of the asked key
pub record Beyond (asked : Key) (k : ℕ) (p : List ℕ) : Type 0 where
  pub rest : List ℕ
  pub split : p ≡ drop k (chain_of asked) ++ rest
  pub begins : BeginsSome asked.paths rest
  pub ends : holds_empty asked ≡ false → Memᴰ rest asked.paths

pub beyond_of : (asked : Key) (j k : ℕ) (p : List ℕ) → LandsAt asked j k p → k ≤ t_of asked → Beyond asked k p
unfolding row_of
beyond_of asked j k p h l =
    record {
      rest = rest;
      split = append_cancel_left (take k chain) p (drop k chain ++ rest) along;
      begins = record { rest = drop m P; among = subst (λ q. Memᴰ q asked.paths) (sym (take-append-drop m P)) among };
      ends = λ none. subst (λ q. Memᴰ q asked.paths) (sym (take_all m P (omega (arith, mark_end asked j k p h none, row_length asked h.at, chain_length asked)))) among;
    }
  where
    chain : List ℕ
    chain = chain_of asked

    P : List ℕ
    P = branch_of asked h.at

    m : ℕ
    m = k + length p - length chain

    rest : List ℕ
    rest = take m P

    among : Memᴰ P asked.paths
    among = branch_among asked h.at h.is_branch

    along : take k chain ++ p ≡ take k chain ++ (drop k chain ++ rest)
    along =
        ap (λ t. t ++ p) (sym (take-append-le k chain (branch_of asked j) (omega (arith, chain_length asked))))
        ∙ reads_on asked j k p h
        ∙ take_past chain P (k + length p) (omega (arith, chain_length asked, mark_past asked j k p h))
        ∙ ap (λ t. t ++ rest) (sym (take-append-drop k chain))
        ∙ append_assoc (take k chain) (drop k chain) rest

-- k > n: the path begins what is left of the line; without e in S it is what is left
module _ (asked : Key) (j k : ℕ) (p : List ℕ) (h : LandsAt asked j k p) (l : t_of asked < k) where
  here : part k (k + length p) (row_of asked j) ≡ p
  here = subst (λ b. part k (k + length p) (row_of asked b) ≡ p) (h.in_branch l) h.reads

  pub below_begins : p ++ drop (k + length p) (row_of asked j) ≡ drop k (row_of asked j)
  below_begins =
      ap (λ q. q ++ drop (k + length p) (row_of asked j)) (sym here) ∙ part_drop k (k + length p) (row_of asked j) (omega arith)

  pub below_whole : holds_empty asked ≡ false → p ≡ drop k (row_of asked j)
  below_whole none =
      sym (append-nil p)
      ∙ ap (λ q. p ++ q) (sym (drop_of_length-le (row_of asked j) {i = k + length p}
      (omega (arith, mark_end asked j k p h none, ap (λ b. length (row_of asked b)) (h.in_branch l)))))
      ∙ below_begins
