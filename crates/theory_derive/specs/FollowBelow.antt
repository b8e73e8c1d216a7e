-- ARGUMENT 5, "k > n": the lines of a step from inside a branch follow.
use Rattle.std.specs.Prelude.{ℕ, ◌+◌, ◌≤◌, ◌<◌, ◌≡◌, true, false, length}
use Rattle.std.proofs.Math.Path.{refl, ap}
use Rattle.std.proofs.Common.{sym, subst, ◌∙◌, arith}
use mathlib.Core.List.{List, [], ◌∷◌, ◌++◌}
use Rattle.std.proofs.Math.ListN.{get_elem?}
use Rattle.std.proofs.Math.Option.{some}
use Rattle.meaning.specs.Limits.{in_profile}
use Rattle.meaning.specs.Lists.{Each, end, also, ascending}
use Rattle.meaning.specs.Paths.{Label, norm, join}
use Rattle.meaning.specs.Keys.{Key}
use Rattle.meaning.specs.Rules.{rule2, rule3, rule4, rule8, with_empty}
use Rattle.meaning.specs.Pattern.{t_of}
use Rattle.theory_lists.specs.Bools.{Each-of}
use Rattle.theory_paths.specs.Good.{GoodKey, paths_within, paths_ascending}
use Rattle.theory_lists.specs.Lists.{with_empty_empty, with_empty_each}
use Rattle.theory_lists.specs.Logic.{mem_some}
use Rattle.theory_pattern.specs.RowParts.{join_norm}
use Rattle.theory_derive.specs.Sets.{insert, insert_self, insert_old, insert_length, insert_ascending, ascending_empty}
use Rattle.theory_pattern.specs.Spots.{chain_of, branch_of, holds_empty, FiresBy}
use Rattle.theory_derive.specs.Written.{key_of, key_at, one_line, two_line, above, to_spot, to_t, below_spot, narrowed, at_spot, end_lines, empty_lines}
use Rattle.theory_derive.specs.Lines.{ReadOff, good_at}
use Rattle.theory_pattern.specs.Rows.{branch_among}
use Rattle.theory_derive.specs.Runs.{FineLine, Runs, done, next}
use Rattle.theory_derive.specs.Step
use Rattle.theory_derive.specs.Branch
use Rattle.theory_derive.specs.Follow

with_empty_some : (p : List ℕ) → 1 ≤ length (with_empty p)
unfolding with_empty
with_empty_some [] = omega arith
with_empty_some (x ∷ p) = omega arith

with_empty_few : (p : List ℕ) → length (with_empty p) ≤ 8
unfolding with_empty
with_empty_few [] = omega arith
with_empty_few (x ∷ p) = omega arith

module _ (labels : List Label) (keys : List Key) (asked s : Key) (number i j k : ℕ) (g : GoodKey labels in_profile asked)
    (gs : GoodKey labels in_profile s) (f : FiresBy asked s i j k) (earlier : List Key) (at : ℕ) (e : length earlier ≡ at) (nk : t_of asked < k) where
  later : (first m : ℕ) → first ≡ at + m → (written : List Key) (p : Key) → get_elem? written m ≡ some p → get_elem? (earlier ++ written) first ≡ some p
  later = Follow.later labels keys asked s number i j k g gs f earlier at e

  -- the target down to the spot is the one down to t and on into the branch
  into_branch : norm (to_spot asked i j k) ≡ join (norm (to_t asked i)) (Step.within asked s i j k f)
  into_branch = ap norm (Step.t_to_spot asked s i j k f nk) ∙ sym (join_norm (to_t asked i) (Step.within asked s i j k f))

  at_t : (S : List (List ℕ)) → Each (ReadOff asked (chain_of asked)) S → Each (ReadOff asked (above asked i ++ to_t asked i)) S
  at_t S r = subst (λ l. Each (ReadOff asked l) S) (sym (Step.above_t asked i)) r

  last_fine : FineLine labels (one_line 3 0 (key_at asked i))
  unfolding one_line key_at key_of
  last_fine = record { good = good_at labels asked g i; few = omega (arith, paths_within labels in_profile asked g) }

  -- without e in S: rule 4, rule 3
  pub end_runs : holds_empty asked ≡ false → Runs labels keys earlier (s ∷ narrowed asked s i ∷ at_spot asked s i j k ∷ []) (end_lines asked i j at)
  unfolding end_lines one_line two_line at_spot key_at key_of above to_t ascending
  end_runs none =
      next
      (rule4 refl refl (at_spot asked s i j k) (later (at + 2) 2 refl (s ∷ narrowed asked s i ∷ at_spot asked s i j k ∷ []) (at_spot asked s i j k) refl)
      (record {
        P = Step.within asked s i j k f;
        s = below_spot asked j k;
        is_simple = Branch.within_simple labels asked s i j k g gs f nk;
        context = refl;
        target = into_branch;
        old = Branch.paths_one labels asked s i j k g gs f nk none;
        new = ap (λ (p : List ℕ). p ∷ []) (Branch.within_joins labels asked s i j k g gs f nk);
      }))
      (Follow.read_line labels keys asked s number i j k g gs f earlier at e 4 (at + 2) 65535 (above asked i) (to_t asked i) (branch_of asked j ∷ [])
      (Follow.above_short labels keys asked s number i j k g gs f earlier at e i) (Follow.to_t_short labels keys asked s number i j k g gs f earlier at e i)
      (omega arith) (omega arith) tt (at_t (branch_of asked j ∷ []) (also (Branch.branch_read labels asked s i j k g gs f) end)))
      (next
      (rule3 refl refl _ (later (at + 3) 3 refl (s ∷ narrowed asked s i ∷ at_spot asked s i j k ∷ key_of (above asked i) (to_t asked i) (branch_of asked j ∷ []) ∷ []) _ refl)
      (record { context = refl; target = refl; includes = also (branch_among asked j f.is_branch) end }))
      (record { good = last_fine.good; few = last_fine.few }) done)

  -- with e in S: rule 3, rule 2, rule 8, rule 3
  module _ (holds : holds_empty asked ≡ true) where
    K3 : Key
    K3 = key_of (above asked i) (to_spot asked i j k) (insert [] s.paths)

    K4 : Key
    K4 = key_of (above asked i) (to_spot asked i j k) (with_empty (below_spot asked j k))

    K5 : Key
    K5 = key_of (above asked i) (to_t asked i) (with_empty (branch_of asked j))

    pub empty_runs : Runs labels keys earlier (s ∷ narrowed asked s i ∷ at_spot asked s i j k ∷ []) (empty_lines asked s i j k at)
    unfolding empty_lines one_line two_line at_spot key_at key_of above to_t K3 K4 K5
    empty_runs =
        next
        (rule3 refl refl (at_spot asked s i j k) (later (at + 2) 2 refl (s ∷ narrowed asked s i ∷ at_spot asked s i j k ∷ []) (at_spot asked s i j k) refl)
        (record { context = refl; target = refl; includes = Each-of s.paths (λ p m. insert_old [] m) }))
        (Follow.read_line labels keys asked s number i j k g gs f earlier at e 3 (at + 2) 65535 (above asked i) (to_spot asked i j k) (insert [] s.paths)
        (Follow.above_short labels keys asked s number i j k g gs f earlier at e i) (Follow.to_spot_short labels keys asked s number i j k g gs f earlier at e)
        (mem_some (insert_self [] s.paths)) (omega (arith, insert_length [] s.paths, paths_within labels in_profile s gs))
        (insert_ascending [] s.paths (paths_ascending labels in_profile s gs)) (Branch.insert_read labels asked s i j k g gs f nk))
        (next
        (rule2 refl refl K3 (later (at + 3) 3 refl (s ∷ narrowed asked s i ∷ at_spot asked s i j k ∷ K3 ∷ []) K3 refl)
        (record {
          context = refl;
          target = refl;
          old_empty = insert_self [] s.paths;
          new_empty = with_empty_empty (below_spot asked j k);
          begins = Branch.paths_begin labels asked s i j k g gs f nk;
        }))
        (Follow.read_line labels keys asked s number i j k g gs f earlier at e 2 (at + 3) 65535 (above asked i) (to_spot asked i j k) (with_empty (below_spot asked j k))
        (Follow.above_short labels keys asked s number i j k g gs f earlier at e i) (Follow.to_spot_short labels keys asked s number i j k g gs f earlier at e)
        (with_empty_some (below_spot asked j k)) (with_empty_few (below_spot asked j k)) (ascending_empty (below_spot asked j k))
        (Branch.end_read labels asked s i j k g gs f nk))
        (next
        (rule8 refl refl K4 (later (at + 4) 4 refl (s ∷ narrowed asked s i ∷ at_spot asked s i j k ∷ K3 ∷ K4 ∷ []) K4 refl)
        (record {
          P = Step.within asked s i j k f;
          s = below_spot asked j k;
          is_simple = Branch.within_simple labels asked s i j k g gs f nk;
          context = refl;
          target = into_branch;
          old = refl;
          new = ap with_empty (Branch.within_joins labels asked s i j k g gs f nk);
        }))
        (Follow.read_line labels keys asked s number i j k g gs f earlier at e 8 (at + 4) 65535 (above asked i) (to_t asked i) (with_empty (branch_of asked j))
        (Follow.above_short labels keys asked s number i j k g gs f earlier at e i) (Follow.to_t_short labels keys asked s number i j k g gs f earlier at e i)
        (with_empty_some (branch_of asked j)) (with_empty_few (branch_of asked j)) (ascending_empty (branch_of asked j))
        (at_t (with_empty (branch_of asked j))
        (with_empty_each (branch_of asked j) (Branch.empty_read labels asked s i j k g gs f) (Branch.branch_read labels asked s i j k g gs f))))
        (next
        (rule3 refl refl K5 (later (at + 5) 5 refl (s ∷ narrowed asked s i ∷ at_spot asked s i j k ∷ K3 ∷ K4 ∷ K5 ∷ []) K5 refl)
        (record {
          context = refl;
          target = refl;
          includes = with_empty_each (branch_of asked j) (Step.empty_among asked holds) (branch_among asked j f.is_branch);
        }))
        (record { good = last_fine.good; few = last_fine.few }) done)))
