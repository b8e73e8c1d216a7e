-- One step (s, i, j, k) with k > n: its key paths against what is left of branch j. ARGUMENT 5, second case.
use Rattle.std.specs.Prelude.{ℕ, ◌+◌, ◌≤◌, ◌<◌, ◌≡◌, false, T}
use Rattle.std.proofs.Math.Path.{refl, ap₂, subst}
use Rattle.std.proofs.Common.{sym, ap, ◌∙◌, arith, length-append}
use mathlib.Core.List.{List, [], ◌∷◌, ◌++◌, append_assoc, append-nil, Memᴰ}
use Rattle.std.proofs.Math.ListN.{length, drop}
use Rattle.meaning.specs.Limits.{in_profile}
use Rattle.meaning.specs.Lists.{Each, every}
use Rattle.meaning.specs.Paths.{Label, join, simple}
use Rattle.meaning.specs.Keys.{Key}
use Rattle.meaning.specs.Rules.{BeginsSome, with_empty}
use Rattle.meaning.specs.Pattern.{t_of}
use Rattle.theory_lists.specs.Bools.{Each-at, Each-of}
use Rattle.theory_paths.specs.Simple.{simple_left, simple_right, join_simples}
use Rattle.theory_paths.specs.Good.{GoodKey, key_path_simple, key_path_length, paths_some, paths_ascending}
use Rattle.theory_lists.specs.Lists.{with_empty_path, with_empty_each}
use Rattle.theory_lists.specs.Logic.{each_imp}
use Rattle.theory_derive.specs.Sets.{insert, each_insert, ascending_one}
use Rattle.theory_pattern.specs.Spots.{chain_of, branch_of, row_of, holds_empty, FiresBy}
use Rattle.theory_derive.specs.Written.{above, to_spot, below_spot}
use Rattle.theory_derive.specs.Lines.{ReadOff, begins_read, among_begins}
use Rattle.theory_pattern.specs.Rows.{OnRow, branch_among}
use Rattle.theory_derive.specs.Landing.{landed_on, below_begins, below_whole}
use Rattle.theory_derive.specs.Step.{above_spot, within, within_below, spot_below}

module _ (labels : List Label) (asked s : Key) (i j k : ℕ) (g : GoodKey labels in_profile asked) (gs : GoodKey labels in_profile s)
    (f : FiresBy asked s i j k) where
  -- the key paths of s, behind the spot
  pub spot_read : Each (ReadOff asked (above asked i ++ to_spot asked i j k)) s.paths
  spot_read =
      Each-of s.paths
      (λ p m. record {
        is_simple = key_path_simple labels in_profile s gs p m;
        short = omega (arith, key_path_length labels in_profile s gs p m);
        on = subst (λ l. OnRow asked (l ++ p)) (sym (above_spot asked s i j k f)) (landed_on asked j k p (Each-at f.landing p m));
      })

  branch : Memᴰ (branch_of asked j) asked.paths
  branch = branch_among asked j f.is_branch

  pub branch_simple : T (simple (branch_of asked j))
  branch_simple = key_path_simple labels in_profile asked g (branch_of asked j) branch

  pub branch_read : ReadOff asked (chain_of asked) (branch_of asked j)
  branch_read = begins_read labels asked g (branch_of asked j) (among_begins labels asked g (branch_of asked j) branch)

  pub empty_read : ReadOff asked (chain_of asked) []
  empty_read = begins_read labels asked g [] (record { rest = branch_of asked j; among = branch })

  module _ (h : t_of asked < k) where
    whole_simple : T (simple (within asked s i j k f ++ below_spot asked j k))
    whole_simple = subst (λ l. T (simple l)) (sym (within_below asked s i j k f h)) branch_simple

    pub within_simple : T (simple (within asked s i j k f))
    within_simple = simple_left (within asked s i j k f) (below_spot asked j k) whole_simple

    pub below_simple : T (simple (below_spot asked j k))
    below_simple = simple_right (within asked s i j k f) (below_spot asked j k) whole_simple

    pub within_joins : branch_of asked j ≡ join (within asked s i j k f) (below_spot asked j k)
    within_joins = sym (join_simples (within asked s i j k f) (below_spot asked j k) within_simple below_simple ∙ within_below asked s i j k f h)

    -- without e in S: "S_s = {H}"
    pub paths_one : holds_empty asked ≡ false → s.paths ≡ below_spot asked j k ∷ []
    unfolding below_spot
    paths_one none =
        ascending_one (drop k (row_of asked j)) s.paths (paths_some labels in_profile s gs) (paths_ascending labels in_profile s gs)
        (each_imp (λ p l. below_whole asked j k p l h none) f.landing)

    -- with e: "a set of beginnings of H"
    pub paths_begin : Each (BeginsSome (with_empty (below_spot asked j k))) (insert [] s.paths)
    unfolding below_spot
    paths_begin =
        each_insert [] (record { rest = drop k (row_of asked j); among = with_empty_path (drop k (row_of asked j)) })
        (each_imp (λ p l. record {
          rest = drop (k + length p) (row_of asked j);
          among = subst (λ q. Memᴰ q (with_empty (drop k (row_of asked j)))) (sym (below_begins asked j k p l h)) (with_empty_path (drop k (row_of asked j)));
        }) f.landing)

    behind_read : (p r : List ℕ) → T (simple p) → length p ≤ 8 → p ++ r ≡ below_spot asked j k → ReadOff asked (above asked i ++ to_spot asked i j k) p
    unfolding row_of
    behind_read p r t short e =
        record {
          is_simple = t;
          short = omega arith;
          on = record {
            path = branch_of asked j;
            among = branch;
            rest = r;
            whole = append_assoc (above asked i ++ to_spot asked i j k) p r ∙ ap₂ (λ (a b : List ℕ). a ++ b) (above_spot asked s i j k f) e ∙ spot_below asked s i j k f;
          };
        }

    below_read : ReadOff asked (above asked i ++ to_spot asked i j k) (below_spot asked j k)
    below_read =
        behind_read (below_spot asked j k) [] below_simple
        (omega (
          arith,
          key_path_length labels in_profile asked g (branch_of asked j) branch,
          ap length (within_below asked s i j k f h),
          length-append (within asked s i j k f) (below_spot asked j k),
        ))
        (append-nil (below_spot asked j k))

    none_read : ReadOff asked (above asked i ++ to_spot asked i j k) []
    unfolding simple every
    none_read = behind_read [] (below_spot asked j k) tt (omega arith) refl

    pub insert_read : Each (ReadOff asked (above asked i ++ to_spot asked i j k)) (insert [] s.paths)
    insert_read = each_insert [] none_read spot_read

    pub end_read : Each (ReadOff asked (above asked i ++ to_spot asked i j k)) (with_empty (below_spot asked j k))
    end_read = with_empty_each (below_spot asked j k) none_read below_read
