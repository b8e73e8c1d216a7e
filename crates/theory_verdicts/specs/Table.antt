-- Document 01, the bench examples: for each row of the one table, what 01 says, I or N, is the truth about all finite trees. The steps' verdicts are
-- computed in `theory_rows`, that labels and keys are well formed is computed here, and 001, Theorem 2 does the rest.
use Rattle.std.proofs.Common.{sym, subst, append_assoc, append-nil, eqb→eq}
use Rattle.std.specs.Prelude.{Bool, true, ◌&&◌, not, List, [], ◌∷◌, ◌++◌, T, eqb}
use Rattle.meaning.specs.Limits.{in_profile}
use Rattle.meaning.specs.Lists
use Rattle.meaning.specs.Lists.{Each, every}
use Rattle.meaning.specs.Paths
use Rattle.meaning.specs.Paths.{Label}
use Rattle.meaning.specs.Keys.{Key, Implied}
use Rattle.meaning.specs.Refusals
use Rattle.meaning.specs.Refusals.{first_of, good_label, key_tests}
use Rattle.theory_lists.specs.Bools.{and_left, and_right, every_Each}
use Rattle.theory_paths.specs.Good.{GoodLabels, GoodKey, good_labels_none, good_labels_more, good_of_tests}
use Rattle.theory_lists.specs.Logic.{each_imp, each_both}
use Rattle.theory_rows.specs.Bench.{Row, bench, rows}
use Rattle.theory_rows.specs.Steps.{RowHolds, single_of, steps_agree}
use Rattle.theory_verdicts.specs.Exactly.{implied_exactly}

-- ---- the bench is well formed: its labels and keys pass the tests of a profile

-- refusal 3, label after label
unfoldable labels_pass : List Label → List Label → Bool
labels_pass read [] = true
labels_pass read (l ∷ labels) = good_label read l && labels_pass (read ++ (l ∷ [])) labels

labels_good : (read labels : List Label) → GoodLabels read → T (labels_pass read labels) → GoodLabels (read ++ labels)
unfolding labels_pass
labels_good read [] g t = subst GoodLabels (sym (append-nil read)) g
labels_good read (l ∷ labels) g t =
    subst GoodLabels (append_assoc read (l ∷ []) labels)
    (labels_good (read ++ (l ∷ [])) labels (good_labels_more read l g (and_left (good_label read l) _ t)) (and_right (good_label read l) _ t))

-- refusals 4, 5 and 6
unfoldable key_passes : Key → Bool
key_passes k = eqb (first_of (key_tests bench in_profile k)) 0

key_good : (k : Key) → T (key_passes k) → GoodKey bench in_profile k
unfolding key_passes
key_good k t = good_of_tests bench in_profile k (eqb→eq (first_of (key_tests bench in_profile k)) 0 t)

unfoldable row_passes : Row → Bool
row_passes r = key_passes r.asked && every key_passes r.keys

bench_good : GoodLabels bench
unfolding bench labels_pass good_label Refusals.is_letter Refusals.in_name Refusals.is_name Lists.every Lists.any Lists.same
bench_good = labels_good [] bench good_labels_none tt

rows_pass : T (every row_passes rows)
unfolding rows bench row_passes key_passes key_tests first_of Refusals.good_symbols Refusals.good_path Refusals.is_symbol Refusals.good_set Refusals.all_valid
    Paths.normal Paths.simple Paths.norm Paths.join Paths.valid Paths.declared Paths.declared_class Paths.class_of Paths.is_element
    Lists.every Lists.any Lists.ascending Lists.before Lists.lower
rows_pass = tt

-- ---- so each verdict is true

-- 01's verdict of the row is the truth about all trees
unfoldable pub RowDecided : Row → Type 0
RowDecided r =
    (T r.implied → Implied r.second bench r.keys r.asked)
    × (T (not r.implied) → Implied r.second bench r.keys r.asked → ⊥)

row_decided : (r : Row) → T (row_passes r) → RowHolds r → RowDecided r
unfolding row_passes RowHolds RowDecided single_of
row_decided r t holds =
    let keys_good = each_imp key_good (every_Each key_passes r.keys (and_right (key_passes r.asked) _ t)) in
    let exactly = implied_exactly r.second bench bench_good r.keys r.asked keys_good (key_good r.asked (and_left (key_passes r.asked) _ t)) in
    (λ i. exactly.1 (holds.0 i), λ n implied. holds.1 n (exactly.0 implied))

pub rows_decided : Each RowDecided rows
rows_decided = each_both row_decided (every_Each row_passes rows rows_pass) steps_agree
