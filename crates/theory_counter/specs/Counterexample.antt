-- ARGUMENT §6: where the steps do not lead from t to q, the written tree is a tree, keeps every profile key and breaks the question. So the
-- question is not implied.
use Rattle.std.specs.Prelude.{ℕ, ◌<◌, refl, T, length, Bool}
use Rattle.std.proofs.Common.{ap, arith}
use mathlib.Core.List.{List, [], ◌∷◌, Memᴰ}
use Rattle.meaning.specs.Limits.{KeyLimits, in_profile, filler_attribute}
use Rattle.meaning.specs.Lists.{Each, every}
use Rattle.meaning.specs.Lists.Each.{end, also}
use Rattle.meaning.specs.Paths.{Label, Agrees, class_of, singles}
use Rattle.meaning.specs.Refusals.{is_symbol}
use Rattle.meaning.specs.Trees.{IsTree, Once, table_of}
use Rattle.meaning.specs.Keys.{Key, Breaks, Keeps, Implied}
use Rattle.meaning.specs.Pattern.{t_of, pattern, marked, IsU, written_nodes}
use Rattle.theory_lists.specs.Bools.{every_each, Each-of}
use Rattle.theory_paths.specs.Good.{
  GoodLabels,
  GoodKey,
  symbol_not_high,
  target_symbols,
  key_path_symbols,
  key_path_simple,
  paths_some,
}
use Rattle.theory_counter.specs.Doubled.{Written}
use Rattle.theory_counter.specs.Twins.{written_tree}
use Rattle.theory_counter.specs.Ending.{Without}
use Rattle.theory_counter.specs.Crossing.{KeyShape, breaks_crosses}
use Rattle.theory_counter.specs.Breaking.{asked_breaks}
use Rattle.theory_counter.specs.PatternLaws.{trunk_inside}
use Rattle.theory_counter.specs.PatternTree.{pattern_drawn, pattern_asked}
use Rattle.theory_counter.specs.Leading.{crosses_never, hangs_never}
use Rattle.theory_counter.specs.Singles.{written_once}
use Rattle.theory_pattern.specs.PatternOnce.{pattern_once}
use Rattle.theory_counter.specs.WrittenTable.{written_doubled}

-- 202 is a symbol of no accepted path
symbols_without : (labels : List Label) → GoodLabels labels → (P : List ℕ) → T (every (is_symbol labels) P) → Without filler_attribute P
unfolding Without
symbols_without labels good P h m =
    symbol_not_high labels good filler_attribute (omega arith) (every_each (is_symbol labels) P h filler_attribute m)

pub key_shape : (labels : List Label) → GoodLabels labels → (limits : KeyLimits) (k : Key) → GoodKey labels limits k → KeyShape k
key_shape labels good limits k g =
    record {
      target = symbols_without labels good k.target (target_symbols labels limits k g);
      paths =
          Each-of k.paths
          (λ P m.
          record {
            is_simple = key_path_simple labels limits k g P m;
            known = symbols_without labels good P (key_path_symbols labels limits k g P m);
          });
      some = λ e. let l = ap length e in let s = paths_some labels limits k g in omega arith;
    }

pub class_agrees : (labels : List Label) → Agrees labels (class_of labels)
unfolding Agrees
class_agrees labels n t = refl

module _ (labels : List Label) (good : GoodLabels labels) (limits : KeyLimits) (asked : Key) (g : GoodKey labels limits asked) (u : ℕ) (h : u < t_of asked) where
  pub counter_written : Written (class_of labels) (pattern asked) (marked asked) u (table_of (written_nodes (class_of labels) asked u))
  counter_written = written_doubled (class_of labels) asked u (trunk_inside asked u h) (pattern_drawn labels good limits asked g u h)

  -- it is a tree
  pub counter_tree : IsTree (class_of labels) (table_of (written_nodes (class_of labels) asked u))
  counter_tree = written_tree (pattern_drawn labels good limits asked g u h) counter_written

  module _ (single : ℕ → Bool) (keys : List Key) (m : IsU single keys asked u) where
    -- it breaks the question
    pub counter_breaks : Breaks (class_of labels) (table_of (written_nodes (class_of labels) asked u)) asked
    counter_breaks = asked_breaks (pattern_drawn labels good limits asked g u h) counter_written asked (pattern_asked asked u m.from_q h)

    -- it keeps each profile key
    keeps_among : (ks : List Key) → ((k : Key) → Memᴰ k ks → Memᴰ k keys) → Each (GoodKey labels limits) ks
        → Each (Keeps (class_of labels) (table_of (written_nodes (class_of labels) asked u))) ks
    unfolding Keeps
    keeps_among [] among end = end
    keeps_among (k ∷ ks) among (also a rest) =
        also
        (λ b.
        crosses_never single keys asked u m h k (among k (Memᴰ.head refl))
        (breaks_crosses (pattern_drawn labels good limits asked g u h) counter_written k (key_shape labels good limits k a) b))
        (keeps_among ks (λ j i. among j (Memᴰ.tail i)) rest)

    pub counter_keeps : Each (GoodKey labels limits) keys → Each (Keeps (class_of labels) (table_of (written_nodes (class_of labels) asked u))) keys
    counter_keeps good = keeps_among keys (λ k i. i) good

    -- it is a tree of the edition, as the pattern is
    pub counter_once : Once single (pattern asked) → Once single (table_of (written_nodes (class_of labels) asked u))
    counter_once once = written_once (pattern_drawn labels good limits asked g u h) counter_written single once (hangs_never single keys asked u m h)

-- so the question is not implied
module _ (second : Bool) (labels : List Label) (good : GoodLabels labels) (asked : Key) (g : GoodKey labels in_profile asked) (u : ℕ) (h : u < t_of asked)
    (keys : List Key) (m : IsU (singles second (class_of labels)) keys asked u) where
  pub edition_once : Once (singles second (class_of labels)) (table_of (written_nodes (class_of labels) asked u))
  edition_once = counter_once labels good in_profile asked g u h (singles second (class_of labels)) keys m (pattern_once second labels good asked g)

  pub counter_not_implied : Each (GoodKey labels in_profile) keys → Implied second labels keys asked → ⊥
  unfolding Implied Keeps
  counter_not_implied good_keys implied =
      implied (class_of labels) (class_agrees labels) (table_of (written_nodes (class_of labels) asked u)) (counter_tree labels good in_profile asked g u h)
      edition_once
      (counter_keeps labels good in_profile asked g u h (singles second (class_of labels)) keys m good_keys)
      (counter_breaks labels good in_profile asked g u h (singles second (class_of labels)) keys m)
