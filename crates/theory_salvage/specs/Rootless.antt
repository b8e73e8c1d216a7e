-- A file whose record 0 is no valid root: nothing of it is kept.
use Rattle.std.specs.Prelude.{ℕ, zero, suc, ◌<◌, ◌≡◌, Bool, true, false, cond, List, [], length, drop}
use Rattle.std.proofs.Math.Path.{refl}
use Rattle.std.proofs.Common.{ap, subst, arith}
use Rattle.meaning.specs.Limits.{no_number}
use Rattle.meaning.specs.Lists.{any, is_empty}
use Rattle.meaning.specs.Paths.{Label, class_of, singles}
use Rattle.meaning.specs.Trees.{Node}
use Rattle.meaning.specs.Records.{record_length, record_body, read_node}
use Rattle.meaning.specs.Refusals.{first_of, good_root, good_below, repeated, node_kind_in, tree_tests}
use Rattle.meaning.specs.Salvage.{Salvaged, nothing_yet, moved, drop_tests, keep_or_drop, salvage_next, salvage_tests, salvage_walked, salvaged_nodes}
use Rattle.theory_lists.specs.Bools.{and-false}
use Rattle.theory_records.specs.Tests.{never}
use Rattle.theory_records.specs.Judged.{node_passes}
use Rattle.theory_records.specs.Walks.{walk_keeps}
use Rattle.theory_salvage.specs.Salvages.{whole_holds, only_whole, only_long, passes, more_some, below_some}

-- nothing is kept, and before the first record stands the file
record RootlessAt (bytes : List ℕ) (n : ℕ) (s : Salvaged) (rest : List ℕ) : Type 0 where
  none : s.nodes ≡ []
  first : is_empty s.places ≡ true → rest ≡ bytes

module _ (second : Bool) (labels : List Label) (bytes : List ℕ) (bad : first_of (tree_tests second (node_kind_in bytes) labels [] bytes) ≡ 0 → ⊥) where
  none_repeated : (x : Node) → repeated (singles second (class_of labels)) [] x ≡ false
  unfolding repeated any
  none_repeated x = and-false (singles second (class_of labels) x.label)

  rootless_kept : (n : ℕ) (s : Salvaged) (l : List ℕ) → RootlessAt bytes n s l → 0 < length l → first_of (salvage_tests s l) ≡ 0
      → RootlessAt bytes (suc n) (salvage_next second (node_kind_in bytes) labels s l) (drop (record_length l) l)
  unfolding salvage_next keep_or_drop is_empty
  rootless_kept n s l g h e = go (first_of (drop_tests second (node_kind_in bytes) labels s l)) refl
    where
      x : Node
      x = read_node (record_body l)

      at : first_of (drop_tests second (node_kind_in bytes) labels s l) ≡ 0 → (b : Bool) → is_empty s.places ≡ b → ⊥
      at q true z =
          let a = passes second (node_kind_in bytes) labels s l q in
          let root : good_root x ≡ true = subst (λ (b : Bool). cond b (good_root x) (good_below labels s.nodes (moved s.places x)) ≡ true) z a.good in
          bad
          (subst (λ (r : List ℕ). first_of (tree_tests second (node_kind_in bytes) labels [] r) ≡ 0) (g.first z)
          (node_passes second (node_kind_in bytes) labels [] l (omega arith) (whole_holds l (only_whole s l e)) a.is_kind root (none_repeated x)))
      at q false z =
          let a = passes second (node_kind_in bytes) labels s l q in
          let below = subst (λ (b : Bool). cond b (good_root x) (good_below labels s.nodes (moved s.places x)) ≡ true) z a.good in
          never (is_empty s.nodes) (ap is_empty g.none) (below_some labels s.nodes (moved s.places x) below)

      go : (r : ℕ) → first_of (drop_tests second (node_kind_in bytes) labels s l) ≡ r
          → RootlessAt bytes (suc n) (keep_or_drop r s (moved s.places x)) (drop (record_length l) l)
      go zero q = absurd (at q (is_empty s.places) refl)
      go (suc r) q = record { none = g.none; first = λ z. absurd (never _ z (more_some s.places no_number)) }

  -- "one without a valid node 0 gives 8"
  pub no_root : salvaged_nodes second labels bytes ≡ []
  unfolding salvaged_nodes salvage_walked
  no_root =
      (walk_keeps salvage_tests (salvage_next second (node_kind_in bytes) labels) (RootlessAt bytes) only_long rootless_kept 0 nothing_yet bytes
      (record { none = refl; first = λ z. refl })).held.none
