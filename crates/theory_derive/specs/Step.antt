-- One step (s, i, j, k) on the lines: how its parts fit together, and which sets its key paths make. ARGUMENT 5.
use Rattle.std.specs.Prelude.{ℕ, ◌-◌, ◌≤◌, ◌<◌, ◌≡◌, refl, Bool, cond}
use Rattle.std.proofs.Common.{sym, ap₂, ◌∙◌, length-append}
use Rattle.std.proofs.Math.Path.{ap, subst}
use Rattle.std.proofs.Math.Bool.{true, false}
use mathlib.Core.List.Memᴰ
use mathlib.Core.List.{List, [], ◌∷◌, ◌++◌, map, append_assoc, Memᴰ}
use native.Mathlib.Omega.{arith}
use Rattle.std.proofs.Math.Dec.{T}
use Rattle.std.proofs.Math.ListN.{length, take, drop, length-map, take-append-drop}
use Rattle.std.proofs.Math.Seq.{take-append-le, drop-append-le, drop-append_seam}
use Rattle.meaning.specs.Limits.{in_profile}
use Rattle.meaning.specs.Lists.{Each, end, also, any, is_empty, ascending}
use Rattle.meaning.specs.Paths.{Label, norm, join, simple}
use Rattle.meaning.specs.Keys.{Key}
use Rattle.meaning.specs.Rules.{BeginsSome}
use Rattle.meaning.specs.Pattern.{t_of}
use Rattle.theory_lists.specs.Bools.{any_some, of_true, Each-at, Each-of}
use Rattle.theory_paths.specs.Normal.{norm_of_normal}
use Rattle.theory_paths.specs.Simple.{simple_left, simple_append, simple_normal}
use Rattle.theory_paths.specs.Good.{GoodKey, key_path_simple, key_path_length, paths_within, paths_ascending, some_path}
use Rattle.theory_lists.specs.Logic.{each_imp, each_map, mem_some}
use Rattle.theory_pattern.specs.RowParts.{take_part, part_drop, take_past, drop_past, join_norm}
use Rattle.theory_derive.specs.Sets.{unite, each_unite, unite_first, unite_second, unite_length, unite_ascending}
use Rattle.theory_pattern.specs.Spots.{chain_of, branch_of, row_of, part, holds_empty, FiresBy}
use Rattle.theory_derive.specs.Written.{above, to_spot, to_t, below_spot, beyond, united}
use Rattle.theory_derive.specs.Lines.{ReadOff, begins_read, begins_on, begins_simple, begins_short, among_begins}
use Rattle.theory_pattern.specs.Rows.{OnRow, chain_length}
use Rattle.theory_derive.specs.Landing.{Beyond, beyond_of}

pub map_each : {A B : Type 0} (f g : A → B) {xs : List A} → Each (λ x. f x ≡ g x) xs → map f xs ≡ map g xs
map_each f g end = refl
map_each {B} f g (also e r) = ap₂ {C = List B} (λ a b. a ∷ b) e (map_each f g r)

-- S holds the empty path
pub empty_among : (asked : Key) → holds_empty asked ≡ true → Memᴰ [] asked.paths
unfolding holds_empty is_empty
empty_among asked e =
    let r = any_some is_empty asked.paths (of_true (any is_empty asked.paths) e) in
    Memᴰ.cast (sym (is_nil r.0 r.2)) r.1
  where
    is_nil : (p : List ℕ) → T (is_empty p) → p ≡ []
    is_nil [] h = refl
    is_nil (x ∷ p) h = absurd h

pub above_t : (asked : Key) (i : ℕ) → above asked i ++ to_t asked i ≡ chain_of asked
unfolding above to_t
above_t asked i = take-append-drop i (chain_of asked)

module _ (asked s : Key) (i j k : ℕ) (f : FiresBy asked s i j k) where
  pub above_line : take i (row_of asked j) ≡ above asked i
  unfolding row_of above
  above_line = take-append-le i (chain_of asked) (branch_of asked j) (omega (arith, f.on_chain, chain_length asked))

  pub above_spot : above asked i ++ to_spot asked i j k ≡ take k (row_of asked j)
  unfolding to_spot
  above_spot = ap (λ l. l ++ part i k (row_of asked j)) (sym above_line) ∙ take_part i k (row_of asked j) f.above

  -- k ≤ n
  pub chain_spot : k ≤ t_of asked → take k (row_of asked j) ≡ above asked k
  unfolding row_of above
  chain_spot h = take-append-le k (chain_of asked) (branch_of asked j) (omega (arith, chain_length asked))

  pub spot_to_t : k ≤ t_of asked → to_spot asked i j k ++ to_t asked k ≡ to_t asked i
  unfolding to_spot to_t part above
  spot_to_t h = ap (λ l. drop i l ++ drop k (chain_of asked)) (chain_spot h) ∙ part_drop i k (chain_of asked) f.above

  -- k > n: G
  pub within : List ℕ
  within = take (k - length (chain_of asked)) (branch_of asked j)

  pub t_to_spot : t_of asked < k → to_spot asked i j k ≡ to_t asked i ++ within
  unfolding to_spot to_t part row_of within
  t_to_spot h =
      ap (drop i) (take_past (chain_of asked) (branch_of asked j) k (omega (arith, chain_length asked)))
      ∙ drop-append-le i (chain_of asked) _ (omega (arith, f.on_chain, chain_length asked))

  pub within_below : t_of asked < k → within ++ below_spot asked j k ≡ branch_of asked j
  unfolding below_spot row_of within
  within_below h =
      ap (λ l. take (k - length (chain_of asked)) (branch_of asked j) ++ l) (drop_past (chain_of asked) (branch_of asked j) k (omega (arith, chain_length asked)))
      ∙ take-append-drop (k - length (chain_of asked)) (branch_of asked j)

  pub spot_below : take k (row_of asked j) ++ below_spot asked j k ≡ row_of asked j
  unfolding below_spot
  spot_below = take-append-drop k (row_of asked j)

-- The sets of the case k ≤ n
module _ (labels : List Label) (asked s : Key) (i j k : ℕ) (g : GoodKey labels in_profile asked) (gs : GoodKey labels in_profile s)
    (f : FiresBy asked s i j k) (h : k ≤ t_of asked) where
  pub beyonds : Each (Beyond asked k) s.paths
  beyonds = each_imp (λ p l. beyond_of asked j k p l h) f.landing

  split_drop : (p : List ℕ) (b : Beyond asked k p) → drop (length (to_t asked k)) p ≡ b.rest
  unfolding to_t
  split_drop p b = ap (drop (length (drop k (chain_of asked)))) b.split ∙ drop-append_seam (drop k (chain_of asked)) b.rest

  split_whole : (p : List ℕ) (b : Beyond asked k p) → p ≡ to_t asked k ++ b.rest
  unfolding to_t
  split_whole p b = b.split

  beyond_begins : Each (BeginsSome asked.paths) (beyond asked s k)
  unfolding beyond
  beyond_begins = each_map (drop (length (to_t asked k))) (each_imp (λ p b. subst (BeginsSome asked.paths) (sym (split_drop p b)) b.begins) beyonds)

  asked_begins : Each (BeginsSome asked.paths) asked.paths
  asked_begins = Each-of asked.paths (λ p m. among_begins labels asked g p m)

  -- each path of U begins one of S
  pub united_begins : Each (BeginsSome asked.paths) (united asked s k)
  unfolding united
  united_begins = go (holds_empty asked)
    where
      go : (b : Bool) → Each (BeginsSome asked.paths) (cond b (unite asked.paths (beyond asked s k)) asked.paths)
      go true = each_unite asked_begins beyond_begins
      go false = asked_begins

  pub united_old : {x : List ℕ} → Memᴰ x asked.paths → Memᴰ x (united asked s k)
  unfolding united
  united_old {x} m = go (holds_empty asked)
    where
      go : (b : Bool) → Memᴰ x (cond b (unite asked.paths (beyond asked s k)) asked.paths)
      go true = unite_first (beyond asked s k) m
      go false = m

  -- S_s is part of { F.p : p in U }
  pub united_new : Each (λ p. Memᴰ p (map (λ (q : List ℕ). to_t asked k ++ q) (united asked s k))) s.paths
  unfolding united beyond
  united_new =
      Each-of s.paths
      (λ p m. let b = Each-at beyonds p m in
      Memᴰ.cast (back p b) (Memᴰ.map (λ (q : List ℕ). to_t asked k ++ q) (go p m b (holds_empty asked) refl)))
    where
      back : (p : List ℕ) (b : Beyond asked k p) → p ≡ to_t asked k ++ b.rest
      back p b = split_whole p b

      go : (p : List ℕ) → Memᴰ p s.paths → (b : Beyond asked k p) → (c : Bool) → holds_empty asked ≡ c
          → Memᴰ b.rest (cond c (unite asked.paths (beyond asked s k)) asked.paths)
      go p m b true e =
          unite_second asked.paths (Memᴰ.cast (sym (split_drop p b)) (Memᴰ.map (drop (length (to_t asked k))) m))
      go p m b false e = b.ends e

  -- F is simple and short: it begins a key path of s
  pub onward_simple : T (simple (to_t asked k))
  onward_simple =
      let p = some_path labels in_profile s gs in
      let b = Each-at beyonds p.0 p.1 in
      simple_left (to_t asked k) b.rest (subst (λ l. T (simple l)) (split_whole p.0 b) (key_path_simple labels in_profile s gs p.0 p.1))

  pub onward_short : length (to_t asked k) ≤ 8
  onward_short =
      let p = some_path labels in_profile s gs in
      let b = Each-at beyonds p.0 p.1 in
      omega (arith, key_path_length labels in_profile s gs p.0 p.1, ap length (split_whole p.0 b), length-append (to_t asked k) b.rest)

  pub united_ascending : T (ascending (united asked s k))
  unfolding united
  united_ascending = go (holds_empty asked)
    where
      go : (b : Bool) → T (ascending (cond b (unite asked.paths (beyond asked s k)) asked.paths))
      go true = unite_ascending asked.paths (beyond asked s k) (paths_ascending labels in_profile asked g)
      go false = paths_ascending labels in_profile asked g

  pub united_few : length (united asked s k) ≤ 8
  unfolding united beyond
  united_few = go (holds_empty asked)
    where
      go : (b : Bool) → length (cond b (unite asked.paths (beyond asked s k)) asked.paths) ≤ 8
      go true =
          omega (
            arith,
            unite_length asked.paths (beyond asked s k),
            paths_within labels in_profile asked g,
            paths_within labels in_profile s gs,
            length-map s.paths (drop (length (to_t asked k))),
          )
      go false = omega (arith, paths_within labels in_profile asked g)

  pub united_some : 1 ≤ length (united asked s k)
  united_some = let p = some_path labels in_profile asked g in mem_some (united_old p.1)

  -- the keys over U are read off the lines
  pub united_read : Each (ReadOff asked (chain_of asked)) (united asked s k)
  united_read = each_imp (λ u b. begins_read labels asked g u b) united_begins

  pub front_read : Each (ReadOff asked (above asked i ++ to_spot asked i j k)) (map (λ (p : List ℕ). to_t asked k ++ p) (united asked s k))
  front_read =
      each_map (λ (p : List ℕ). to_t asked k ++ p)
      (each_imp (λ u b. record {
        is_simple = simple_append (to_t asked k) u onward_simple (begins_simple labels asked g u b);
        short = omega (arith, onward_short, begins_short labels asked g u b, length-append (to_t asked k) u);
        on = subst (OnRow asked) (along u) (begins_on labels asked g u b);
      }) united_begins)
    where
      along : (u : List ℕ) → chain_of asked ++ u ≡ above asked i ++ to_spot asked i j k ++ (to_t asked k ++ u)
      along u =
          ap (λ l. l ++ u) (sym (above_t asked k))
          ∙ append_assoc (above asked k) (to_t asked k) u
          ∙ ap (λ l. l ++ (to_t asked k ++ u)) (sym (above_spot asked s i j k f ∙ chain_spot asked s i j k f h))

  -- F.p is the join of F and p
  pub front_joins : map (λ (p : List ℕ). to_t asked k ++ p) (united asked s k) ≡ map (join (norm (to_t asked k))) (united asked s k)
  front_joins = map_each (λ (p : List ℕ). to_t asked k ++ p) (join (norm (to_t asked k))) (each_imp (λ u b. join_front u (begins_simple labels asked g u b)) united_begins)
    where
      join_front : (u : List ℕ) → T (simple u) → to_t asked k ++ u ≡ join (norm (to_t asked k)) u
      join_front u t =
          sym (join_norm (to_t asked k) u ∙ norm_of_normal (to_t asked k ++ u) (simple_normal (to_t asked k ++ u) (simple_append (to_t asked k) u onward_simple t)))
