-- A file of which nothing is dropped is a sound file: it comes out the same.
use Rattle.std.specs.Prelude.{ℕ, zero, suc, ◌+◌, ◌*◌, ◌<◌, ◌≤◌, ◌≡◌, Bool, length, get_or}
use Rattle.std.proofs.Math.Path.{refl, sym, ap, subst}
use Rattle.std.proofs.Common.{◌∙◌}
use Rattle.std.proofs.Math.Bool.{true, false, cond}
use mathlib.Core.List.{List, [], ◌∷◌, ◌++◌, map, flatten, append-nil, cons≢nil}
use native.Mathlib.Omega.{arith}
use Rattle.std.proofs.Math.Decide.{dec_lt}
use borrow.Author.Tests.{eqb-true, ltb-true}
use Rattle.std.proofs.Math.Dec.{eqb}
use Rattle.std.proofs.Math.ListN.{drop}
use Rattle.meaning.specs.Limits.{no_number}
use Rattle.meaning.specs.Lists.{Each, end, also, is_empty, numbers}
use Rattle.meaning.specs.Paths.{Label}
use Rattle.meaning.specs.Trees.{Node}
use Rattle.meaning.specs.Records.{record_length, record_body, read_node, node_bytes}
use Rattle.meaning.specs.Refusals.{first_of, good_root, good_below, node_kind_in, tree_refusal}
use Rattle.meaning.specs.Listing.{decimal, space, newline}
use Rattle.meaning.specs.Salvage.{Salvaged, nothing_yet, moved, drop_tests, keep_or_drop, salvage_next, salvage_tests, salvage_walked, salvaged_nodes, salvaged_tree, salvage_refusal, reasons_in, drop_lines}
use Rattle.theory_records.specs.Tests.{both}
use Rattle.theory_records.specs.Bytes.{Bytes}
use Rattle.theory_records.specs.Heads.{Whole}
use Rattle.theory_records.specs.Encodings.{node_written}
use Rattle.theory_records.specs.Profiles.{length_more, one_more_lem}
use Rattle.theory_records.specs.TreeFiles.{stride, root_says, kind_in}
use Rattle.theory_records.specs.Walks.{Stopped, walk_keeps}
use Rattle.theory_salvage.specs.Salvages.{Zeros, numbers_more, numbers_at, SalvageAt, salvage_none, salvage_kept, salvage_size, passes, only_whole, only_long, salvaged_good, sound_same}

-- reasons: all 0
zeros_left : (a b : List ℕ) → Zeros (a ++ b) → Zeros a × Zeros b
unfolding Zeros
zeros_left [] b z = (end, z)
zeros_left (r ∷ a) b (also e z) = let m = zeros_left a b z in (also e m.0, m.1)

zero_first : (r : ℕ) (rs : List ℕ) → Zeros (r ∷ rs) → r ≡ 0
unfolding Zeros
zero_first r rs (also e z) = e

lines_zeros : (n : ℕ) (rs : List ℕ) → drop_lines n rs ≡ [] → Zeros rs
unfolding Zeros drop_lines
lines_zeros n [] e = end
lines_zeros n (r ∷ rs) e = go (eqb r 0) refl (decimal n ++ (space ++ (decimal r ++ newline))) e (lines_zeros (suc n) rs)
  where
    go : (b : Bool) → eqb r 0 ≡ b → (line : List ℕ) → cond b (drop_lines (suc n) rs) (line ∷ drop_lines (suc n) rs) ≡ [] → (drop_lines (suc n) rs ≡ [] → Each (λ (r : ℕ). r ≡ 0) rs)
        → Each (λ (r : ℕ). r ≡ 0) (r ∷ rs)
    go true q line e more = also (eqb-true r 0 q) (more e)
    go false q line e more = absurd (cons≢nil e)

-- nothing was dropped so far: each node under its own number, and what was read is what is written
pub record Exactly (bytes : List ℕ) (s : Salvaged) (rest : List ℕ) : Type 0 where
  pub places : s.places ≡ numbers (length s.nodes) 0
  pub are : flatten (map (node_bytes (node_kind_in bytes)) s.nodes) ++ rest ≡ bytes

pub record ExactAt (second : Bool) (labels : List Label) (bytes : List ℕ) (n : ℕ) (s : Salvaged) (rest : List ℕ) : Type 0 where
  pub base : SalvageAt second (node_kind_in bytes) labels bytes n s rest
  pub exact : Zeros s.reasons → Exactly bytes s rest

past : (k n i d : ℕ) → k ≤ i → get_or (numbers k n) i d ≡ d
unfolding numbers
past zero n i d h = refl
past (suc k) n zero d h = absurd (omega arith)
past (suc k) n (suc i) d h = past k (suc n) i d (omega arith)

-- a kept record's parent keeps its number
moved_is : (labels : List Label) (nodes : List Node) (n : Node) → length nodes ≤ 65535
    → cond (is_empty (numbers (length nodes) 0)) (good_root n) (good_below labels nodes (moved (numbers (length nodes) 0) n)) ≡ true
    → moved (numbers (length nodes) 0) n ≡ n
unfolding is_empty moved numbers good_below
moved_is labels [] n few e = let r = root_says n e in ap (λ (k : ℕ). record { parent = k; label = n.label; value = n.value }) (sym r.0)
moved_is labels (x ∷ nodes) n few e =
    let m : ℕ = get_or (numbers (length (x ∷ nodes)) 0) n.parent no_number in
    let low : m < length (x ∷ nodes) = ltb-true _ _ (both _ _ (both _ _ (both _ _ e).0).0).0 in
    ap (λ (k : ℕ). record { parent = k; label = n.label; value = n.value }) (go low (dec_lt n.parent (length (x ∷ nodes))))
  where
    go : get_or (numbers (length (x ∷ nodes)) 0) n.parent no_number < length (x ∷ nodes) → Dec (n.parent < length (x ∷ nodes))
        → get_or (numbers (length (x ∷ nodes)) 0) n.parent no_number ≡ n.parent
    go low (yes h) = numbers_at (length (x ∷ nodes)) 0 n.parent no_number h ∙ (omega arith)
    go low (no h) = let q = past (length (x ∷ nodes)) 0 n.parent no_number (omega arith) in absurd (omega arith)

module _ (second : Bool) (labels : List Label) (bytes : List ℕ) where
  one_exactly : (n : ℕ) (s : Salvaged) (l : List ℕ) → SalvageAt second (node_kind_in bytes) labels bytes n s l → Whole l → first_of (drop_tests second (node_kind_in bytes) labels s l) ≡ 0
      → Exactly bytes s l → Exactly bytes (keep_or_drop 0 s (moved s.places (read_node (record_body l)))) (drop (record_length l) l)
  unfolding keep_or_drop
  one_exactly n s l g w q x =
      let a = passes second (node_kind_in bytes) labels s l q in
      let r = read_node (record_body l) in
      let same : moved s.places r ≡ r =
      ap (λ (ps : List ℕ). moved ps r) x.places
      ∙ moved_is labels s.nodes r (let u = g.at.few in omega arith)
      (subst (λ (ps : List ℕ). cond (is_empty ps) (good_root r) (good_below labels s.nodes (moved ps r)) ≡ true) x.places a.good) in
      record {
        places =
            ap (λ (ps : List ℕ). ps ++ (length s.nodes ∷ [])) x.places
            ∙ (numbers_next (length s.nodes) ∙ ap (λ (k : ℕ). numbers k 0) (sym (length_more s.nodes (moved s.places r))));
        are =
            one_more_lem (node_bytes (node_kind_in bytes)) s.nodes (moved s.places r) (drop (record_length l) l) l bytes
            (ap (λ (y : Node). node_bytes (node_kind_in bytes) y ++ drop (record_length l) l) same ∙ node_written (kind_in bytes) l g.small w a.is_kind) x.are;
      }
    where
      numbers_next : (k : ℕ) → numbers k 0 ++ (k ∷ []) ≡ numbers (suc k) 0
      numbers_next k = let e : k ≡ 0 + k = omega arith in ap (λ (m : ℕ). numbers k 0 ++ (m ∷ [])) e ∙ numbers_more k 0

  exact_kept : (n : ℕ) (s : Salvaged) (l : List ℕ) → ExactAt second labels bytes n s l → 0 < length l → first_of (salvage_tests s l) ≡ 0
      → ExactAt second labels bytes (suc n) (salvage_next second (node_kind_in bytes) labels s l) (drop (record_length l) l)
  unfolding salvage_next first_of keep_or_drop
  exact_kept n s l g h e =
      record {
        base = salvage_kept second (kind_in bytes) labels bytes n s l g.base h e;
        exact = go (first_of (drop_tests second (node_kind_in bytes) labels s l)) refl;
      }
    where
      is_whole_lem : Whole l
      is_whole_lem = only_whole s l e

      go : (r : ℕ) → first_of (drop_tests second (node_kind_in bytes) labels s l) ≡ r
          → Zeros (keep_or_drop r s (moved s.places (read_node (record_body l)))).reasons
          → Exactly bytes (keep_or_drop r s (moved s.places (read_node (record_body l)))) (drop (record_length l) l)
      go zero q z = one_exactly n s l g.base is_whole_lem q (g.exact (zeros_left s.reasons (0 ∷ []) z).0)
      go (suc r) q z = absurd (let f = zero_first (suc r) [] (zeros_left s.reasons (suc r ∷ []) z).1 in omega arith)

  exact_stop : Bytes bytes → length bytes ≤ stride (node_kind_in bytes) * 4096 → Stopped salvage_tests (ExactAt second labels bytes) (salvage_walked second labels bytes)
  unfolding salvage_walked
  exact_stop small size =
      walk_keeps salvage_tests (salvage_next second (node_kind_in bytes) labels) (ExactAt second labels bytes)
      only_long exact_kept 0 nothing_yet bytes
      (record { base = salvage_none second (node_kind_in bytes) labels bytes small size; exact = λ z. record { places = unfold numbers in refl; are = unfold flatten in refl } })

  -- no reason at all: the walk came to the end, and kept every record
  reasons_none : Zeros (reasons_in second labels bytes) → ((salvage_walked second labels bytes).number ≡ 0) × Zeros (salvage_walked second labels bytes).state.reasons
  unfolding reasons_in
  reasons_none z =
      let a = zeros_left (salvage_walked second labels bytes).state.reasons (cond (eqb (salvage_walked second labels bytes).number 0) [] ((salvage_walked second labels bytes).number ∷ [])) z in
      (go (eqb (salvage_walked second labels bytes).number 0) refl a.1, a.0)
    where
      go : (b : Bool) → eqb (salvage_walked second labels bytes).number 0 ≡ b → Zeros (cond b [] ((salvage_walked second labels bytes).number ∷ [])) → (salvage_walked second labels bytes).number ≡ 0
      go true q z = eqb-true _ _ q
      go false q z = zero_first (salvage_walked second labels bytes).number [] z

  -- nothing dropped: the same bytes
  pub nothing_dropped : Bytes bytes → (salvage_refusal second labels bytes).number ≡ 0 → drop_lines 0 (reasons_in second labels bytes) ≡ [] → salvaged_tree second labels bytes ≡ bytes
  unfolding salvaged_tree salvaged_nodes
  nothing_dropped small e none =
      let z = reasons_none (lines_zeros 0 (reasons_in second labels bytes) none) in
      let w = exact_stop small (salvage_size second labels bytes e) in
      let x = w.held.exact z.1 in
      sym (append-nil (flatten (map (node_bytes (node_kind_in bytes)) (salvage_walked second labels bytes).state.nodes)))
      ∙ subst (λ (rest : List ℕ). flatten (map (node_bytes (node_kind_in bytes)) (salvage_walked second labels bytes).state.nodes) ++ rest ≡ bytes) (w.sound z.0) x.are

  -- .. and so a file is sound exactly where nothing of it is dropped
  pub sound_exactly : Bytes bytes → (salvage_refusal second labels bytes).number ≡ 0
      → (drop_lines 0 (reasons_in second labels bytes) ≡ [] → (tree_refusal second labels bytes).number ≡ 0)
      × ((tree_refusal second labels bytes).number ≡ 0 → drop_lines 0 (reasons_in second labels bytes) ≡ [])
  sound_exactly small e = (
    λ none. subst (λ (l : List ℕ). (tree_refusal second labels l).number ≡ 0) (nothing_dropped small e none) (salvaged_good second labels bytes small e).0,
    λ ok. (sound_same second labels bytes small ok).1,
  )
