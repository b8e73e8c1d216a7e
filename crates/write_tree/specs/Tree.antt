-- Trunk, first copy and second copy are the written tree.
use Prim.Native.Nat.{ℕ, zero, suc, ◌+◌, ◌-◌, ◌*◌, ◌≤◌, ◌<◌}
use Rattle.std.specs.Prelude.{◌≡◌, Bool, false, take}
use Rattle.std.proofs.Math.Path.{sym, ap, ap₂}
use Rattle.std.proofs.Common.{subst, ◌∙◌}
use Rattle.std.proofs.Math.Bool.{cond}
use mathlib.Core.List.{List, ◌∷◌, ◌++◌, map, flatten}
use native.Mathlib.Omega.{arith}
use Rattle.std.proofs.Math.ListN.{length, get_or, drop, length-append}
use borrow.Rule.Slice.PartMut.{put_mid}
use Rattle.meaning.specs.Limits.{no_number, root_label}
use Rattle.meaning.specs.Lists.{numbers}
use Rattle.meaning.specs.Paths.{Class, is_element}
use Rattle.meaning.specs.Trees.{Node}
use Rattle.meaning.specs.Keys.{Key}
use Rattle.meaning.specs.Records.{key_in, node_bytes}
use Rattle.meaning.specs.Pattern.{Dressed, pattern_nodes, marked, place_of, dressed_node, dressed_nodes, no_dressed, written_node, written_nodes, written_tree}
use Rattle.theory_counter.specs.Flattened.{map_numbers_at}
use Rattle.theory_counter.specs.PatternLaws.{pattern_length}
use Rattle.theory_counter.specs.WrittenLaws.{all_nodes}
use Rattle.write_pattern.specs.declared.Drawing.{Drawing}
use Rattle.write_pattern.specs.Sketch.{Sketch, entry_at, sketch, Shown, Sketchable, draw_trunk, draw_below}
use Rattle.write_pattern.specs.Entries.{map_agree, sketch_length}
use Rattle.write_tree.specs.Standing.{flatten_append}
use Rattle.write_tree.specs.Whole.{IsDrawn, whole_drawn, trunk_long, root_unmarked}
use Rattle.write_tree.specs.Front.{Front, front_more, front_length, front_same}
use Rattle.write_tree.specs.Written.{parent_of, value_of, node_from, copy_bytes, Copying, TreeAtFront}
use Rattle.write_tree.specs.Laws.{nodes_more, copy_length, copying_rest}
use Rattle.theory_lists.specs.Lists.{map_append, numbers_append}

module _ (κ : ℕ → Class) (asked : Key) (d : Drawing) (drew : IsDrawn κ asked (sketch d)) (root : marked asked 0 ≡ false) where
  entry_is : (x : ℕ) → x < d.size → entry_at d x ≡ get_or (record { parent = 0; label = root_label; mark = false } ∷ drew.rest) x (no_dressed κ asked)
  unfolding sketch
  entry_is x h =
      sym (map_numbers_at (entry_at d) d.size 0 x x (no_dressed κ asked) h (omega arith))
      ∙ ap (λ (l : List Dressed). get_or l x (no_dressed κ asked)) drew.drew

  node_is : (cut shift x : ℕ) → x < d.size → node_from κ cut shift x (entry_at d x) ≡ written_node κ asked cut shift x
  unfolding node_from parent_of value_of written_node dressed_node pattern_nodes
  node_is cut shift zero h =
      ap (node_from κ cut shift 0) (entry_is 0 h)
      ∙ ap (λ (m : Bool). record { parent = no_number; label = root_label; value = cond (is_element (κ root_label)) 0 (cond m 0 (0 + shift)) }) (sym root)
      ∙ sym (ap (λ (l : List Dressed). node_from κ cut shift 0 (get_or l 0 (no_dressed κ asked))) drew.are)
  node_is cut shift (suc x) h =
      ap (node_from κ cut shift (suc x)) (entry_is (suc x) h)
      ∙ sym (ap (λ (l : List Dressed). node_from κ cut shift (suc x) (get_or l (suc x) (no_dressed κ asked))) drew.are)

  copy_is : (cut shift from count : ℕ) → from + count ≤ d.size
      → copy_bytes κ d cut shift from count ≡ flatten (map (node_bytes 5) (map (written_node κ asked cut shift) (numbers count from)))
  unfolding copy_bytes
  copy_is cut shift from count h =
      ap (λ (l : List Node). flatten (map (node_bytes 5) l))
      (map_agree (λ (x : ℕ). node_from κ cut shift x (entry_at d x)) (written_node κ asked cut shift) count from
      (λ x a b. node_is cut shift x (omega arith)))

  -- the three parts one after another
  three : (cut : ℕ) → cut ≤ d.size
      → copy_bytes κ d cut 0 0 cut ++ copy_bytes κ d cut 0 cut (d.size - cut) ++ copy_bytes κ d cut (d.size - cut) cut (d.size - cut)
      ≡ flatten (map (node_bytes 5) (map (written_node κ asked cut 0) (numbers d.size 0) ++ map (written_node κ asked cut (d.size - cut)) (numbers (d.size - cut) cut)))
  three cut h =
      let e : cut + (d.size - cut) ≡ d.size = omega arith in
      let z : 0 + cut ≡ cut = omega arith in
      ap₂ (λ (x y : List ℕ). x ++ y)
      (ap₂ (λ (x y : List ℕ). x ++ y) (copy_is cut 0 0 cut (omega arith)) (copy_is cut 0 cut (d.size - cut) (omega arith))
      ∙ sym (nodes_more (written_node κ asked cut 0) (numbers cut 0) (numbers (d.size - cut) cut))
      ∙ ap (λ (l : List ℕ). flatten (map (node_bytes 5) (map (written_node κ asked cut 0) l)))
      (ap (λ (k : ℕ). numbers cut 0 ++ numbers (d.size - cut) k) (sym z) ∙ sym (numbers_append cut (d.size - cut) 0) ∙ ap (λ (k : ℕ). numbers k 0) e))
      (copy_is cut (d.size - cut) cut (d.size - cut) (omega arith))
      ∙ sym
      (ap flatten (map_append (node_bytes 5) (map (written_node κ asked cut 0) (numbers d.size 0)) (map (written_node κ asked cut (d.size - cut)) (numbers (d.size - cut) cut)))
      ∙ flatten_append (map (node_bytes 5) (map (written_node κ asked cut 0) (numbers d.size 0))) (map (node_bytes 5) (map (written_node κ asked cut (d.size - cut)) (numbers (d.size - cut) cut))))

module _ (κ : ℕ → Class) {body : List ℕ} {u : ℕ} (asked : Sketchable body u) {trunk d : Drawing} (h : Shown trunk (draw_trunk κ (key_in body) u) 34)
    (k : Shown d (draw_below κ (key_in body) u (sketch trunk)) 128) where
  drawn : IsDrawn κ (key_in body) (sketch d)
  drawn =
      subst (IsDrawn κ (key_in body)) (sym (k.sketched ∙ ap (draw_below κ (key_in body) u) h.sketched))
      (whole_drawn κ (key_in body) u asked.from_q asked.above_t)

  cut_is : trunk.size ≡ place_of κ (key_in body) (suc u)
  cut_is =
      sym (sketch_length trunk) ∙ ap (λ (s : Sketch). length s.entries) h.sketched
      ∙ trunk_long κ (key_in body) u asked.from_q asked.above_t

  all_is : d.size ≡ length (dressed_nodes κ (key_in body))
  all_is = sym (sketch_length d) ∙ ap length drawn.drew ∙ sym (ap length drawn.are)

  pub cut_within : trunk.size ≤ d.size
  cut_within =
      let n = pattern_length (key_in body) in
      let t = asked.above_t in
      let a = all_nodes κ (key_in body) u (omega arith) in
      let c = cut_is in
      let e = all_is in
      omega arith

  bytes_are : copy_bytes κ d trunk.size 0 0 trunk.size ++ copy_bytes κ d trunk.size 0 trunk.size (d.size - trunk.size)
      ++ copy_bytes κ d trunk.size (d.size - trunk.size) trunk.size (d.size - trunk.size)
      ≡ written_tree κ (key_in body) u
  unfolding written_tree written_nodes
  bytes_are =
      three κ (key_in body) d drawn (root_unmarked κ (key_in body) u asked.from_q asked.above_t) trunk.size cut_within
      ∙ ap₂
      (λ (cut all : ℕ).
      flatten
      (map (node_bytes 5)
      (map (written_node κ (key_in body) cut 0) (numbers all 0) ++ map (written_node κ (key_in body) cut (all - cut)) (numbers (all - cut) cut))))
      cut_is all_is

  -- there is room for the first copy, and for the second
  pub first_room : {before one : List ℕ} → Front before one (copy_bytes κ d trunk.size 0 0 (trunk.size - 0)) → 65536 ≤ length before
      → Copying d trunk.size d.size 0 (length (take (length one - 11 * trunk.size) (drop (11 * trunk.size) one)))
  first_room {one = one} f r =
      let w = cut_within in
      let s = k.short in
      let l = front_length f in
      copying_rest (11 * trunk.size) one k.sized w s (omega arith) (omega arith)

  module _ {before one ys : List ℕ} (f : Front before one (copy_bytes κ d trunk.size 0 0 (trunk.size - 0)))
      (g : Front (take (length one - 11 * trunk.size) (drop (11 * trunk.size) one)) ys (copy_bytes κ d trunk.size 0 trunk.size (d.size - trunk.size))) where
    two : List ℕ
    two = put_mid (11 * trunk.size) (length one - 11 * trunk.size) one ys

    first : Front before one (copy_bytes κ d trunk.size 0 0 trunk.size)
    first = let e : trunk.size - 0 ≡ trunk.size = omega arith in front_same (ap (copy_bytes κ d trunk.size 0 0) e) f

    second : Front before two (copy_bytes κ d trunk.size 0 0 trunk.size ++ copy_bytes κ d trunk.size 0 trunk.size (d.size - trunk.size))
    unfolding two
    second = front_more (11 * trunk.size) first (sym (copy_length κ d trunk.size 0 0 trunk.size)) g

    pub second_room : 65536 ≤ length before
        → Copying d trunk.size d.size (d.size - trunk.size)
        (length (take (length (put_mid (11 * trunk.size) (length one - 11 * trunk.size) one ys) - 11 * d.size) (drop (11 * d.size) (put_mid (11 * trunk.size) (length one - 11 * trunk.size) one ys))))
    unfolding two
    second_room r =
        let w = cut_within in
        let s = k.short in
        let l = front_length second in
        copying_rest (11 * d.size) two k.sized w s (omega arith) (omega arith)

    pub tree_written : {zs : List ℕ}
        → Front (take (length (put_mid (11 * trunk.size) (length one - 11 * trunk.size) one ys) - 11 * d.size) (drop (11 * d.size) (put_mid (11 * trunk.size) (length one - 11 * trunk.size) one ys)))
        zs (copy_bytes κ d trunk.size (d.size - trunk.size) trunk.size (d.size - trunk.size))
        → TreeAtFront κ (key_in body) u before
        (put_mid (11 * d.size) (length (put_mid (11 * trunk.size) (length one - 11 * trunk.size) one ys) - 11 * d.size) (put_mid (11 * trunk.size) (length one - 11 * trunk.size) one ys) zs)
        (11 * d.size + 11 * (d.size - trunk.size))
    unfolding two
    tree_written t =
        let A = copy_bytes κ d trunk.size 0 0 trunk.size in
        let B = copy_bytes κ d trunk.size 0 trunk.size (d.size - trunk.size) in
        let C = copy_bytes κ d trunk.size (d.size - trunk.size) trunk.size (d.size - trunk.size) in
        let a = copy_length κ d trunk.size 0 0 trunk.size in
        let b = copy_length κ d trunk.size 0 trunk.size (d.size - trunk.size) in
        let c = copy_length κ d trunk.size (d.size - trunk.size) trunk.size (d.size - trunk.size) in
        let ab = length-append A B in
        let abc = length-append (A ++ B) C in
        let w = cut_within in
        let e = front_same bytes_are (front_more (11 * d.size) second (omega arith) t) in
        let l = ap length bytes_are in
        let n : 11 * d.size + 11 * (d.size - trunk.size) ≡ length (written_tree κ (key_in body) u) = omega arith in
        record { is = e.is ∙ ap (λ (m : ℕ). written_tree κ (key_in body) u ++ drop m before) (sym n); used = n }
