-- ARGUMENT 4: the steps on lines of symbols are the steps of 01's pattern, and the loop over them finds the u of 01.
use Prim.Native.Nat.{ℕ, ◌+◌, ◌-◌, ◌≤◌, ◌<◌}
use Rattle.std.specs.Prelude.{◌≡◌, refl, Bool, take}
use Rattle.std.proofs.Common.{sym, ap, subst₂, ◌∙◌, ⊎_elim, arith, length-take, length-drop}
use Rattle.std.proofs.Math.Path.{subst}
use mathlib.Core.List.{List}
use Rattle.std.proofs.Math.Dec.{T}
use Rattle.std.proofs.Math.ListN.{length}
use Rattle.meaning.specs.Limits.{filler_element, in_profile}
use Rattle.meaning.specs.Lists.{Each}
use Rattle.meaning.specs.Paths.{Label, member, simple}
use Rattle.meaning.specs.Trees.{Reached}
use Rattle.meaning.specs.Keys.{Key}
use Rattle.meaning.specs.Pattern.{pattern, t_of, marked, Lands, Step, by_key}
use Rattle.theory_lists.specs.Bools.{Each-at, Each-of}
use Rattle.theory_paths.specs.Words.{word_refl, member→word, word→member, word_trans}
use Rattle.theory_paths.specs.Inclusion.{fill, fill_word, no_filler, unfill_word}
use Rattle.theory_paths.specs.Simple.{simple_word}
use Rattle.theory_paths.specs.Good.{GoodLabels, GoodKey, context_clear, target_clear, key_path_clear, key_path_simple, paths_some}
use Rattle.theory_lists.specs.Logic.{less_or, each_imp, found_mem}
use Rattle.theory_pattern.specs.Spots.{Taken, row_of, part, marked_at, LandsAt, FiresBy, Fires}
use Rattle.theory_pattern.specs.Rows.{row_length}
use Rattle.theory_pattern.specs.Numbers.{spot_node, spot_chain, spot_inside, pattern_size}
use Rattle.theory_pattern.specs.Places.{IsSpot, Place, spot_above, place_of, spot_once, spot_shared, spot_down, down_spot, down_inside}
use Rattle.theory_pattern.specs.Marks.{marked_says, marked_test}

-- a path that the symbols are a word of is a path that the labels are a word of, 201 standing for 0
fill_member : (P X : List ℕ) → T (member P X) → T (member P (fill X))
fill_member P X h = word→member P (fill X) (word_trans X P (fill X) (member→word P X h) (fill_word filler_element X))

unfill_member : (P X : List ℕ) → T (no_filler P) → T (member P (fill X)) → T (member P X)
unfill_member P X c h = word→member P X (unfill_word filler_element P X c (member→word P (fill X) h))

part_length : (i k : ℕ) (l : List ℕ) → k ≤ length l → length (part i k l) ≡ k - i
unfolding part
part_length i k l h = omega (arith, length-drop i (take k l), length-take k l)

part_zero : (k : ℕ) (l : List ℕ) → part 0 k l ≡ take k l
unfolding part
part_zero k l = refl

module _ (asked : Key) where
  -- the labels from one spot down to another
  reached : (i j k : ℕ) (P : List ℕ) → i ≤ k → IsSpot asked j k → T (member P (part i k (row_of asked j)))
      → Reached (pattern asked) (spot_node asked j i) P (spot_node asked j k)
  reached i j k P h s m =
      record {
        run = fill (part i k (row_of asked j));
        down = spot_down asked (k - i) i j k (omega arith) s;
        word = fill_member P (part i k (row_of asked j)) m;
      }

  lands_node : (j k : ℕ) → IsSpot asked j k → (p : List ℕ) → LandsAt asked j k p → Lands asked (spot_node asked j k) p
  unfolding part
  lands_node j k s p h =
      record {
        mark = spot_node asked h.at (k + length p);
        is_marked = marked_test asked h.at (k + length p) spot h.mark;
        reached = subst (λ x. Reached (pattern asked) x p (spot_node asked h.at (k + length p)))
            (spot_shared asked h.at j k h.in_branch)
            (reached k h.at (k + length p) p (omega arith) spot (subst (λ r. T (member p r)) (sym h.reads) (word→member p p (word_refl p))));
      }
    where
      line : List ℕ
      line = row_of asked h.at

      inside : k ≤ length line
      inside =
          ⊎_elim (λ l. subst (λ b. k ≤ length (row_of asked b)) (sym (h.in_branch l)) s.on_row) (λ l. omega (arith, row_length asked h.at))
          (less_or (t_of asked) k)

      spot : IsSpot asked h.at (k + length p)
      spot =
          record {
            is_branch = h.is_branch;
            on_row = omega (arith, inside, ap length h.reads, length-drop k (take (k + length p) line), length-take (k + length p) line);
          }

  -- a step on the lines is a step of the pattern
  pub fires_step : (single : ℕ → Bool) (keys : List Key) (t : Taken) → Fires keys asked t → Step single keys asked (spot_node asked t.branch t.spot) t.node
  unfolding part
  fires_step single keys t f =
      let g = f.firing in
      let spot : IsSpot asked t.branch t.spot = record { is_branch = g.is_branch; on_row = g.on_row } in
      let root = spot_chain asked t.branch 0 (omega arith) in
      let top = spot_chain asked t.branch t.node g.on_chain in
      by_key f.by (found_mem keys t.key f.cited)
      (subst₂ (λ x y. Reached (pattern asked) x f.by.context y) root top
      (reached 0 t.branch t.node f.by.context (omega arith) (spot_above asked t.branch t.node t.spot g.above spot) g.context))
      (subst (λ y. Reached (pattern asked) y f.by.target (spot_node asked t.branch t.spot)) top
      (reached t.node t.branch t.spot f.by.target g.above spot g.target))
      (each_imp (λ p h. lands_node t.branch t.spot spot p h) g.landing)

-- ---- and back

-- a step of the pattern by the key s, on the lines: from spot (branch, depth) to the spot of that line at depth top
pub record OnLines (asked s : Key) (x y : ℕ) : Type 0 where
  pub branch : ℕ
  pub depth : ℕ
  pub top : ℕ
  pub spot : IsSpot asked branch depth
  pub from : x ≡ spot_node asked branch depth
  pub to : y ≡ spot_node asked branch top
  pub above : top ≤ depth
  pub firing : top ≤ t_of asked → FiresBy asked s top branch depth

module _ (labels : List Label) (gl : GoodLabels labels) (asked : Key) (g : GoodKey labels in_profile asked) where
  lands_at : (j k : ℕ) → IsSpot asked j k → (p : List ℕ) → T (simple p) → T (no_filler p) → Lands asked (spot_node asked j k) p → LandsAt asked j k p
  lands_at j k s p simp clear h = go (place_of asked (paths_some labels in_profile asked g) h.mark inside)
    where
      inside : h.mark < (pattern asked).size
      inside = down_inside asked h.reached.down (spot_inside asked j k s.is_branch s.on_row)

      go : Place asked h.mark → LandsAt asked j k p
      go m =
          let b = down_spot asked m.branch m.depth m.spot h.reached.down m.place in
          let o = spot_once asked m.branch j b.top k (spot_above asked m.branch b.top m.depth b.above m.spot) s (sym b.place) in
          let line = row_of asked m.branch in
          let reads : part b.top m.depth line ≡ p =
          simple_word p (part b.top m.depth line) simp
          (unfill_word filler_element p (part b.top m.depth line) clear (member→word p (fill (part b.top m.depth line)) (subst (λ r. T (member p r)) b.reads h.reached.word))) in
          let end : m.depth ≡ k + length p = omega (arith, o.0, ap length reads, part_length b.top m.depth line m.spot.on_row, b.above) in
          record {
            at = m.branch;
            is_branch = m.spot.is_branch;
            in_branch = λ l. o.1 (subst (λ d. t_of asked < d) (sym o.0) l);
            reads = subst₂ (λ a d. part a d line ≡ p) o.0 end reads;
            mark = subst (λ d. T (marked_at asked m.branch d)) end
                (marked_says asked m.branch m.depth m.spot (subst (λ x. T (marked asked x)) m.place h.is_marked));
          }

  pub on_lines : (s : Key) → GoodKey labels in_profile s → (x y : ℕ) → Reached (pattern asked) 0 s.context y → Reached (pattern asked) y s.target x
      → Each (Lands asked x) s.paths → OnLines asked s x y
  on_lines s gs x y rc rt lands = go (place_of asked (paths_some labels in_profile asked g) x inside)
    where
      inside : x < (pattern asked).size
      inside = down_inside asked rt.down (down_inside asked rc.down (omega (arith, pattern_size asked)))

      go : Place asked x → OnLines asked s x y
      go p =
          let j = p.branch in
          let k = p.depth in
          let line = row_of asked j in
          let b = down_spot asked j k p.spot rt.down p.place in
          let i = b.top in
          let si = spot_above asked j i k b.above p.spot in
          let c = down_spot asked j i si rc.down b.place in
          let root = spot_once asked j j c.top 0 (spot_above asked j c.top i c.above si) (spot_above asked j 0 k (omega arith) p.spot)
          (sym c.place ∙ sym (spot_chain asked j 0 (omega arith))) in
          record {
            branch = j;
            depth = k;
            top = i;
            spot = p.spot;
            from = p.place;
            to = b.place;
            above = b.above;
            firing = λ l. record {
              is_branch = p.spot.is_branch;
              on_chain = l;
              above = b.above;
              on_row = p.spot.on_row;
              context = subst (λ r. T (member s.context r)) (ap (λ a. part a i line) root.0 ∙ part_zero i line)
                  (unfill_member s.context (part c.top i line) (context_clear labels in_profile s gs gl) (subst (λ r. T (member s.context r)) c.reads rc.word));
              target = unfill_member s.target (part i k line) (target_clear labels in_profile s gs gl) (subst (λ r. T (member s.target r)) b.reads rt.word);
              landing = Each-of s.paths (λ q m. lands_at j k p.spot q (key_path_simple labels in_profile s gs q m) (key_path_clear labels in_profile s gs gl q m)
                  (subst (λ z. Lands asked z q) p.place (Each-at lands q m)));
            };
          }
