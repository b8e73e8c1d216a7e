-- A sketch that shows the first n nodes of the pattern, dressed; one node more; a run and the branches more.
use Rattle.std.specs.Prelude.{ℕ, suc, ◌+◌, ◌≤◌, ◌<◌, ◌≡◌, get_or}
use Rattle.std.proofs.Math.Path.{refl, ap, ap₂, subst}
use Rattle.std.proofs.Common.{sym, ◌∙◌}
use Rattle.std.proofs.Math.Bool.{Bool, true, false, cond}
use mathlib.Core.List.{List, [], ◌∷◌, ◌++◌, map, flatten, append_assoc, append-nil}
use native.Mathlib.Omega.{arith}
use Rattle.std.proofs.Math.ListN.{length, length-append}
use Rattle.meaning.specs.Limits.{filler_attribute, root_label}
use Rattle.meaning.specs.Lists.{numbers}
use Rattle.meaning.specs.Paths.{Class, is_element}
use Rattle.meaning.specs.Trees.{Node, no_node}
use Rattle.meaning.specs.Keys.{Key}
use Rattle.meaning.specs.Pattern.{Dressed, drawn, run, branches, pattern_nodes, marked, place_of, widths, filler, dressed_node, dressed}
use Rattle.theory_counter.specs.Places.{bit}
use Rattle.theory_pattern.specs.Numbered.{Numbered, next, Is, numbered_left, numbered_right}
use Rattle.theory_pattern.specs.Branches.{total, last}
use Rattle.theory_counter.specs.Dressing.{place_step}
use Rattle.write_pattern.specs.Sketch.{Sketch, dressed_as, add_to, draw_run, hang, draw_branches, nothing}
use Rattle.write_pattern.specs.Entries.{numbers_more}
use Rattle.write_tree.specs.Marks.{MarksOf, BranchMarks}
use Rattle.theory_lists.specs.Lists.{map_append}
use Rattle.theory_pattern.specs.Numbers.{run_length}

pub flatten_append : {A : Type 0} (xs ys : List (List A)) → flatten (xs ++ ys) ≡ flatten xs ++ flatten ys
unfolding flatten
flatten_append [] ys = refl
flatten_append {A} (x ∷ xs) ys = ap (λ (w : List A). x ++ w) (flatten_append xs ys) ∙ sym (append_assoc x (flatten xs) (flatten ys))

dressed_long : (κ : ℕ → Class) (above at label : ℕ) (mark : Bool) → length (dressed_as κ above at label mark) ≡ suc (bit (is_element (κ label)))
unfolding dressed_as bit
dressed_long κ above at label mark = go (is_element (κ label))
  where
    go : (b : Bool)
        → length {A = Dressed} (cond b (record { parent = above; label = label; mark = mark } ∷ record { parent = at; label = filler_attribute; mark = mark } ∷ []) (record { parent = above; label = label; mark = mark } ∷ []))
        ≡ suc (bit b)
    go true = refl
    go false = refl

module _ (κ : ℕ → Class) (asked : Key) where
  -- the dressed nodes of the first n pattern nodes
  unfoldable pub firsts : ℕ → List Dressed
  firsts n = flatten (map (dressed κ asked) (numbers n 0))

  firsts_more : (n : ℕ) → firsts (suc n) ≡ firsts n ++ dressed κ asked n
  unfolding firsts flatten
  firsts_more n =
      let e : 0 + n ≡ n = omega arith in
      ap (λ (l : List ℕ). flatten (map (dressed κ asked) l)) (numbers_more n 0)
      ∙ ap flatten (map_append (dressed κ asked) (numbers n 0) ((0 + n) ∷ []))
      ∙ flatten_append (map (dressed κ asked) (numbers n 0)) (dressed κ asked (0 + n) ∷ [])
      ∙ ap (λ (l : List Dressed). flatten (map (dressed κ asked) (numbers n 0)) ++ l) (append-nil (dressed κ asked (0 + n)) ∙ ap (dressed κ asked) e)

  -- The sketch shows the first n nodes, and the next hangs under node `above`. The root's parent is nobody's number: it is not drawn
  pub record Standing (n above : ℕ) (s : Sketch) : Type 0 where
    pub rest : List Dressed
    pub drew : s.entries ≡ record { parent = 0; label = root_label; mark = false } ∷ rest
    pub are : firsts n ≡ dressed_node κ asked 0 ∷ rest
    pub long : length s.entries ≡ place_of κ asked n
    pub hangs : s.above ≡ place_of κ asked above

  dressed_is : (n above l : ℕ) → get_or (pattern_nodes asked) n no_node ≡ record { parent = above; label = l; value = 0 }
      → dressed κ asked n ≡ dressed_as κ (place_of κ asked above) (place_of κ asked n) l (marked asked n)
  unfolding dressed dressed_node filler dressed_as
  dressed_is n above l e =
      ap
      (λ (x : Node).
      cond (is_element (κ x.label))
      (record { parent = place_of κ asked x.parent; label = x.label; mark = marked asked n } ∷ record { parent = place_of κ asked n; label = filler_attribute; mark = marked asked n } ∷ [])
      (record { parent = place_of κ asked x.parent; label = x.label; mark = marked asked n } ∷ []))
      e

  pub standing_add : {n above : ℕ} {s : Sketch} (l : ℕ) {m : Bool} → Standing n above s → n < length (pattern_nodes asked)
      → get_or (pattern_nodes asked) n no_node ≡ record { parent = above; label = l; value = 0 } → marked asked n ≡ m → Standing (suc n) n (add_to κ s l m)
  unfolding add_to
  standing_add {n} {above} {s} l {m} a h e f =
      record {
        rest = a.rest ++ new;
        drew = ap (λ (xs : List Dressed). xs ++ new) a.drew;
        are = firsts_more n ∙ ap₂ (λ (xs ys : List Dressed). xs ++ ys) a.are same;
        long =
            let p = length-append s.entries new in
            let q = dressed_long κ s.above (length s.entries) l m in
            let r = place_step κ asked n h in
            let g = ap (λ (x : Node). bit (is_element (κ x.label))) e in
            let o = a.long in
            omega arith;
        hangs = a.long;
      }
    where
      new : List Dressed
      new = dressed_as κ s.above (length s.entries) l m

      same : dressed κ asked n ≡ dressed_as κ s.above (length s.entries) l m
      same =
          dressed_is n above l e
          ∙ ap₂ (λ (j k : ℕ). dressed_as κ j k l (marked asked n)) (sym a.hangs) (sym a.long)
          ∙ ap (dressed_as κ s.above (length s.entries) l) f

  pub standing_root : marked asked 0 ≡ false → Standing 1 0 (add_to κ nothing root_label false)
  unfolding add_to dressed_as firsts numbers flatten dressed dressed_node filler place_of widths pattern_nodes
  standing_root e =
      record {
        rest = behind (is_element (κ root_label));
        drew = drew (is_element (κ root_label));
        are = are (is_element (κ root_label));
        long = long (is_element (κ root_label));
        hangs = refl;
      }
    where
      behind : Bool → List Dressed
      behind b = cond b (record { parent = 0; label = filler_attribute; mark = false } ∷ []) []

      root : Dressed
      root = record { parent = 0; label = root_label; mark = false }

      drew : (b : Bool) → cond b (root ∷ record { parent = 0; label = filler_attribute; mark = false } ∷ []) (root ∷ []) ≡ root ∷ behind b
      drew true = refl
      drew false = refl

      are : (b : Bool)
          → cond b (dressed_node κ asked 0 ∷ record { parent = 0; label = filler_attribute; mark = marked asked 0 } ∷ []) (dressed_node κ asked 0 ∷ []) ++ []
          ≡ dressed_node κ asked 0 ∷ behind b
      are true = ap (λ (m : Bool). dressed_node κ asked 0 ∷ record { parent = 0; label = filler_attribute; mark = m } ∷ []) e
      are false = refl

      long : (b : Bool) → length {A = Dressed} (cond b (root ∷ record { parent = 0; label = filler_attribute; mark = false } ∷ []) (root ∷ [])) ≡ cond b 2 1 + 0
      long true = refl
      long false = refl

  pub standing_run : (every mark : Bool) (p : List ℕ) {n above : ℕ} {s : Sketch} → Standing n above s
      → Numbered (Is (pattern_nodes asked)) n (run above n p) → n + length p ≤ length (pattern_nodes asked) → MarksOf asked every mark n p
      → (stop : ℕ) → stop ≡ n + length p → Standing stop (last above n p) (draw_run κ every mark s p)
  unfolding run last draw_run MarksOf Is
  standing_run every mark [] {n} {above} {s} a l h m stop e =
      let q : n ≡ stop = omega arith in
      subst (λ (k : ℕ). Standing k above s) q a
  standing_run every mark (c ∷ p) {n} a (next q l) h m stop e =
      standing_run every mark p (standing_add (drawn c) a (omega arith) q m.0) l (omega arith) m.1 stop (omega arith)

  pub standing_branches : (whole : Bool) (t : ℕ) (S : List (List ℕ)) {n above : ℕ} {s : Sketch} → Standing n above s
      → Numbered (Is (pattern_nodes asked)) n (branches t n S) → n + total S ≤ length (pattern_nodes asked) → BranchMarks asked whole n S
      → (stop : ℕ) → stop ≡ n + total S → (end : ℕ) × Standing stop end (draw_branches κ whole (place_of κ asked t) s S)
  unfolding branches total draw_branches BranchMarks hang
  standing_branches whole t [] {n} {above} {s} a l h m stop e =
      let q : n ≡ stop = omega arith in
      (above, subst (λ (k : ℕ). Standing k above s) q a)
  standing_branches whole t (p ∷ S) {n} {above} {s} a l h m stop e =
      standing_branches whole t S
      (standing_run whole true p hung (numbered_left (run t n p) (branches t (n + length p) S) l) (omega arith) m.0 (n + length p) refl)
      (numbered_right (n + length p) (run t n p) (branches t (n + length p) S) (ap (λ (k : ℕ). n + k) (sym (run_length t n p))) l)
      (omega arith) m.1 stop (omega arith)
    where
      hung : Standing n t (record { entries = s.entries; above = place_of κ asked t })
      hung = record { rest = a.rest; drew = a.drew; are = a.are; long = a.long; hangs = refl }
