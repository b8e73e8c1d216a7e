-- The loops of the drawing: what is left to draw, and what it comes to.
use Rattle.std.specs.Prelude.{ℕ, suc, ◌+◌, ◌*◌, ◌≤◌, ◌<◌, ◌≡◌, refl, Bool, ◌&&◌, ◌||◌, eqb, get_or, drop}
use Rattle.std.proofs.Math.Path.{sym, ap, ap₂}
use Rattle.std.proofs.Common.{◌∙◌, arith, length-drop, drop_of_length-le, eq-eqb, ne_eqb}
use Rattle.std.proofs.Math.Bool.{true}
use mathlib.Core.List.{List, [], ◌∷◌}
use Rattle.std.proofs.Math.Decide.{ℕ_discrete}
use Rattle.std.proofs.Math.ListN.{length}
use Rattle.meaning.specs.Lists.{is_empty}
use Rattle.meaning.specs.Paths.{Class}
use Rattle.meaning.specs.Pattern.{drawn}
use Rattle.read_record.specs.Scans.{drop_step}
use Rattle.write_pattern.specs.declared.Drawing.{Drawing}
use Rattle.write_pattern.specs.Sketch.{Sketch, add_to, draw_run, hang, draw_branches, entry_at, sketch, Sized, Room, Shown}

pub drawn_any : (s : ℕ) → s ≡ 0 → 201 ≡ drawn s
unfolding drawn
drawn_any s e = rw (eq-eqb s 0 e)

pub drawn_label : (s : ℕ) → (s ≡ 0 → ⊥) → s ≡ drawn s
unfolding drawn
drawn_label s e = rw (ne_eqb s 0 e)

pub empty_length : (l : List ℕ) → is_empty l ≡ eqb (length l) 0
unfolding is_empty
empty_length [] = refl
empty_length (x ∷ l) = sym (ne_eqb (suc (length l)) 0 (λ e. omega arith))

-- what is left is empty exactly at the last place
pub ends_test : (p : List ℕ) (i : ℕ) → i < length p → is_empty (drop (i + 1) p) ≡ eqb (i + 1) (length p)
ends_test p i h = empty_length (drop (i + 1) p) ∙ go (ℕ_discrete (i + 1) (length p))
  where
    go : Dec (i + 1 ≡ length p) → eqb (length (drop (i + 1) p)) 0 ≡ eqb (i + 1) (length p)
    go (yes e) = eq-eqb (length (drop (i + 1) p)) 0 (let l = length-drop (i + 1) p in omega arith) ∙ sym (eq-eqb (i + 1) (length p) e)
    go (no n) = ne_eqb (length (drop (i + 1) p)) 0 (λ e. let l = length-drop (i + 1) p in omega arith) ∙ sym (ne_eqb (i + 1) (length p) n)

module _ (κ : ℕ → Class) (every last : Bool) where
  -- nodes i, i + 1, .. of the path are left
  pub record Running (d₀ d : Drawing) (path : List ℕ) (i : ℕ) : Type 0 where
    pub within : i ≤ length path
    pub sized : Sized d
    pub short : d.size ≤ d₀.size + 2 * i
    pub rest : draw_run κ every last (sketch d) (drop i path) ≡ draw_run κ every last (sketch d₀) path

module _ {κ : ℕ → Class} {every last : Bool} where
  pub running_start : {d : Drawing} {path : List ℕ} → Room d (2 * length path) → Running κ every last d d path 0
  running_start h = record { within = omega arith; sized = h.sized; short = omega arith; rest = refl }

  pub running_room : {d₀ d : Drawing} {path : List ℕ} {i : ℕ} → Room d₀ (2 * length path) → Running κ every last d₀ d path i → i < length path → Room d 2
  running_room h r k = record { sized = r.sized; room = let a = r.short in let b = h.room in omega arith }

  pub running_next : {d₀ d e : Drawing} {path : List ℕ} {i : ℕ} → Running κ every last d₀ d path i → i < length path
      → {s : ℕ} → s ≡ drawn (get_or path i 0) → {m : Bool} → m ≡ (every || (last && eqb (i + 1) (length path)))
      → Shown e (add_to κ (sketch d) s m) (d.size + 2) → Running κ every last d₀ e path (i + 1)
  unfolding draw_run
  running_next {d₀} {d} {e} {path} {i} r h {s} f {m} g w =
      record {
        within = omega arith;
        sized = w.sized;
        short = let a = r.short in let b = w.short in omega arith;
        rest =
            ap (λ (t : Sketch). draw_run κ every last t (drop (i + 1) path)) w.sketched
            ∙ ap₂ (λ (a : ℕ) (b : Bool). draw_run κ every last (add_to κ (sketch d) a b) (drop (i + 1) path)) f
            (g ∙ ap (λ (b : Bool). every || (last && b)) (sym (ends_test path i h)))
            ∙ sym (ap (draw_run κ every last (sketch d)) (drop_step 0 path i h))
            ∙ r.rest;
      }

  pub running_end : {d₀ d : Drawing} {path : List ℕ} {i : ℕ} → Running κ every last d₀ d path i → length path ≤ i
      → Shown d (draw_run κ every last (sketch d₀) path) (d₀.size + 2 * length path)
  unfolding draw_run
  running_end {d₀} {d} {path} {i} r h =
      record {
        sized = r.sized;
        sketched = sym (ap (draw_run κ every last (sketch d)) (drop_of_length-le path h)) ∙ r.rest;
        short = let a = r.short in let b = r.within in omega arith;
      }

-- the next branch hangs under t
unfoldable pub hung : Drawing → ℕ → Drawing
hung d t = record { entries = d.entries; size = d.size; above = t }

module _ (κ : ℕ → Class) (whole : Bool) where
  -- branches i, i + 1, .. are left
  pub record Branching (d₀ d : Drawing) (paths : List (List ℕ)) (i : ℕ) : Type 0 where
    pub within : i ≤ length paths
    pub sized : Sized d
    pub short : d.size ≤ d₀.size + 16 * i
    pub rest : draw_branches κ whole d₀.above (sketch d) (drop i paths) ≡ draw_branches κ whole d₀.above (sketch d₀) paths

module _ {κ : ℕ → Class} {whole : Bool} where
  pub branching_start : {d : Drawing} {paths : List (List ℕ)} → Room d 64 → Branching κ whole d d paths 0
  branching_start h = record { within = omega arith; sized = h.sized; short = omega arith; rest = refl }

  pub branching_room : {d₀ d : Drawing} {paths : List (List ℕ)} {i : ℕ} (t : ℕ) → Room d₀ 64 → length paths ≤ 4
      → ((i : ℕ) → i < length paths → length (get_or paths i []) ≤ 8) → Branching κ whole d₀ d paths i → i < length paths
      → {p : List ℕ} → p ≡ get_or paths i [] → Room (hung d t) (2 * length p)
  unfolding hung
  branching_room {i = i} t h few short b k e =
      record {
        sized = record { entries = b.sized.entries };
        room = let a = b.short in let c = h.room in let l = short i k in let f = ap length e in omega arith;
      }

  pub branching_next : {d₀ d e : Drawing} {paths : List (List ℕ)} {i : ℕ} → Branching κ whole d₀ d paths i → i < length paths
      → {p : List ℕ} → p ≡ get_or paths i [] → length p ≤ 8 → {t : ℕ} → t ≡ d₀.above
      → Shown e (draw_run κ whole true (sketch (hung d t)) p) ((hung d t).size + 2 * length p) → Branching κ whole d₀ e paths (i + 1)
  unfolding draw_branches hung hang sketch entry_at
  branching_next {d₀} {d} {e} {paths} {i} b h {p} q l {t} f w =
      record {
        within = omega arith;
        sized = w.sized;
        short = let a = b.short in let c = w.short in omega arith;
        rest =
            ap (λ (s : Sketch). draw_branches κ whole d₀.above s (drop (i + 1) paths))
            (w.sketched ∙ ap₂ (λ (k : ℕ) (r : List ℕ). draw_run κ whole true (sketch (hung d k)) r) f q)
            ∙ sym (ap (draw_branches κ whole d₀.above (sketch d)) (drop_step [] paths i h))
            ∙ b.rest;
      }

  pub branching_end : {d₀ d : Drawing} {paths : List (List ℕ)} {i : ℕ} → Branching κ whole d₀ d paths i → length paths ≤ i → length paths ≤ 4
      → Shown d (draw_branches κ whole d₀.above (sketch d₀) paths) (d₀.size + 64)
  unfolding draw_branches
  branching_end {d₀} {d} {paths} {i} b h few =
      record {
        sized = b.sized;
        sketched = sym (ap (draw_branches κ whole d₀.above (sketch d)) (drop_of_length-le paths h)) ∙ b.rest;
        short = let a = b.short in let w = b.within in omega arith;
      }
