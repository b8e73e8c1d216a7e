-- The array of a drawing, one number more.
use Rattle.std.specs.Prelude.{ℕ, zero, suc, ◌+◌, ◌≤◌, ◌<◌, ◌≡◌, refl, Bool, true, set}
use Rattle.std.proofs.Common.{sym, ap₂, ◌∙◌, add-one, get_or-set_same, get_or-set_other}
use Rattle.std.proofs.Math.Path.{ap}
use Rattle.std.proofs.Math.Bool.{false, cond}
use mathlib.Core.List.{List, [], ◌∷◌, ◌++◌, map, append_assoc}
use native.Mathlib.Omega.{arith}
use Rattle.std.proofs.Math.ListN.{length, length-set}
use Rattle.std.proofs.lemmas.List.{length-map}
use Rattle.meaning.specs.Limits.{filler_attribute}
use Rattle.meaning.specs.Lists.{numbers}
use Rattle.meaning.specs.Paths.{Class, is_element}
use Rattle.meaning.specs.Pattern.{Dressed}
use Rattle.write_pattern.specs.declared.Drawing.{Drawing}
use Rattle.write_pattern.specs.declared.Entry.{Entry}
use Rattle.write_pattern.specs.Sketch.{Sketch, dressed, no_entry, dressed_as, add_to, entry_at, sketch, Sized, Shown, Entered, nothing}
use Rattle.theory_lists.specs.Lists.{map_append, numbers_length}

pub numbers_more : (count start : ℕ) → numbers (suc count) start ≡ numbers count start ++ ((start + count) ∷ [])
unfolding numbers
numbers_more zero start = let e : start ≡ start + 0 = omega arith in ap (λ (k : ℕ). k ∷ []) e
numbers_more (suc count) start =
    let e : suc start + count ≡ start + suc count = omega arith in
    ap (λ (l : List ℕ). start ∷ l) (numbers_more count (suc start) ∙ ap (λ (k : ℕ). numbers count (suc start) ++ (k ∷ [])) e)

pub map_agree : {A : Type 0} (f g : ℕ → A) (count start : ℕ) → ((x : ℕ) → start ≤ x → x < start + count → f x ≡ g x)
    → map f (numbers count start) ≡ map g (numbers count start)
unfolding numbers
map_agree f g zero start h = refl
map_agree {A} f g (suc count) start h =
    ap₂ (λ (x : A) (l : List A). x ∷ l) (h start (omega arith) (omega arith)) (map_agree f g count (suc start) (λ x a b. h x (omega arith) (omega arith)))

pub same_sketch : {s r : List Dressed} {a b : ℕ} → s ≡ r → a ≡ b
    → ◌≡◌ {A = Sketch} (record { entries = s; above = a }) (record { entries = r; above = b })
same_sketch e f = λ i. record { entries = e i; above = f i }

pub sketch_length : (d : Drawing) → length (sketch d).entries ≡ d.size
unfolding sketch
sketch_length d = length-map (numbers d.size 0) (entry_at d) ∙ numbers_length d.size 0

-- a blank drawing
pub blank_drew : (d : Drawing) → length d.entries ≡ 128 → d.size ≡ 0 → d.above ≡ 0
    → Shown d nothing 0
unfolding sketch numbers
blank_drew d a e f =
    record {
      sized = record { entries = a };
      sketched = same_sketch (ap (λ (k : ℕ). map (entry_at d) (numbers k 0)) e) f;
      short = omega arith;
    }

module _ (d : Drawing) (entry : Entry) (a : ℕ) (sized : Sized d) (room : d.size < 128) where
  after : Drawing
  after = record { entries = set d.entries d.size entry; size = d.size + 1; above = a }

  before_same : (x : ℕ) → x < d.size → entry_at after x ≡ entry_at d x
  unfolding entry_at after
  before_same x h = ap dressed (get_or-set_other d.entries d.size x entry no_entry (λ e. omega arith))

  here_new : entry_at after d.size ≡ dressed entry
  unfolding entry_at after
  here_new = ap dressed (get_or-set_same d.entries d.size entry no_entry (let e = sized.entries in omega arith))

  grown : map (entry_at after) (numbers (d.size + 1) 0) ≡ map (entry_at d) (numbers d.size 0) ++ (dressed entry ∷ [])
  grown =
      let z : 0 + d.size ≡ d.size = omega arith in
      ap (λ (k : ℕ). map (entry_at after) (numbers k 0)) (add-one d.size)
      ∙ ap (map (entry_at after)) (numbers_more d.size 0)
      ∙ map_append (entry_at after) (numbers d.size 0) ((0 + d.size) ∷ [])
      ∙ ap₂ (λ (xs : List Dressed) (y : Dressed). xs ++ (y ∷ [])) (map_agree (entry_at after) (entry_at d) d.size 0 (λ x u v. before_same x (omega arith)))
      (ap (entry_at after) z ∙ here_new)

  pub entered : Entered d (record { entries = set d.entries d.size entry; size = d.size + 1; above = a }) (dressed entry) a
  unfolding sketch after
  entered =
      record {
        sized = record { entries = length-set d.entries d.size entry ∙ sized.entries };
        size = refl;
        sketched = same_sketch grown refl;
      }

-- a node with its filler, and one without
module _ (κ : ℕ → Class) (d : Drawing) (label : ℕ) (mark : Bool) {w : ℕ} (same : w ≡ label) {b : Bool} (told : b ≡ is_element (κ w)) where
  test : is_element (κ label) ≡ b
  test = sym (told ∙ ap (λ (k : ℕ). is_element (κ k)) same)

  pub added_element : {own r : Drawing} → b ≡ true
      → Entered d own (record { parent = d.above; label = label; mark = mark }) d.size
      → Entered own r (record { parent = d.size; label = filler_attribute; mark = mark }) d.size
      → Shown r (add_to κ (sketch d) label mark) (d.size + 2)
  unfolding add_to dressed_as sketch
  added_element {own} {r} e h k =
      let n = sketch_length d in
      record {
        sized = k.sized;
        sketched =
            k.sketched
            ∙ same_sketch
            (ap (λ (s : Sketch). s.entries ++ (record { parent = d.size; label = filler_attribute; mark = mark } ∷ [])) h.sketched
            ∙ append_assoc (sketch d).entries (record { parent = d.above; label = label; mark = mark } ∷ []) (record { parent = d.size; label = filler_attribute; mark = mark } ∷ [])
            ∙ ap (λ (k : ℕ). (sketch d).entries ++ (record { parent = d.above; label = label; mark = mark } ∷ record { parent = k; label = filler_attribute; mark = mark } ∷ [])) (sym n)
            ∙ ap (λ (t : Bool). (sketch d).entries ++ cond t (record { parent = d.above; label = label; mark = mark } ∷ record { parent = length (sketch d).entries; label = filler_attribute; mark = mark } ∷ []) (record { parent = d.above; label = label; mark = mark } ∷ []))
            (sym (test ∙ e)))
            (sym n);
        short = let a = h.size in let c = k.size in omega arith;
      }

  pub added_leaf : {own : Drawing} → b ≡ false → Entered d own (record { parent = d.above; label = label; mark = mark }) d.size
      → Shown own (add_to κ (sketch d) label mark) (d.size + 2)
  unfolding add_to dressed_as sketch
  added_leaf {own} e h =
      let n = sketch_length d in
      record {
        sized = h.sized;
        sketched =
            h.sketched
            ∙ same_sketch
            (ap (λ (t : Bool). (sketch d).entries ++ cond t (record { parent = d.above; label = label; mark = mark } ∷ record { parent = length (sketch d).entries; label = filler_attribute; mark = mark } ∷ []) (record { parent = d.above; label = label; mark = mark } ∷ []))
            (sym (test ∙ e)))
            (sym n);
        short = let a = h.size in omega arith;
      }
