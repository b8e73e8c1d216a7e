-- The pattern drawn node after node, "each any-path drawn as one filler element", "each element .. followed at once by a filler attribute".
-- What the code has drawn so far is such a sketch.
use Rattle.std.specs.Prelude.{ℕ, ◌+◌, ◌-◌, ◌≤◌, ◌<◌, ◌≡◌, Bool, true, false, cond, ◌&&◌, ◌||◌, List, [], ◌∷◌, ◌++◌, map, length, get_or, take, drop}
use Rattle.meaning.specs.Limits.{filler_attribute, root_label}
use Rattle.meaning.specs.Lists.{any, is_empty, numbers}
use Rattle.meaning.specs.Paths.{Class, is_element}
use Rattle.meaning.specs.Keys.{Key}
use Rattle.meaning.specs.Records.{read_key, key_in, is_some}
use Rattle.meaning.specs.Pattern.{Dressed, drawn, q_of, t_of}
use Rattle.write_pattern.specs.declared.Drawing.{Drawing}
use Rattle.write_pattern.specs.declared.Entry.{Entry}

-- The numbers given so far, and the number under which the next node hangs
pub record Sketch : Type 0 where
  pub entries : List Dressed
  pub above : ℕ

-- A node, and its filler attribute where it is an element; the node gets the number `at`
unfoldable pub dressed_as : (ℕ → Class) → ℕ → ℕ → ℕ → Bool → List Dressed
dressed_as κ above at label mark =
    cond (is_element (κ label))
    (record { parent = above; label = label; mark = mark } ∷ record { parent = at; label = filler_attribute; mark = mark } ∷ [])
    (record { parent = above; label = label; mark = mark } ∷ [])

unfoldable pub add_to : (ℕ → Class) → Sketch → ℕ → Bool → Sketch
add_to κ s label mark =
    record {
      entries = s.entries ++ dressed_as κ s.above (length s.entries) label mark;
      above = length s.entries;
    }

-- A path drawn downwards. `every`: all its nodes are marked; `last`: its last one is
unfoldable pub draw_run : (ℕ → Class) → Bool → Bool → Sketch → List ℕ → Sketch
draw_run κ every last s [] = s
draw_run κ every last s (l ∷ p) = draw_run κ every last (add_to κ s (drawn l) (every || (last && is_empty p))) p

unfoldable pub hang : ℕ → Sketch → Sketch
hang t s = record { entries = s.entries; above = t }

-- "from t one separate branch for each key path, in order"
unfoldable pub draw_branches : (ℕ → Class) → Bool → ℕ → Sketch → List (List ℕ) → Sketch
draw_branches κ whole t s [] = s
draw_branches κ whole t s (p ∷ ps) = draw_branches κ whole t (draw_run κ whole true (hang t s) p) ps

abbrev pub nothing : Sketch
nothing = record { entries = []; above = 0 }

-- "the pattern's nodes from root to u", none of which is marked
unfoldable pub draw_trunk : (ℕ → Class) → Key → ℕ → Sketch
draw_trunk κ asked u =
    draw_run κ false false (draw_run κ false false (add_to κ nothing root_label false) asked.context) (take (u - q_of asked) asked.target)

-- "then all the others in order": on to t, which is marked "if S holds the empty path", and the branches
unfoldable pub draw_down : (ℕ → Class) → Key → ℕ → Sketch → Sketch
draw_down κ asked u s = draw_run κ false (any is_empty asked.paths) s (drop (u - q_of asked) asked.target)

unfoldable pub draw_twigs : (ℕ → Class) → Key → Sketch → Sketch
draw_twigs κ asked s = draw_branches κ (any is_empty asked.paths) s.above s asked.paths

unfoldable pub draw_below : (ℕ → Class) → Key → ℕ → Sketch → Sketch
draw_below κ asked u s = draw_twigs κ asked (draw_down κ asked u s)

-- What the array of a drawing says
unfoldable pub dressed : Entry → Dressed
dressed e = record { parent = e.parent; label = e.label; mark = e.mark }

abbrev pub no_entry : Entry
no_entry = record { parent = 0; label = 0; mark = false }

unfoldable pub entry_at : Drawing → ℕ → Dressed
entry_at d x = dressed (get_or d.entries x no_entry)

unfoldable pub sketch : Drawing → Sketch
sketch d = record { entries = map (entry_at d) (numbers d.size 0); above = d.above }

pub record Sized (d : Drawing) : Type 0 where
  pub entries : length d.entries ≡ 128

-- There is room for so many numbers more
pub record Room (d : Drawing) (more : ℕ) : Type 0 where
  pub sized : Sized d
  pub room : d.size + more ≤ 128

-- The drawing shows this sketch, in at most so many numbers
pub record Shown (r : Drawing) (s : Sketch) (most : ℕ) : Type 0 where
  pub sized : Sized r
  pub sketched : sketch r ≡ s
  pub short : r.size ≤ most

-- One number more
pub record Entered (d r : Drawing) (entry : Dressed) (above : ℕ) : Type 0 where
  pub sized : Sized r
  pub size : r.size ≡ d.size + 1
  pub sketched : sketch r ≡ record { entries = (sketch d).entries ++ (entry ∷ []); above = above }

-- "a path of 8 symbols and 4 key paths in profile and question"
pub record Sizes (body : List ℕ) : Type 0 where
  pub shaped : is_some (read_key body) ≡ true
  pub context : length (key_in body).context ≤ 8
  pub target : length (key_in body).target ≤ 8
  pub few : length (key_in body).paths ≤ 4
  pub short : (i : ℕ) → i < length (key_in body).paths → length (get_or (key_in body).paths i []) ≤ 8

-- .. and u stands on the way from q to t, above t
pub record Sketchable (body : List ℕ) (u : ℕ) : Type 0 where
  pub sizes : Sizes body
  pub from_q : q_of (key_in body) ≤ u
  pub above_t : u < t_of (key_in body)
