-- Symbols and paths written, return by return.
use Rattle.std.specs.Prelude.{ℕ, ◌+◌, ◌<◌, ◌≤◌, ◌≡◌, length, get_or}
use Rattle.std.proofs.Math.Path.{refl}
use Rattle.std.proofs.Common.{sym, ap, arith}
use mathlib.Core.List.{List, [], ◌∷◌}
use Rattle.meaning.specs.Paths.{Label}
use Rattle.meaning.specs.Text.{joined_by, dot, comma}
use Rattle.write_bytes.specs.Wrote.{Wrote, wrote_is, wrote_none}
use Rattle.write_text.specs.Texts.{declared_text, symbol_text, path_text, paths_text, symbol_any, symbol_text_lem, symbol_declared, path_empty, path_joined}
use Rattle.write_text.specs.Rows.{Row, row_first, row_start, row_mark, row_text, row_more, row_done}

module _ (labels : List Label) (s : ℕ) where
  pub any_room : (out : List ℕ) (at : ℕ) → s ≡ 0 → at + length (symbol_text labels s) ≤ length out → at + 2 ≤ length out
  any_room out at h room = omega (arith, ap length (symbol_any labels s h))

  pub any_wrote : {out end : List ℕ} {at next : ℕ} → s ≡ 0 → Wrote out end at (95 ∷ 42 ∷ []) next → Wrote out end at (symbol_text labels s) next
  any_wrote h w = wrote_is (sym (symbol_any labels s h)) w

  pub text_room : (out : List ℕ) (at : ℕ) → s ≡ 1 → at + length (symbol_text labels s) ≤ length out → at + 1 ≤ length out
  text_room out at h room = omega (arith, ap length (symbol_text_lem labels s h))

  pub text_wrote : {out end : List ℕ} {at next : ℕ} → s ≡ 1 → Wrote out end at (35 ∷ []) next → Wrote out end at (symbol_text labels s) next
  text_wrote h w = wrote_is (sym (symbol_text_lem labels s h)) w

  pub declared_room : (out : List ℕ) (at : ℕ) → (s ≡ 0 → ⊥) → (s ≡ 1 → ⊥) → at + length (symbol_text labels s) ≤ length out
      → at + length (declared_text labels s) ≤ length out
  declared_room out at h k room = omega (arith, ap length (symbol_declared labels s h k))

  pub declared_wrote : {out end : List ℕ} {at next : ℕ} → (s ≡ 0 → ⊥) → (s ≡ 1 → ⊥) → Wrote out end at (declared_text labels s) next
      → Wrote out end at (symbol_text labels s) next
  declared_wrote h k w = wrote_is (sym (symbol_declared labels s h k)) w

-- a path: its symbols with dots between them
abbrev pub Symbols : List Label → List ℕ → (out mid : List ℕ) (at i next : ℕ) → Type 0
Symbols labels path = Row dot (symbol_text labels) path

module _ (labels : List Label) (path : List ℕ) where
  pub empty_room : (out : List ℕ) (at : ℕ) → length path ≡ 0 → at + length (path_text labels path) ≤ length out → at + 1 ≤ length out
  empty_room out at h room = omega (arith, ap length (path_empty labels path h))

  pub empty_wrote : {out end : List ℕ} {at next : ℕ} → length path ≡ 0 → Wrote out end at (46 ∷ []) next → Wrote out end at (path_text labels path) next
  empty_wrote h w = wrote_is (sym (path_empty labels path h)) w

  module _ (some : length path ≡ 0 → ⊥) where
    there : 0 < length path
    there = omega arith

    pub symbol_first : {s : ℕ} (out : List ℕ) (at : ℕ) → s ≡ get_or path 0 0 → at + length (path_text labels path) ≤ length out
        → at + length (symbol_text labels s) ≤ length out
    symbol_first out at is room = omega (arith, row_first dot (symbol_text labels) path 0 is there, ap length (path_joined labels path there))

    module _ {s : ℕ} (is : s ≡ get_or path 0 0) {out mid : List ℕ} {at next : ℕ} (w : Wrote out mid at (symbol_text labels s) next) where
      pub symbol_start : at + length (path_text labels path) ≤ length out → Symbols labels path mid mid next 1 next
      symbol_start room = row_start dot (symbol_text labels) path 0 is there w (let e = ap length (path_joined labels path there) in omega arith)

      pub symbol_done : {end : List ℕ} {i last : ℕ} → Symbols labels path mid end next i last → length path ≤ i → Wrote out end at (path_text labels path) last
      symbol_done row h = wrote_is (sym (path_joined labels path there)) (row_done dot (symbol_text labels) path 0 is there w row h)

  module _ {out mid : List ℕ} {at i next : ℕ} (row : Symbols labels path out mid at i next) (h : i < length path) where
    pub dot_room : next + 1 ≤ length mid
    dot_room = row_mark dot (symbol_text labels) path row 0 refl h

    module _ {s : ℕ} (is : s ≡ get_or path i 0) {marked : List ℕ} {place : ℕ} (m : Wrote mid marked next (46 ∷ []) place) where
      pub symbol_room : place + length (symbol_text labels s) ≤ length marked
      symbol_room = row_text dot (symbol_text labels) path row 0 is h m

      pub symbol_next : {end : List ℕ} {last : ℕ} → Wrote marked end place (symbol_text labels s) last → Symbols labels path out end at (i + 1) last
      symbol_next w = row_more dot (symbol_text labels) path row 0 is h m w

-- the key paths, with a comma and a space between them
abbrev pub Set : List Label → List (List ℕ) → (out mid : List ℕ) (at i next : ℕ) → Type 0
Set labels ps = Row comma (path_text labels) ps

module _ (labels : List Label) (ps : List (List ℕ)) {n : ℕ} (counted : n ≡ length ps) where
  pub set_none : (out : List ℕ) (at : ℕ) → n ≡ 0 → at + length (paths_text labels ps) ≤ length out → Wrote out out at (paths_text labels ps) at
  set_none out at h room = wrote_is (sym (go ps (omega arith))) (wrote_none out at (omega arith))
    where
      go : (qs : List (List ℕ)) → length qs ≡ 0 → paths_text labels qs ≡ []
      go [] e = unfold paths_text joined_by in refl
      go (q ∷ qs) e = absurd (omega arith)

  module _ (some : n ≡ 0 → ⊥) where
    set_there : 0 < length ps
    set_there = omega arith

    pub set_first : {p : List ℕ} (out : List ℕ) (at : ℕ) → p ≡ get_or ps 0 [] → at + length (paths_text labels ps) ≤ length out
        → at + length (path_text labels p) ≤ length out
    unfolding paths_text
    set_first out at is room = omega (arith, row_first comma (path_text labels) ps [] is set_there)

    module _ {p : List ℕ} (is : p ≡ get_or ps 0 []) {out mid : List ℕ} {at next : ℕ} (w : Wrote out mid at (path_text labels p) next) where
      pub set_start : at + length (paths_text labels ps) ≤ length out → Set labels ps mid mid next 1 next
      unfolding paths_text
      set_start room = row_start comma (path_text labels) ps [] is set_there w room

      pub set_done : {end : List ℕ} {i last : ℕ} → Set labels ps mid end next i last → n ≤ i → Wrote out end at (paths_text labels ps) last
      unfolding paths_text
      set_done row h = row_done comma (path_text labels) ps [] is set_there w row (omega arith)

  module _ {out mid : List ℕ} {at i next : ℕ} (row : Set labels ps out mid at i next) (h : i < n) where
    within : i < length ps
    within = omega arith

    pub comma_room : next + 2 ≤ length mid
    comma_room = row_mark comma (path_text labels) ps row [] refl within

    module _ {p : List ℕ} (is : p ≡ get_or ps i []) {marked : List ℕ} {place : ℕ} (m : Wrote mid marked next (44 ∷ 32 ∷ []) place) where
      pub set_room : place + length (path_text labels p) ≤ length marked
      set_room = row_text comma (path_text labels) ps row [] is within m

      pub set_next : {end : List ℕ} {last : ℕ} → Wrote marked end place (path_text labels p) last → Set labels ps out end at (i + 1) last
      set_next w = row_more comma (path_text labels) ps row [] is within m w
