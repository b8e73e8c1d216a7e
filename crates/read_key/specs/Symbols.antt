-- Symbols and paths by the class table: what the code's tests say, return by return.
use Rattle.std.specs.Prelude.{ℕ, zero, suc, ◌+◌, ◌-◌, ◌<◌, ◌≤◌, ◌≡◌, Bool, ◌&&◌, not, List, [], ◌∷◌, eqb, length, get_or, drop}
use Rattle.std.proofs.Math.Path.{refl, sym}
use Rattle.std.proofs.Common.{ap, ◌∙◌, arith, length-drop}
use Rattle.std.proofs.Math.Bool.{true, false}
use Rattle.std.proofs.Math.Dec.{eqb-suc-zero}
use borrow.Author.Tests.{le-leb, lt-leb, eq-eqb, ne_eqb, not-true, not-false}
use Rattle.meaning.specs.Limits.{KeyLimits}
use Rattle.meaning.specs.Lists.{every}
use Rattle.meaning.specs.Paths.{normal, simple}
use Rattle.meaning.specs.Keys.{Key}
use Rattle.read_record.specs.Classes.{declared_by, is_symbol_by, good_path_by, good_symbols_by}
use Rattle.read_record.specs.Scans.{drop_step}

abbrev pub limits_of : ℕ → ℕ → ℕ → KeyLimits
limits_of symbols path_symbols paths = record { symbols = symbols; path_symbols = path_symbols; paths = paths }

-- a key path's own test
unfoldable pub good_key_path : List ℕ → ℕ → List ℕ → Bool
good_key_path classes limit p = good_path_by classes limit p && simple p

module _ (classes : List ℕ) (s : ℕ) where
  pub symbol_any : s ≡ 0 → true ≡ is_symbol_by classes s
  unfolding is_symbol_by
  symbol_any e = rw (eq-eqb s 0 e)

  pub symbol_text_lem : s ≡ 1 → true ≡ is_symbol_by classes s
  unfolding is_symbol_by
  symbol_text_lem e = rw e

  pub symbol_declared : (s ≡ 0 → ⊥) → (s ≡ 1 → ⊥) → {n : ℕ} → n ≡ s → not (eqb (get_or classes n 0) 0) ≡ is_symbol_by classes s
  unfolding is_symbol_by declared_by
  symbol_declared a b e = rw (ne_eqb s 0 a, ne_eqb s 1 b, e)

-- the test for normal form stands at symbol i
pub record NormalAt (p : List ℕ) (i : ℕ) (w : Bool) : Type 0 where
  pub within : i ≤ length p
  pub rest : normal (drop i p) ≡ w

normal_two : (x y : ℕ) (q : List ℕ) → (eqb x 0 && eqb y 0) ≡ false → normal (x ∷ y ∷ q) ≡ normal (y ∷ q)
unfolding normal
normal_two zero zero q e = absurd (let z : ◌≡◌ {A = ℕ} 0 1 = cc in omega arith)
normal_two zero (suc y) q e = refl
normal_two (suc x) y q e = refl

normal_doubled : (x y : ℕ) (q : List ℕ) → (eqb x 0 && eqb y 0) ≡ true → normal (x ∷ y ∷ q) ≡ false
unfolding normal
normal_doubled zero zero q e = refl
normal_doubled zero (suc y) q e = absurd (let f : false ≡ true = (rw (eqb-suc-zero y) at e) in let z : ◌≡◌ {A = ℕ} 0 1 = cc in omega arith)
normal_doubled (suc x) y q e = absurd (let f : false ≡ true = (rw (eqb-suc-zero x) at e) in let z : ◌≡◌ {A = ℕ} 0 1 = cc in omega arith)

normal_short : (q : List ℕ) → length q ≤ 1 → normal q ≡ true
unfolding normal
normal_short [] h = refl
normal_short (zero ∷ []) h = refl
normal_short (suc x ∷ []) h = refl
normal_short (zero ∷ y ∷ q) h = absurd (omega arith)
normal_short (suc x ∷ y ∷ q) h = absurd (omega arith)

-- the test for normal form has come to symbol i, and compares it with the one before
module _ {p : List ℕ} {i : ℕ} {w : Bool} (s : NormalAt p (i - 1) w) (low : 1 ≤ i) where
  pair : i < length p → drop (i - 1) p ≡ get_or p (i - 1) 0 ∷ get_or p i 0 ∷ drop (i + 1) p
  pair h =
      let e : i - 1 + 1 ≡ i = omega arith in
      drop_step 0 p (i - 1) (omega arith) ∙ ap (λ (q : List ℕ). get_or p (i - 1) 0 ∷ q) (rw e (drop_step 0 p i h))

  pub normal_next_at : i < length p → (get_or p (i - 1) 0 ≡ 0 → get_or p i 0 ≡ 0 → ⊥) → NormalAt p (i + 1 - 1) w
  normal_next_at h n =
      let e : i + 1 - 1 ≡ i = omega arith in
      rw e (record {
        within = omega arith;
        rest = ap normal (drop_step 0 p i h) ∙ sym (normal_two (get_or p (i - 1) 0) (get_or p i 0) (drop (i + 1) p) (apart (get_or p (i - 1) 0) (get_or p i 0) n)) ∙ sym (ap normal (pair h)) ∙ s.rest;
      })
    where
      apart : (x y : ℕ) → (x ≡ 0 → y ≡ 0 → ⊥) → (eqb x 0 && eqb y 0) ≡ false
      apart zero zero f = absurd (f refl refl)
      apart zero (suc y) f = eqb-suc-zero y
      apart (suc x) y f = rw (eqb-suc-zero x) refl

  pub normal_doubled_at : i < length p → get_or p (i - 1) 0 ≡ 0 → get_or p i 0 ≡ 0 → false ≡ w
  normal_doubled_at h a b =
      sym (ap normal (pair h) ∙ normal_doubled (get_or p (i - 1) 0) (get_or p i 0) (drop (i + 1) p) (rw (a, b) refl)) ∙ s.rest

pub normal_end : {p : List ℕ} {i : ℕ} {w : Bool} → NormalAt p i w → length p ≤ i + 1 → true ≡ w
normal_end {p} {i} s h = sym (normal_short (drop i p) (simp length-drop (omega arith))) ∙ s.rest

pub normal_start : (p : List ℕ) → NormalAt p 0 (normal p)
normal_start p = record { within = omega arith; rest = refl }

abbrev pub not_any : ℕ → Bool
not_any s = not (eqb s 0)

module _ (classes : List ℕ) (limit : ℕ) (p : List ℕ) where
  pub path_long : limit < length p → false ≡ good_path_by classes limit p
  unfolding good_path_by
  path_long h = rw (lt-leb (length p) limit h) (go (every (is_symbol_by classes) p && normal p))
    where
      go : (b : Bool) → false ≡ (b && false)
      go true = refl
      go false = refl

  pub path_symbol : {r : Bool} → r ≡ every (is_symbol_by classes) p → not r ≡ true → false ≡ good_path_by classes limit p
  unfolding good_path_by
  path_symbol e t = rw (sym e ∙ not-true _ t)

  pub path_normal : length p ≤ limit → {r : Bool} → r ≡ every (is_symbol_by classes) p → not r ≡ false → {n : Bool} → n ≡ normal p
      → n ≡ good_path_by classes limit p
  unfolding good_path_by
  path_normal h e t n = n ∙ (rw (le-leb (length p) limit h, sym e ∙ not-false _ t) (go (normal p)))
    where
      go : (b : Bool) → b ≡ (b && true)
      go true = refl
      go false = refl

  pub key_path_symbols : {r : Bool} → r ≡ good_path_by classes limit p → not r ≡ true → false ≡ good_key_path classes limit p
  unfolding good_key_path
  key_path_symbols e t = rw (sym e ∙ not-true _ t)

  pub key_path_simple : {r : Bool} → r ≡ good_path_by classes limit p → not r ≡ false → {n : Bool} → n ≡ simple p → n ≡ good_key_path classes limit p
  unfolding good_key_path
  key_path_simple e t n = n ∙ (rw (sym e ∙ not-false _ t))

module _ (classes : List ℕ) (symbols path_symbols : ℕ) (k : Key) where
  -- the number of paths is no matter of 4
  pub symbols_any_count : (m n : ℕ) → good_symbols_by classes (limits_of symbols path_symbols m) k ≡ good_symbols_by classes (limits_of symbols path_symbols n) k
  unfolding good_symbols_by
  symbols_any_count m n = refl

  pub symbols_context : {c : List ℕ} → c ≡ k.context → {r : Bool} → r ≡ good_path_by classes symbols c → not r ≡ true
      → false ≡ good_symbols_by classes (limits_of symbols path_symbols 0) k
  unfolding good_symbols_by
  symbols_context c e t = rw (← c, sym e ∙ not-true _ t)

  pub symbols_target : {c : List ℕ} → c ≡ k.context → {q : Bool} → q ≡ good_path_by classes symbols c → not q ≡ false
      → {g : List ℕ} → g ≡ k.target → {r : Bool} → r ≡ good_path_by classes symbols g → not r ≡ true
      → false ≡ good_symbols_by classes (limits_of symbols path_symbols 0) k
  unfolding good_symbols_by
  symbols_target c d u g e t = rw (← c, sym d ∙ not-false _ u, ← g, sym e ∙ not-true _ t)

  pub symbols_paths : {c : List ℕ} → c ≡ k.context → {q : Bool} → q ≡ good_path_by classes symbols c → not q ≡ false
      → {g : List ℕ} → g ≡ k.target → {r : Bool} → r ≡ good_path_by classes symbols g → not r ≡ false
      → {a : Bool} → a ≡ every (good_key_path classes path_symbols) k.paths → a ≡ good_symbols_by classes (limits_of symbols path_symbols 0) k
  unfolding good_symbols_by good_key_path
  symbols_paths c d u g e t a = a ∙ (rw (← c, sym d ∙ not-false _ u, ← g, sym e ∙ not-false _ t))
