-- A scan of a run of bytes from the front: what a definition says of the whole, it says of what is left after the bytes passed.
use Rattle.std.specs.Prelude.{ℕ, suc, ◌+◌, ◌<◌, ◌≤◌, ◌≡◌, refl, Bool, true, false, ◌&&◌, not, List, [], ◌∷◌, eqb, length, get_or, drop}
use Rattle.std.proofs.Math.Path.{sym}
use Rattle.std.proofs.Common.{ap, ◌∙◌, add-one, arith, drop-cons}
use Rattle.std.proofs.Math.ListN.{drop_of_length-le}
use borrow.Author.Tests.{eq-eqb, ne_eqb, not-true, not-false}
use Rattle.meaning.specs.Lists.{every, same}

-- what is left at a member is that member and what is left behind it
pub drop_step : {A : Type 0} (d : A) (l : List A) (i : ℕ) → i < length l → drop i l ≡ get_or l i d ∷ drop (i + 1) l
drop_step d l i h = rw add-one (drop-cons l i d h)

-- A scan for f stands at member i of l (d: a default, 0 for bytes and the empty path for paths); w is what is asked of the whole.
pub record Scan {A : Type 0} (d : A) (f : A → Bool) (l : List A) (i : ℕ) (w : Bool) : Type 0 where
  pub within : i ≤ length l
  pub rest : every f (drop i l) ≡ w

pub scan_start : {A : Type 0} (d : A) (f : A → Bool) (l : List A) → Scan d f l 0 (every f l)
scan_start d f l = record { within = omega arith; rest = refl }

module _ {A : Type 0} {d : A} {f : A → Bool} {l : List A} {i : ℕ} {w : Bool} (s : Scan d f l i w) where
  pub scan_next : i < length l → {r : Bool} → r ≡ f (get_or l i d) → not r ≡ false → Scan d f l (i + 1) w
  unfolding every
  scan_next h e t = record { within = omega arith; rest = rw (drop_step d l i h, sym e ∙ not-false _ t) at s.rest }

  pub scan_stop : i < length l → {r : Bool} → r ≡ f (get_or l i d) → not r ≡ true → false ≡ w
  unfolding every
  scan_stop h e t = rw (drop_step d l i h, sym e ∙ not-true _ t) at s.rest

  pub scan_end : length l ≤ i → true ≡ w
  unfolding every
  scan_end h = rw (drop_of_length-le l h) at s.rest

-- Two runs of one length, side by side.
pub record Pair (a b : List ℕ) (i : ℕ) (w : Bool) : Type 0 where
  pub within : i ≤ length a
  pub lengths : length a ≡ length b
  pub rest : same (drop i a) (drop i b) ≡ w

pub pair_start : (a b : List ℕ) → length a ≡ length b → Pair a b 0 (same a b)
pair_start a b e = record { within = omega arith; lengths = e; rest = refl }

module _ {a b : List ℕ} {i : ℕ} {w : Bool} (s : Pair a b i w) where
  pub pair_next : i < length a → get_or a i 0 ≡ get_or b i 0 → Pair a b (i + 1) w
  unfolding same
  pair_next h e =
      record {
        within = omega arith;
        lengths = s.lengths;
        rest = rw (drop_step 0 a i h, drop_step 0 b i (omega arith), eq-eqb (get_or a i 0) (get_or b i 0) e) at s.rest;
      }

  pub pair_stop : i < length a → (get_or a i 0 ≡ get_or b i 0 → ⊥) → false ≡ w
  unfolding same
  pair_stop h e = rw (drop_step 0 a i h, drop_step 0 b i (omega arith), ne_eqb (get_or a i 0) (get_or b i 0) e) at s.rest

  pub pair_end : length a ≤ i → true ≡ w
  unfolding same
  pair_end h = rw (drop_of_length-le a h, drop_of_length-le b {i = i} (omega arith)) at s.rest

pub same_lengths : (a b : List ℕ) → (length a ≡ length b → ⊥) → same a b ≡ false
unfolding same
same_lengths [] [] n = absurd (n refl)
same_lengths [] (y ∷ b) n = refl
same_lengths (x ∷ a) [] n = refl
same_lengths (x ∷ a) (y ∷ b) n = go (eqb x y) (same_lengths a b (λ e. n (ap suc e)))
  where
    go : (t : Bool) → same a b ≡ false → (t && same a b) ≡ false
    go true e = e
    go false e = refl
