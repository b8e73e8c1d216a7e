-- The numbers of both copies: apart, in order, and on their side of the cut.
use Rattle.std.specs.Prelude.{ℕ, ◌+◌, ◌≤◌, ◌<◌, ◌≡◌, refl}
use Rattle.std.proofs.Common.{sym, ◌∙◌}
use mathlib.Core.Bool.{Bool, true, false}
use native.Mathlib.Omega.{arith}
use Rattle.std.proofs.Math.Decide.{dec_lt}
use Rattle.meaning.specs.Paths.{Class}
use Rattle.meaning.specs.Trees.{Table}
use Rattle.theory_counter.specs.Doubled.{Stands}
use Rattle.theory_counter.specs.Places.{bit, number_of, shift_trunk, shift_below, shift_first, Placing, place_above, place_apart, place_below, place_within}

module _ {κ : ℕ → Class} {p : Table} {u : ℕ} {place : ℕ → ℕ} {cut gap : ℕ} (P : Placing κ p u place cut gap) where
  -- In the trunk or the first copy the number is the place; in the second copy it is `gap` further on
  pub number_trunk : (s : Bool) (x : ℕ) (f : Bool) → x ≤ u → number_of place u gap s x f ≡ place x + bit f
  unfolding number_of
  number_trunk s x f h = let e = shift_trunk u gap s x h in omega arith

  pub number_first : (x : ℕ) (f : Bool) → number_of place u gap false x f ≡ place x + bit f
  unfolding number_of
  number_first x f = let e = shift_first u gap x in omega arith

  pub number_second : (x : ℕ) (f : Bool) → u < x → number_of place u gap true x f ≡ place x + bit f + gap
  unfolding number_of
  number_second x f h = let e = shift_below u gap true x h in omega arith

  -- one of the two
  data Sides (s : Bool) (x : ℕ) (f : Bool) : Type 0 where
    once : number_of place u gap s x f ≡ place x + bit f → (u < x → s ≡ false) → Sides s x f
    twice : u < x → s ≡ true → number_of place u gap s x f ≡ place x + bit f + gap → Sides s x f

  sides : (s : Bool) (x : ℕ) (f : Bool) → Sides s x f
  sides false x f = once (number_first x f) (λ h. refl)
  sides true x f = go (dec_lt u x)
    where
      go : Dec (u < x) → Sides true x f
      go (yes h) = twice h refl (number_second x f h)
      go (no h) = once (number_trunk true x f (omega arith)) (λ k. absurd (h k))

  pub number_apart : {s s' : Bool} {x x' : ℕ} {f f' : Bool} → Stands κ p x f → Stands κ p x' f'
      → number_of place u gap s x f ≡ number_of place u gap s' x' f' → (x ≡ x') × (f ≡ f') × (u < x → s ≡ s')
  number_apart {s} {s'} {x} {x'} {f} {f'} a b e = go (sides s x f) (sides s' x' f')
    where
      go : Sides s x f → Sides s' x' f' → (x ≡ x') × (f ≡ f') × (u < x → s ≡ s')
      go (once q l) (once q' l') =
          let r = place_apart P a b (omega arith) in
          let i = r.0 in
          (r.0, r.1, λ h. l h ∙ sym (l' (omega arith)))
      go (twice h m q) (twice h' m' q') =
          let r = place_apart P a b (omega arith) in
          (r.0, r.1, λ k. m ∙ sym m')
      go (once q l) (twice h' m' q') =
          absurd
          (let w = place_within P a in
          let c = place_below P x' h' b.inside in
          omega arith)
      go (twice h m q) (once q' l') =
          absurd
          (let w = place_within P b in
          let c = place_below P x h a.inside in
          omega arith)

  pub number_above : (s : Bool) (x y : ℕ) (f g : Bool) → x < y → Stands κ p x f → Stands κ p y g
      → number_of place u gap s x f < number_of place u gap s y g
  number_above s x y f g l a b = go (sides s x f) (sides s y g)
    where
      go : Sides s x f → Sides s y g → number_of place u gap s x f < number_of place u gap s y g
      go (once q m) (once q' m') = let r = place_above P l a b in omega arith
      go (once q m) (twice h' m' q') = let r = place_above P l a b in omega arith
      go (twice h m q) (twice h' m' q') = let r = place_above P l a b in omega arith
      go (twice h m q) (once q' m') = absurd (wrong (sym m ∙ m' (omega arith)))
        where
          wrong : true ≡ false → ⊥
          wrong e = mathlib.Core.Bool.true≢false e

  pub number_within : (s : Bool) {x : ℕ} {f : Bool} → Stands κ p x f → number_of place u gap s x f < cut + gap + gap
  number_within s {x} {f} a = go (sides s x f)
    where
      go : Sides s x f → number_of place u gap s x f < cut + gap + gap
      go (once q m) = let w = place_within P a in omega arith
      go (twice h m q) = let w = place_within P a in omega arith
