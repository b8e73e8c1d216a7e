-- The place behind a record, and stepping from record to record: a law for each return of the code.
use Prim.Native.Nat.{ℕ, zero, suc, ◌+◌, ◌-◌, ◌<◌, ◌≤◌, min}
use Rattle.std.specs.Prelude.{◌≡◌, refl, List, [], ◌∷◌, length, get_or, take, drop, Option, None, Some, Bool, true, false, not}
use Rattle.std.specs.Option.{MatchOption, is_some}
use denote.Ref.{Bor}
use Rattle.std.proofs.Math.Path.{sym}
use Rattle.std.proofs.Common.{ap, ◌∙◌, sub-one, drop-drop}
use Rattle.std.proofs.lemmas.Bool.{false≢true}
use Rattle.std.proofs.Math.Nat.{zero-min, suc-min-suc}
use native.Mathlib.Omega.{arith}
use Rattle.std.proofs.Math.ListN.{length-drop}
use Rattle.std.proofs.Math.Seq.{drop-nil}
use borrow.Author.Rules.{part_to_end}
use Rattle.meaning.specs.Records.{word, record_length}
use Rattle.meaning.specs.Operations.{records_from}

pub length_none : (l : List ℕ) → length l ≡ 0 → 0 ≡ record_length l
unfolding record_length word
length_none [] e = refl
length_none (b ∷ l) e = absurd (omega arith)

pub length_one : (l : List ℕ) → length l ≡ 1 → {r : ℕ} → r ≡ get_or l 0 0 → r ≡ record_length l
unfolding record_length word
length_one [] e h = absurd (omega arith)
length_one (a ∷ []) e h = omega arith
length_one (a ∷ b ∷ l) e h = absurd (omega arith)

pub length_two : (l : List ℕ) {r : ℕ} → r ≡ word l 0 → r ≡ record_length l
unfolding record_length
length_two l h = h

-- The place behind the record that stands at a place of an input: so many bytes further as its length says, and at most at the end
unfoldable pub place_after : List ℕ → ℕ → ℕ
place_after s at = at + min (record_length (drop at s)) (length (drop at s))

-- One record is passed, or none where the place does not move
abbrev pub Passes : List ℕ → ℕ → Option (Bor (List ℕ)) → ℕ → Type 0
Passes s at r after =
    (after ≡ place_after s at) × MatchOption r (after ≡ at) (λ x. (at < after) × (x.now ≡ take (after - at) (drop at s)))

-- No more is passed by a length that says more than there is
drop_at_most : (n : ℕ) (l : List ℕ) → drop (min n (length l)) l ≡ drop n l
drop_at_most zero l = ap (λ (k : ℕ). drop k l) (zero-min (length l))
drop_at_most (suc n) [] = drop-nil (min (suc n) (length {A = ℕ} []))
drop_at_most (suc n) (x ∷ l) = ap (λ (k : ℕ). drop k (x ∷ l)) (suc-min-suc n (length l)) ∙ drop_at_most n l

module _ (s : List ℕ) (at : ℕ) where
  pub after_end : length s ≤ at → at ≡ place_after s at
  unfolding place_after
  after_end h = omega (arith, length-drop at s)

  module _ {whole : ℕ} (said : whole ≡ record_length (take (length s - at) (drop at s))) where
    is : whole ≡ record_length (drop at s)
    is = said ∙ ap record_length (part_to_end s at)

    pub after_past : at < length s → length s - at < whole → length s ≡ place_after s at
    unfolding place_after
    after_past h past = omega (arith, length-drop at s, is)

    pub after_next : at < length s → whole ≤ length s - at → at + whole ≡ place_after s at
    unfolding place_after
    after_next h fits = omega (arith, length-drop at s, is)

  after_within : at ≤ length s → place_after s at ≤ length s
  unfolding place_after
  after_within h = omega (arith, length-drop at s)

  -- a step that moves stays within the input
  pub after_moves : {after : ℕ} → after ≡ place_after s at → (after ≡ at → ⊥) → (at < after) × (after ≤ length s)
  unfolding place_after
  after_moves e n = (omega (arith, length-drop at s), omega (arith, length-drop at s))

  after_drops : drop (place_after s at) s ≡ drop (record_length (drop at s)) (drop at s)
  unfolding place_after
  after_drops = sym (drop-drop _ at s) ∙ drop_at_most (record_length (drop at s)) (drop at s)

-- So many records are left to pass from this place of the input; w is what stands behind them
pub record Steps (left at : ℕ) (input w : List ℕ) : Type 0 where
  pub here : records_from left (drop at input) ≡ w
  pub within : at ≤ length input

pub steps_start : (n : ℕ) (input : List ℕ) → Steps n 0 input (records_from n input)
steps_start n input = record { here = refl; within = omega arith }

stays : (n : ℕ) (l : List ℕ) → drop (record_length l) l ≡ l → l ≡ records_from n l
unfolding records_from
stays zero l e = refl
stays (suc n) l e = rw e (stays n l e)

module _ {left at : ℕ} {input w : List ℕ} (s : Steps left at input w) where
  pub steps_done : left ≤ 0 → take (length input - at) (drop at input) ≡ w
  unfolding records_from
  steps_done h = let e : left ≡ 0 = omega arith in part_to_end input at ∙ (rw e at s.here)

  module _ {src : List ℕ} (same : src ≡ input) (r : Option (Bor (List ℕ))) {after : ℕ} (p : Passes src at r after) where
    place : after ≡ place_after input at
    place = rw same at p.0

    -- A step that does not move: no record passes it
    pub steps_stay : {none-left : Bool} → is_some r ≡ not none-left → none-left ≡ true → take (length input - after) (drop after input) ≡ w
    steps_stay told t =
        let e = stood r (told ∙ ap not t) p.1 in
        part_to_end input after
        ∙ (ap (λ (k : ℕ). drop k input) e
        ∙ (stays left (drop at input) (sym (after_drops input at) ∙ ap (λ (k : ℕ). drop k input) (sym place ∙ e)) ∙ s.here))
      where
        stood : (r : Option (Bor (List ℕ))) → is_some r ≡ false
            → MatchOption r (after ≡ at) (λ x. (at < after) × (x.now ≡ take (after - at) (drop at src))) → after ≡ at
        stood None e m = m
        stood (Some x) e m = absurd (false≢true (sym e))

    pub steps_next : 0 < left → Steps (left - 1) after input w
    unfolding records_from
    steps_next h = go left h s.here
      where
        go : (m : ℕ) → 0 < m → records_from m (drop at input) ≡ w → Steps (m - 1) after input w
        go zero h t = absurd (omega arith)
        go (suc m) h t = record { here = rw (place, after_drops input at, sub-one) t; within = rw place (after_within input at s.within) }
