-- The numbers of the dropped keys as the code has them: the first of an array of 64, and 0 behind them.
use Rattle.std.specs.Prelude.{ℕ, zero, suc, ◌+◌, ◌-◌, ◌≤◌, ◌<◌, ◌≡◌, refl, Bool, true, false, not, length, get_or, take, set, replicate}
use Rattle.std.proofs.Common.{sym, ◌∙◌, true≢false, arith, length-append, length-take, take_at, get_or-take, length-take-le}
use Rattle.std.proofs.Math.Path.{ap}
use Rattle.std.proofs.Math.Bool.{cond}
use mathlib.Core.List.{List, [], ◌∷◌, ◌++◌, append-nil}
use Rattle.std.proofs.Math.Option.{none, some, some-injective, none-ne-some}
use Rattle.std.proofs.Math.ListN.{get_elem?}
use Rattle.std.proofs.Math.Seq.{append_snoc}
use Rattle.std.proofs.lemmas.List.{set_at}
use Rattle.meaning.specs.Lists.{keep, numbers}
use Rattle.meaning.specs.Reduction.{dropped_numbers}
use Rattle.theory_lists.specs.Lists.{at_get_d}
use Rattle.theory_reduce.specs.StayingKeys.{dropped_next}

pub record Listed (array : List ℕ) (count : ℕ) (v : List ℕ) : Type 0 where
  pub counted : count ≡ length v
  pub few : length v ≤ 64
  pub are : array ≡ v ++ replicate (64 - length v) 0

pub listed_none : Listed (replicate 64 0) 0 []
listed_none = record { counted = refl; few = omega arith; are = refl }

module _ {array : List ℕ} {count : ℕ} {v : List ℕ} (l : Listed array count v) where
  -- one number more
  pub listed_more : (n : ℕ) → length v < 64 → Listed (set array count n) (count + 1) (v ++ (n ∷ []))
  listed_more n room =
      let c = l.counted in
      let size = length-append v (n ∷ []) in
      let split : 64 - length v ≡ suc (64 - length (v ++ (n ∷ []))) = omega arith in
      let zeros : List ℕ = replicate (64 - length (v ++ (n ∷ []))) 0 in
      record {
        counted = omega arith;
        few = omega arith;
        are =
            ap (λ (x : List ℕ). set x count n) (l.are ∙ ap (λ (m : ℕ). v ++ replicate m 0) split)
            ∙ (set_at v 0 zeros n count (sym c) ∙ sym (append_snoc v n zeros));
      }

  pub listed_take : take count array ≡ v
  listed_take = ap (take count) l.are ∙ take_at v (replicate (64 - length v) 0) count (sym l.counted)

  -- every number of the array is fixed
  pub listed_zeros : array ≡ take count array ++ replicate (64 - count) 0
  listed_zeros =
      let c = l.counted in
      l.are ∙ (ap (λ (m : ℕ). v ++ replicate (64 - m) 0) (sym c) ∙ ap (λ (x : List ℕ). x ++ replicate (64 - count) 0) (sym listed_take))

-- those of the first n keys that are dropped
unfoldable pub dropped_below : List Bool → ℕ → List ℕ
dropped_below flags n = keep (λ (m : ℕ). not (get_or flags m true)) (numbers n 0)

keep_few : (f : ℕ → Bool) (count from : ℕ) → length (keep f (numbers count from)) ≤ count
unfolding keep numbers
keep_few f zero from = omega arith
keep_few f (suc count) from = go (f from) (keep f (numbers count (suc from))) (keep_few f count (suc from))
  where
    go : (b : Bool) (rest : List ℕ) → length rest ≤ count → length (cond b (from ∷ rest) rest) ≤ suc count
    go true rest h = omega arith
    go false rest h = omega arith

pub dropped_few : (flags : List Bool) (n : ℕ) → length (dropped_below flags n) ≤ n
unfolding dropped_below
dropped_few flags n = keep_few (λ (m : ℕ). not (get_or flags m true)) n 0

-- the flag of key n, in the array and among those that count
pub flag_is : (stays : List Bool) (k n : ℕ) → n < k → k ≤ length stays → get_or (take k stays) n true ≡ get_or stays n false
flag_is stays k n h room = get_or-take k stays n true h ∙ in_range stays n (omega arith)
  where
    in_range : (l : List Bool) (n : ℕ) → n < length l → get_or l n true ≡ get_or l n false
    in_range [] n h = absurd (omega arith)
    in_range (b ∷ l) zero h = refl
    in_range (b ∷ l) (suc n) h = in_range l n (omega arith)

module _ (stays : List Bool) (k n : ℕ) (below : n < k) (room : k ≤ length stays) where
  pub below_drops : get_or stays n false ≡ false → dropped_below (take k stays) (suc n) ≡ dropped_below (take k stays) n ++ (n ∷ [])
  unfolding dropped_below
  below_drops e =
      dropped_next (take k stays) n
      ∙ ap (λ (b : Bool). dropped_below (take k stays) n ++ cond b [] (n ∷ [])) (flag_is stays k n below room ∙ e)

  pub below_keeps : get_or stays n false ≡ true → dropped_below (take k stays) (suc n) ≡ dropped_below (take k stays) n
  unfolding dropped_below
  below_keeps e =
      dropped_next (take k stays) n
      ∙ (ap (λ (b : Bool). dropped_below (take k stays) n ++ cond b [] (n ∷ [])) (flag_is stays k n below room ∙ e)
      ∙ append-nil (dropped_below (take k stays) n))

pub below_all : (stays : List Bool) (k : ℕ) → k ≤ length stays → dropped_below (take k stays) k ≡ dropped_numbers (take k stays)
unfolding dropped_below dropped_numbers
below_all stays k room = ap (dropped_below (take k stays)) (sym (length-take-le k stays room))

-- whether key n is dropped
at_none : {A : Type 0} (l : List A) (n : ℕ) → length l ≤ n → get_elem? l n ≡ none
at_none [] n h = refl
at_none (x ∷ l) zero h = absurd (omega arith)
at_none (x ∷ l) (suc n) h = at_none l n (omega arith)

pub flag_beyond : (stays : List Bool) (k n : ℕ) → k ≤ n → get_elem? (take k stays) n ≡ some false → ⊥
flag_beyond stays k n h e =
    none-ne-some false (sym (at_none (take k stays) n (omega (arith, length-take k stays))) ∙ e)

module _ (stays : List Bool) (k n : ℕ) (below : n < k) (room : k ≤ length stays) where
  flag_at : get_elem? (take k stays) n ≡ some (get_or stays n false)
  flag_at =
      at_get_d (take k stays) n true (omega (arith, length-take k stays)) ∙ ap some (flag_is stays k n below room)

  pub flag_gone : get_or stays n false ≡ false → get_elem? (take k stays) n ≡ some false
  flag_gone e = flag_at ∙ ap some e

  pub flag_there : get_or stays n false ≡ true → get_elem? (take k stays) n ≡ some false → ⊥
  flag_there e q = true≢false (some-injective true false (ap some (sym e) ∙ (sym flag_at ∙ q)))
