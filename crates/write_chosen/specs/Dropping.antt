-- The numbers of the dropped keys: what the loop keeps, and what is asked of one key.
use Rattle.std.specs.Prelude.{ℕ, suc, ◌+◌, ◌≤◌, ◌<◌, ◌≡◌, Bool, ◌&&◌, List, [], length, take, set}
use Rattle.std.proofs.Math.Path.{refl, subst}
use Rattle.std.proofs.Common.{sym, ap, ◌∙◌, add-one, arith}
use Rattle.std.proofs.Math.Bool.{true, false, not, true≢false}
use Rattle.std.proofs.Math.Option.{some}
use Rattle.std.proofs.Math.Dec.{ltb}
use borrow.Author.Tests.{lt-ltb, le-ltb, ltb-true, ltb-false}
use Rattle.std.proofs.Math.ListN.{get_or, get_elem?}
use Rattle.meaning.specs.Lists.{keep, numbers}
use Rattle.meaning.specs.Reduction.{dropped_numbers}
use Rattle.theory_reduce.specs.Numbers.{Listed, listed_more, dropped_below, dropped_few, below_drops, below_keeps, below_all, flag_beyond, flag_gone, flag_there}
use Rattle.write_chosen.specs.declared.numbers.Dropped.{Dropped}

-- one number, where its key does not stay
unfoldable pub number_if : Dropped → ℕ → Bool → Dropped
number_if d n true = d
number_if d n false = record { numbers = set d.numbers d.count n; count = d.count + 1 }

abbrev pub NumberIf : Dropped → ℕ → Bool → Dropped → Type 0
NumberIf d n stays r = r ≡ number_if d n stays

pub number_not : (d : Dropped) (n : ℕ) (stays : Bool) → stays ≡ true → d ≡ number_if d n stays
unfolding number_if
number_not d n stays e = rw e refl

pub number_one : (d : Dropped) (n : ℕ) (stays : Bool) → stays ≡ false
    → record { numbers = set d.numbers d.count n; count = d.count + 1 } ≡ number_if d n stays
unfolding number_if
number_one d n stays e = rw e refl

-- after n keys
pub record Numbering (keys : ℕ) (stays : List Bool) (d : Dropped) (n : ℕ) : Type 0 where
  pub within : n ≤ keys
  pub listed : Listed d.numbers d.count (dropped_below (take keys stays) n)

pub numbering_start : (keys : ℕ) (stays : List Bool) → {d : Dropped} → Listed d.numbers d.count [] → Numbering keys stays d 0
unfolding dropped_below numbers keep
numbering_start keys stays l = record { within = omega arith; listed = l }

module _ {keys : ℕ} (few : keys ≤ 64) {stays : List Bool} (long : length stays ≡ 64) {d : Dropped} {n : ℕ} (g : Numbering keys stays d n) where
  pub numbering_count : n < keys → d.count < 64
  numbering_count h = omega (arith, g.listed.counted, dropped_few (take keys stays) n)

  pub numbering_next : n < keys → {b : Bool} → b ≡ get_or stays n false → {r : Dropped} → r ≡ number_if d n b → Numbering keys stays r (n + 1)
  unfolding number_if
  numbering_next h {b} flag {r} e =
      record {
        within = omega arith;
        listed =
            subst (λ (x : Dropped). Listed x.numbers x.count (dropped_below (take keys stays) (n + 1))) (sym e)
            (subst (λ (m : ℕ). Listed (number_if d n b).numbers (number_if d n b).count (dropped_below (take keys stays) m)) (sym (add-one n)) (go b (sym flag)));
      }
    where
      go : (b : Bool) → get_or stays n false ≡ b → Listed (number_if d n b).numbers (number_if d n b).count (dropped_below (take keys stays) (suc n))
      go true q =
          subst (Listed d.numbers d.count) (sym (below_keeps stays keys n h (omega arith) q)) g.listed
      go false q =
          subst (Listed (set d.numbers d.count n) (d.count + 1)) (sym (below_drops stays keys n h (omega arith) q))
          (listed_more g.listed n (omega (arith, dropped_few (take keys stays) n)))

  pub numbering_end : keys ≤ n → Listed d.numbers d.count (dropped_numbers (take keys stays))
  numbering_end h =
      let same : n ≡ keys = (let w = g.within in omega arith) in
      subst (Listed d.numbers d.count) (ap (dropped_below (take keys stays)) same ∙ below_all stays keys (omega arith)) g.listed

-- key n is there and does not stay
unfoldable pub is_gone : ℕ → List Bool → ℕ → Bool
is_gone keys stays n = ltb n keys && not (get_or stays n false)

pub gone_beyond : (keys : ℕ) (stays : List Bool) (n : ℕ) → keys ≤ n → false ≡ is_gone keys stays n
unfolding is_gone
gone_beyond keys stays n h = rw (le-ltb n keys h) refl

pub gone_not_there : (keys : ℕ) (stays : List Bool) (n : ℕ) → keys ≤ n → ltb n keys ≡ is_gone keys stays n
gone_not_there keys stays n h = le-ltb n keys h ∙ gone_beyond keys stays n h

pub gone_told : (keys : ℕ) (stays : List Bool) (n : ℕ) → n < keys → not (get_or stays n false) ≡ is_gone keys stays n
unfolding is_gone
gone_told keys stays n h = rw (lt-ltb n keys h) refl

-- what it says of the flags that count
module _ (keys : ℕ) (stays : List Bool) (n : ℕ) (room : keys ≤ length stays) where
  pub gone_says : is_gone keys stays n ≡ true → (n < keys) × (get_elem? (take keys stays) n ≡ some false)
  unfolding is_gone
  gone_says = go (ltb n keys) refl (get_or stays n false) refl
    where
      go : (x : Bool) → ltb n keys ≡ x → (y : Bool) → get_or stays n false ≡ y → x && not y ≡ true → (n < keys) × (get_elem? (take keys stays) n ≡ some false)
      go true p false q e = let h = ltb-true n keys p in (h, flag_gone stays keys n h room q)
      go true p true q e = absurd (true≢false (sym e))
      go false p y q e = absurd (true≢false (sym e))

  pub gone_not : is_gone keys stays n ≡ false → get_elem? (take keys stays) n ≡ some false → ⊥
  unfolding is_gone
  gone_not = go (ltb n keys) refl (get_or stays n false) refl
    where
      go : (x : Bool) → ltb n keys ≡ x → (y : Bool) → get_or stays n false ≡ y → x && not y ≡ false → get_elem? (take keys stays) n ≡ some false → ⊥
      go true p false q e g = true≢false e
      go true p true q e g = flag_there stays keys n (ltb-true n keys p) room q g
      go false p y q e g = flag_beyond stays keys n (ltb-false n keys p) g
