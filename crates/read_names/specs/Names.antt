-- Where the first name of a list ends, and how many names there are.
use Rattle.std.specs.Prelude.{ℕ, suc, ◌+◌, ◌<◌, ◌≤◌, ◌≡◌, refl, Bool, true, false, not, cond, Option, None, Some, List, [], ◌∷◌, length, take, drop, eqb, nat_lt}
use Rattle.std.specs.List.{position, position_or_len}
use Rattle.std.proofs.Common.{sym, ◌∙◌, ap, arith, add-one, ltb-true, drop_of_length-le}
use Rattle.std.proofs.lemmas.Bool.{ltb-false}
use Rattle.std.proofs.lemmas.List.{take_all}
use Rattle.meaning.specs.Campaign.{names_in}
use Rattle.theory_campaign.specs.Listings.{first_name, after_name, names_none, names_step, after_shorter}

abbrev pub is_newline : ℕ → Bool
is_newline b = eqb b 10

one-add : (n : ℕ) → 1 + n ≡ suc n
one-add n = omega arith

-- the first newline ends the first name
first_at : (l : List ℕ) → take (position_or_len is_newline l) l ≡ first_name l
unfolding first_name
first_at [] = refl
first_at (b ∷ l) = go (eqb b 10) (first_at l)
  where
    go : (c : Bool) → take (position_or_len is_newline l) l ≡ first_name l → take (cond (not c) (1 + position_or_len is_newline l) 0) (b ∷ l) ≡ cond c [] (b ∷ first_name l)
    go true e = refl
    go false e = rw one-add (ap (λ (x : List ℕ). b ∷ x) e)

after_at : (l : List ℕ) → drop (suc (position_or_len is_newline l)) l ≡ after_name l
unfolding after_name
after_at [] = refl
after_at (b ∷ l) = go (eqb b 10) (after_at l)
  where
    go : (c : Bool) → drop (suc (position_or_len is_newline l)) l ≡ after_name l → drop (suc (cond (not c) (1 + position_or_len is_newline l) 0)) (b ∷ l) ≡ cond c l (after_name l)
    go true e = refl
    go false e = rw one-add e

module _ (l : List ℕ) {r : Option ℕ} (told : r ≡ position is_newline l) where
  module _ {i : ℕ} (e : r ≡ Some i) where
    place : (position_or_len is_newline l < length l) × (i ≡ position_or_len is_newline l)
    place = at (nat_lt (position_or_len is_newline l) (length l)) refl (sym told ∙ e)
      where
        at : (b : Bool) → nat_lt (position_or_len is_newline l) (length l) ≡ b → cond b (Some (position_or_len is_newline l)) None ≡ Some i
            → (position_or_len is_newline l < length l) × (i ≡ position_or_len is_newline l)
        at true q s = (ltb-true _ _ q, cc)
        at false q s = cc

    pub end_within : i < length l
    end_within = omega (arith, place)

    pub first_to : take i l ≡ first_name l
    first_to = rw (place.1) (first_at l)

    pub after_to : drop (i + 1) l ≡ after_name l
    after_to = rw (place.1, add-one) (after_at l)

  module _ (e : r ≡ None) where
    past : length l ≤ position_or_len is_newline l
    past = at (nat_lt (position_or_len is_newline l) (length l)) refl (sym told ∙ e)
      where
        at : (b : Bool) → nat_lt (position_or_len is_newline l) (length l) ≡ b → cond b (Some (position_or_len is_newline l)) None ≡ None
            → length l ≤ position_or_len is_newline l
        at true q s = cc
        at false q s = ltb-false _ _ q

    pub first_all : l ≡ first_name l
    first_all = sym (take_all _ l past) ∙ first_at l

    pub after_none : [] ≡ after_name l
    after_none = sym (drop_of_length-le l {i = suc (position_or_len is_newline l)} (omega (arith, past))) ∙ after_at l

-- so many names are read, and the rest has the others
pub record Read (list rest : List ℕ) (count : ℕ) : Type 0 where
  pub sum : count + length (names_in rest) ≡ length (names_in list)

pub read_start : (list : List ℕ) → Read list list 0
read_start list = record { sum = omega arith }

pub read_more : {list rest next : List ℕ} {count : ℕ} → Read list rest count → 0 < length rest → next ≡ after_name rest → Read list next (count + 1)
read_more {list} {rest} {next} {count} r h e =
    let s = ap length (names_step rest h) in
    let f = ap (λ (l : List ℕ). length (names_in l)) e in
    let q = r.sum in
    record { sum = omega arith }

pub read_all : {list rest : List ℕ} {count : ℕ} → Read list rest count → length rest ≤ 0 → count ≡ length (names_in list)
read_all {list} {rest} {count} r h = go rest h r.sum
  where
    go : (l : List ℕ) → length l ≤ 0 → count + length (names_in l) ≡ length (names_in list) → count ≡ length (names_in list)
    go [] k q = let e = ap length names_none in omega arith
    go (b ∷ l) k q = absurd (omega arith)

-- fewer names than bytes are left over
pub read_few : {list rest : List ℕ} {count : ℕ} → Read list rest count → 0 < length rest → count < length (names_in list)
read_few {list} {rest} r h = let s = ap length (names_step rest h) in let q = r.sum in omega arith

pub next_shorter : (rest next : List ℕ) → 0 < length rest → next ≡ after_name rest → length next < length rest
next_shorter rest next h e = let s = after_shorter rest h in let f = ap length e in omega arith
