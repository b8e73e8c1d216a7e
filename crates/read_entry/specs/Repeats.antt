-- A part of a record among the records before it, read from the front: `part_used`, return by return.
use Rattle.std.specs.Prelude.{ℕ, zero, suc, ◌+◌, ◌-◌, ◌≤◌, ◌<◌, ◌≡◌, Bool, true, false, ◌||◌, List, length, take, drop}
use Rattle.std.proofs.Math.Path.{refl, sym}
use Rattle.std.proofs.Common.{ap, ◌∙◌, arith, sub-one}
use borrow.Author.Rules.{part_to_end}
use Rattle.meaning.specs.Lists.{same}
use Rattle.meaning.specs.Records.{word, record_length}
use Rattle.meaning.specs.Operations.{records_from}

-- one of the first n records has this part from `start` to its end
unfoldable pub any_record : ℕ → List ℕ → ℕ → List ℕ → Bool
any_record start part zero l = false
any_record start part (suc n) l = same (take (record_length l - start) (drop start l)) part || any_record start part n (drop (record_length l) l)

-- so many records stand at the front, none of which ends before `start`
pub data Standing (start : ℕ) : ℕ → List ℕ → Type 0 where
  none : {l : List ℕ} → Standing start 0 l
  more : {n : ℕ} {l : List ℕ} → start ≤ record_length l → record_length l ≤ length l → Standing start n (drop (record_length l) l) → Standing start (suc n) l

pub standing_more : {start n : ℕ} {l : List ℕ} → Standing start n l → start ≤ record_length (records_from n l)
    → record_length (records_from n l) ≤ length (records_from n l) → Standing start (suc n) l
unfolding records_from
standing_more none a b = more a b none
standing_more (more c d r) a b = more c d (standing_more r a b)

-- The search has so many records left; w is what is asked of the whole. The length stands before the part
pub record Search (start : ℕ) (part : List ℕ) (left : ℕ) (rest : List ℕ) (w : Bool) : Type 0 where
  pub low : 2 ≤ start
  pub records : Standing start left rest
  pub here : any_record start part left rest ≡ w

pub search_start : {start n left : ℕ} {part bytes : List ℕ} → 2 ≤ start → Standing start n bytes → left ≡ n → Search start part left bytes (any_record start part n bytes)
search_start low records e = rw e (record { low = low; records = records; here = refl })

-- the record at its front
record Front (start : ℕ) (part : List ℕ) (left : ℕ) (rest : List ℕ) (w : Bool) : Type 0 where
  room : start ≤ record_length rest
  within : record_length rest ≤ length rest
  others : Standing start (left - 1) (drop (record_length rest) rest)
  asked : same (take (record_length rest - start) (drop start rest)) part || any_record start part (left - 1) (drop (record_length rest) rest) ≡ w

search_front : {start : ℕ} {part : List ℕ} {left : ℕ} {rest : List ℕ} {w : Bool} → Search start part left rest w → 0 < left → Front start part left rest w
search_front {left = zero} s h = absurd (omega arith)
search_front {start = start} {part = part} {left = suc left} {rest = rest} {w = w} s h = go s.records
  where
    go : Standing start (suc left) rest → Front start part (suc left) rest w
    go (more a b r) = record { room = a; within = b; others = rw sub-one r; asked = rw sub-one (unfold any_record in s.here) }

pub search_done : {start : ℕ} {part : List ℕ} {left : ℕ} {rest : List ℕ} {w : Bool} → Search start part left rest w → left ≤ 0 → false ≡ w
unfolding any_record
search_done {left = zero} s h = s.here
search_done {left = suc left} s h = absurd (omega arith)

module _ {start : ℕ} {part : List ℕ} {left : ℕ} {rest : List ℕ} {w : Bool} (s : Search start part left rest w) (h : 0 < left) where
  pub search_head : 0 + 1 < length rest
  search_head = let f = search_front s h in let a = f.room in let b = f.within in let c = s.low in omega arith

  pub search_room : start ≤ word rest 0
  unfolding record_length
  search_room = (search_front s h).room

  pub search_within : word rest 0 ≤ length rest
  unfolding record_length
  search_within = (search_front s h).within

  module _ {end : ℕ} (e : end ≡ word rest 0) {r : Bool} (t : r ≡ same (take (end - start) (drop start rest)) part) where
    front_test : {b : Bool} → r ≡ b → same (take (record_length rest - start) (drop start rest)) part ≡ b
    unfolding record_length
    front_test q = sym (ap (λ (n : ℕ). same (take (n - start) (drop start rest)) part) e) ∙ (sym t ∙ q)

    pub search_found : r ≡ true → true ≡ w
    search_found q = rw (front_test q) at (search_front s h).asked

    pub search_next : r ≡ false → {fewer : ℕ} → fewer ≡ left - 1 → Search start part fewer (take (length rest - end) (drop end rest)) w
    search_next q f =
        rw (f, part_to_end rest end, e ∙ long)
        (record { low = s.low; records = (search_front s h).others; here = rw (front_test q) at (search_front s h).asked })
      where
        long : word rest 0 ≡ record_length rest
        long = unfold record_length in refl
