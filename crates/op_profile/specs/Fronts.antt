-- Copying to the front of a buffer, and the body of the record at the front of some bytes.
use Rattle.std.specs.Prelude.{ℕ, ◌-◌, ◌<◌, ◌≡◌, List, [], length, take, drop}
use Rattle.std.proofs.Common.{sym, ◌∙◌, ap, arith, length-drop, drop_of_length-le, take_all}
use Rattle.std.proofs.Math.Seq.{take-nil}
use Rattle.meaning.specs.Records.{word, record_length, record_body}

-- the body of the record at the front, where the bytes are too few, too short, or whole
pub front_few : (l : List ℕ) → length l < 4 → record_body l ≡ []
unfolding record_body
front_few l h = ap (take (record_length l - 4)) (drop_of_length-le l {i = 4} (omega arith)) ∙ take-nil (record_length l - 4)

pub front_short : (l : List ℕ) (n : ℕ) → n ≡ word l 0 → n < 4 → [] ≡ record_body l
unfolding record_body record_length
front_short l n e h = let z : 0 ≡ word l 0 - 4 = omega arith in ap (λ (k : ℕ). take k (drop 4 l)) z

pub front_cut : (l : List ℕ) (n : ℕ) → n ≡ word l 0 → length l < n → drop 4 l ≡ record_body l
unfolding record_body record_length
front_cut l n e h = sym (take_all (word l 0 - 4) (drop 4 l) (rw length-drop (omega arith)))
