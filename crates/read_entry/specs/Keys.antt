-- Key records and proof lines judged by the class table, return by return; and the same by the labels.
use Rattle.std.specs.Prelude.{ℕ, ◌-◌, ◌≤◌, ◌≡◌, refl, Bool, true, false, cond, not, List, [], eqb, take, drop}
use Rattle.std.proofs.Common.{sym, ap, ◌∙◌, arith, drop-drop}
use Rattle.meaning.specs.Limits.{in_profile, in_proof}
use Rattle.meaning.specs.Records.{word, record_length, record_kind, record_body, read_key, is_some, key_in, read_line}
use Rattle.meaning.specs.Refusals.{first_of, too_many, whole}
use Rattle.read_record.specs.Classes.{key_tests_by}
use Rattle.theory_records.specs.Heads.{Passed, body_length}
use Rattle.theory_records.specs.Encodings.{ends_key, ends_line}
use Rattle.theory_records.specs.HeadTests.{head_tests, HeadPassed, head_passed, body_part}
use Rattle.read_entry.specs.Labels.{drop_take}

-- the tests of a key record after so many keys, and of a line after so many lines
unfoldable pub key_record_tests_by : List ℕ → ℕ → List ℕ → List (ℕ × Bool)
key_record_tests_by classes keys l = head_tests 2 64 keys l (key_tests_by classes in_profile (key_in (record_body l)))

unfoldable pub line_tests_by : List ℕ → ℕ → List ℕ → List (ℕ × Bool)
line_tests_by classes lines l = head_tests 4 256 lines l (key_tests_by classes in_proof (read_line (record_body l)).key)

-- the key body of a line, as it stands in the record
pub line_key_part : (l : List ℕ) {n : ℕ} → n ≡ word l 0 → take (n - 9) (drop 9 l) ≡ drop 5 (record_body l)
unfolding record_body record_length
line_key_part l {n} e =
    ap (λ (m : ℕ). take (m - 9) (drop 9 l)) e
    ∙ sym (drop_take 5 (word l 0 - 4) (drop 4 l)
    ∙ (ap (λ (m : ℕ). take m (drop 5 (drop 4 l))) (less (word l 0)) ∙ ap (take (word l 0 - 9)) (drop-drop 5 4 l)))
  where
    less : (n : ℕ) → n - 4 - 5 ≡ n - 9
    less n = omega arith

-- 7, 1 and 2 asked before the other tests: one of them is the number, or the others decide
module _ (kind limit count : ℕ) (l : List ℕ) (more : List (ℕ × Bool)) {r : ℕ} (head : r ≡ first_of (head_tests kind limit count l [])) where
  after : (a b c : Bool) → r ≡ cond a 7 (cond b 1 (cond c 2 0))
      → ((r ≡ 0 → ⊥) → r ≡ cond a 7 (cond b 1 (cond c 2 (first_of more)))) × (r ≡ 0 → first_of more ≡ cond a 7 (cond b 1 (cond c 2 (first_of more))))
  after true b c e = (λ n. e, λ z. absurd (omega arith))
  after false true c e = (λ n. e, λ z. absurd (omega arith))
  after false false true e = (λ n. e, λ z. absurd (omega arith))
  after false false false e = (λ n. absurd (n e), λ z. refl)

  pub head_stops : (r ≡ 0 → ⊥) → r ≡ first_of (head_tests kind limit count l more)
  unfolding head_tests first_of
  head_stops = (after (too_many kind limit count l) (not (whole l)) (not (eqb (record_kind l) kind)) head).0

  pub head_goes : r ≡ 0 → first_of more ≡ first_of (head_tests kind limit count l more)
  unfolding head_tests first_of
  head_goes = (after (too_many kind limit count l) (not (whole l)) (not (eqb (record_kind l) kind)) head).1

-- what a record holds that none of them refuses
module _ (kind limit count : ℕ) (l : List ℕ) {r : ℕ} (head : r ≡ first_of (head_tests kind limit count l [])) (none : r ≡ 0) where
  its : HeadPassed kind l []
  its = head_passed kind limit count l [] (sym head ∙ none)

  pub head_room : Passed l
  unfolding record_length
  head_room = let w = its.is_whole in record { head = w.head; long = w.long; within = w.within }

  module _ {n : ℕ} (long : n ≡ word l 0) where
    pub key_whole : kind ≡ 2 → is_some (read_key (take (n - 4) (drop 4 l))) ≡ true
    key_whole h = rw (body_part l long) (ends_key l its.is_whole (its.is_kind ∙ h))

    pub line_whole : kind ≡ 4 → is_some (read_key (take (n - 9) (drop 9 l))) ≡ true
    line_whole h = rw (line_key_part l long) (ends_line l its.is_whole (its.is_kind ∙ h)).1

    pub line_room : kind ≡ 4 → 9 ≤ n
    unfolding record_length
    line_room h = omega (arith, (ends_line l its.is_whole (its.is_kind ∙ h)).0, its.is_whole.long, body_length l its.is_whole.within)

-- the number that the key gives, as the code has it
pub key_number : (classes : List ℕ) (l : List ℕ) {n : ℕ} → n ≡ word l 0 → {r : ℕ}
    → r ≡ first_of (key_tests_by classes in_profile (key_in (take (n - 4) (drop 4 l)))) → r ≡ first_of (key_tests_by classes in_profile (key_in (record_body l)))
key_number classes l e t = t ∙ ap (λ (body : List ℕ). first_of (key_tests_by classes in_profile (key_in body))) (body_part l e)

pub line_number : (classes : List ℕ) (l : List ℕ) {n : ℕ} → n ≡ word l 0 → {r : ℕ}
    → r ≡ first_of (key_tests_by classes in_proof (key_in (take (n - 9) (drop 9 l))))
    → r ≡ first_of (key_tests_by classes in_proof (read_line (record_body l)).key)
unfolding read_line
line_number classes l e t = t ∙ ap (λ (body : List ℕ). first_of (key_tests_by classes in_proof (key_in body))) (line_key_part l e)
