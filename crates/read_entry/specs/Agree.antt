-- Judged by the class table or by the labels that it says, a record gives the same number.
use Rattle.std.specs.Prelude.{ℕ, ◌≡◌, Bool, cond, ◌&&◌, ◌||◌, length, drop}
use Rattle.std.proofs.Math.Path.{refl, ap}
use Rattle.std.proofs.Common.{◌∙◌, arith, eqb-true}
use Rattle.std.proofs.Math.Bool.{true, false, not}
use mathlib.Core.List.{List, [], ◌∷◌, ◌++◌}
use Rattle.std.proofs.Math.Dec.{eqb}
use Rattle.meaning.specs.Limits.{KeyLimits, in_profile, in_proof}
use Rattle.meaning.specs.Lists.{is_empty}
use Rattle.meaning.specs.Paths.{Label}
use Rattle.meaning.specs.Keys.{Key}
use Rattle.meaning.specs.Rules.{Line}
use Rattle.meaning.specs.Records.{record_kind, record_body, read_label, key_in, read_line}
use Rattle.meaning.specs.Refusals.{first_of, too_many, whole, good_label, key_tests, key_twice, profile_key_tests, Profile, profile_tests, in_profile_order, question_tests, line_tests}
use Rattle.read_record.specs.Classes.{Tabled, key_tests_by}
use Rattle.read_record.specs.Tables.{bytes_key, tests_tabled}
use Rattle.theory_records.specs.Bytes.{Bytes, bytes_at, bytes_drop}
use Rattle.theory_records.specs.Heads.{Whole, whole_says}
use Rattle.theory_records.specs.Encodings.{ends_key, ends_line, bytes_body}
use Rattle.theory_records.specs.HeadTests.{head_tests}
use Rattle.theory_records.specs.Judged.{room_left, empty_says}
use Rattle.theory_records.specs.Tests.{and-true, never}
use Rattle.read_entry.specs.Keys.{key_record_tests_by, line_tests_by}

-- a whole label record stands at the front
unfoldable pub is_label_record : List ℕ → Bool
is_label_record l = whole l && eqb (record_kind l) 1

two_kinds : (k : ℕ) → eqb k 2 ≡ true → eqb k 1 ≡ true → ⊥
two_kinds k a b = let p : k ≡ 2 = eqb-true k 2 a in let q : k ≡ 1 = eqb-true k 1 b in omega arith

module _ {labels : List Label} {classes : List ℕ} (tabled : Tabled labels classes) (l : List ℕ) (small : Bytes l) where
  key_agrees : (limits : KeyLimits) → Whole l → record_kind l ≡ 2
      → key_tests_by classes limits (key_in (record_body l)) ≡ key_tests labels limits (key_in (record_body l))
  key_agrees limits w k = tests_tabled tabled limits _ (bytes_key (record_body l) (ends_key l w k) (bytes_at (bytes_body l small)))

  line_key_agrees : Whole l → record_kind l ≡ 4
      → key_tests_by classes in_proof (read_line (record_body l)).key ≡ key_tests labels in_proof (read_line (record_body l)).key
  unfolding read_line
  line_key_agrees w k =
      tests_tabled tabled in_proof _ (bytes_key (drop 5 (record_body l)) (ends_line l w k).1 (bytes_at (bytes_drop 5 (bytes_body l small))))

  -- one proof line
  pub line_agrees : (n : ℕ) (lines : List Line) → n ≡ length lines → first_of (line_tests_by classes n l) ≡ first_of (line_tests labels lines l)
  unfolding line_tests_by head_tests line_tests first_of
  line_agrees n lines e = rw e (go (too_many 4 256 (length lines) l) (whole l) refl (eqb (record_kind l) 4) refl)
    where
      go : (a b : Bool) → whole l ≡ b → (k : Bool) → eqb (record_kind l) 4 ≡ k
          → first_of ((7, a) ∷ (1, not b) ∷ (2, not k) ∷ key_tests_by classes in_proof (read_line (record_body l)).key)
          ≡ first_of ((7, a) ∷ (1, not b) ∷ (2, not k) ∷ key_tests labels in_proof (read_line (record_body l)).key)
      go true b w k q = refl
      go false false w k q = refl
      go false true w false q = refl
      go false true w true q = ap first_of (line_key_agrees (whole_says l w) (eqb-true _ _ q))

  -- a question's first record
  pub question_agrees : first_of (key_record_tests_by classes 0 l) ≡ first_of (question_tests labels [] l)
  unfolding key_record_tests_by head_tests question_tests first_of is_empty
  question_agrees = rw (room_left 2 64 0 l (omega arith)) (go (whole l) refl (eqb (record_kind l) 2) refl)
    where
      go : (b : Bool) → whole l ≡ b → (k : Bool) → eqb (record_kind l) 2 ≡ k
          → first_of ((1, not b) ∷ (2, not k) ∷ key_tests_by classes in_profile (key_in (record_body l)))
          ≡ first_of ((1, not b) ∷ (2, not (k && true)) ∷ key_tests labels in_profile (key_in (record_body l)))
      go false w k q = refl
      go true w false q = refl
      go true w true q = ap first_of (key_agrees in_profile (whole_says l w) (eqb-true _ _ q))

  -- a record of a profile where no label can stand any more, behind these keys
  pub key_record_agrees : (p : Profile) → p.labels ≡ labels → (before : List Key) → p.keys ≡ before → (keys : ℕ) → keys ≡ length before
      → (keys ≡ 0 → is_label_record l ≡ false)
      → first_of (key_record_tests_by classes keys l ++ ((15, key_twice before (key_in (record_body l))) ∷ [])) ≡ first_of (profile_tests p l)
  unfolding key_record_tests_by head_tests profile_tests in_profile_order profile_key_tests first_of
  key_record_agrees p same before are keys e none =
      rw (same, are, ← e) (go (too_many 2 64 keys l) (whole l) refl (eqb (record_kind l) 2) refl (eqb (record_kind l) 1) refl (is_empty before) refl)
    where
      twice : List (ℕ × Bool)
      twice = (15, key_twice before (key_in (record_body l))) ∷ []

      not_here : whole l ≡ true → eqb (record_kind l) 1 ≡ true → is_empty before ≡ true → ⊥
      not_here w k x =
          let zero-keys : keys ≡ 0 = e ∙ ap length (empty_says before x) in
          never (is_label_record l) (unfold is_label_record in and-true w k) (none zero-keys)

      go : (a b : Bool) → whole l ≡ b → (k : Bool) → eqb (record_kind l) 2 ≡ k → (m : Bool) → eqb (record_kind l) 1 ≡ m
          → (x : Bool) → is_empty before ≡ x
          → cond a 7 (cond (not b) 1 (cond (not k) 2 (first_of (key_tests_by classes in_profile (key_in (record_body l)) ++ twice))))
          ≡ cond a 7 (cond (not b) 1 (cond (not (m && x || k)) 2
          (first_of (cond m ((3, not (good_label labels (read_label (record_body l)))) ∷ []) (key_tests labels in_profile (key_in (record_body l)) ++ twice)))))
      go true b w k q m r x z = refl
      go false false w k q m r x z = refl
      go false true w true q true r x z = absurd (two_kinds (record_kind l) q r)
      go false true w true q false r x z =
          ap (λ (tests : List (ℕ × Bool)). first_of (tests ++ twice)) (key_agrees in_profile (whole_says l w) (eqb-true _ _ q))
      go false true w false q true r true z = absurd (not_here w r z)
      go false true w false q true r false z = refl
      go false true w false q false r x z = refl
