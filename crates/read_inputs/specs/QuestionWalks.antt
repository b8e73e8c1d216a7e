-- A question beside the walk of `meaning`: its first record, and what may stand behind it.
use Rattle.std.specs.Prelude.{ℕ, zero, suc, ◌-◌, ◌≤◌, ◌<◌, ◌≡◌, refl, Bool, true, false, eqb, length, take, drop}
use Rattle.std.proofs.Common.{sym, ◌∙◌, arith, length-drop, drop_of_length-le}
use Rattle.std.proofs.Math.Path.{ap}
use mathlib.Core.List.{List, [], ◌∷◌, ◌++◌}
use borrow.Author.Rules.{part_to_end}
use Rattle.std.proofs.Math.Dec.{eqb-suc-zero}
use Rattle.meaning.specs.Lists.{is_empty}
use Rattle.meaning.specs.Paths.{Label}
use Rattle.meaning.specs.Keys.{Key}
use Rattle.meaning.specs.Records.{word, record_length, record_kind, record_body, key_in}
use Rattle.meaning.specs.Refusals.{sound, first_refusal, walk, first_of, whole, question_tests, question_walked, question_refusal}
use Rattle.read_record.specs.Classes.{Tabled}
use Rattle.theory_records.specs.Bytes.{Bytes}
use Rattle.theory_records.specs.Judged.{some_empty}
use Rattle.theory_records.specs.Questions.{question_long}
use Rattle.theory_records.specs.Walks.{walk_step, walk_stop, walk_end}
use Rattle.read_entry.specs.Keys.{key_record_tests_by}
use Rattle.read_entry.specs.Agree.{question_agrees}
use Rattle.read_profile_keys.specs.KeyWalks.{key_here}
use Rattle.theory_lists.specs.Bools.{and-false}

pub question_empty : (labels : List Label) (bytes : List ℕ) → length bytes ≡ 0 → record { number = 1; input = 2; place = 0 } ≡ question_refusal labels bytes
unfolding question_refusal first_refusal question_walked walk is_empty
question_empty labels [] e = refl
question_empty labels (b ∷ l) e = absurd (omega arith)

next_key : List Key → List ℕ → List Key
next_key read l = read ++ (key_in (record_body l) ∷ [])

-- what the walk came to is what refuses
refused_by : (labels : List Label) (bytes : List ℕ) (r n : ℕ) (read : List Key)
    → question_walked labels bytes ≡ record { number = suc r; at = n; state = read }
    → record { number = suc r; input = 2; place = n } ≡ question_refusal labels bytes
unfolding question_refusal first_refusal
refused_by labels bytes r n read e = rw (e, eqb-suc-zero r)

sound_by : (labels : List Label) (bytes : List ℕ) (n : ℕ) (read : List Key) → 0 < length bytes
    → question_walked labels bytes ≡ record { number = 0; at = n; state = read } → sound ≡ question_refusal labels bytes
unfolding question_refusal first_refusal
sound_by labels bytes n read some e = rw (e, some_empty bytes some)

-- a record behind the first is refused: by 1 or by 2
second_torn : (labels : List Label) (k : Key) (l : List ℕ) → whole l ≡ false → first_of (question_tests labels (k ∷ []) l) ≡ 1
unfolding question_tests first_of
second_torn labels k l w = rw w

second_whole : (labels : List Label) (k : Key) (l : List ℕ) → whole l ≡ true → first_of (question_tests labels (k ∷ []) l) ≡ 2
unfolding question_tests first_of is_empty
second_whole labels k l w = rw (w, and-false (eqb (record_kind l) 2))

module _ {classes : List ℕ} (bytes : List ℕ) (small : Bytes bytes) (some : 0 < length bytes) {r : ℕ} (given : r ≡ first_of (key_record_tests_by classes 0 bytes)) where
  number_given : (labels : List Label) → Tabled labels classes → first_of (question_tests labels [] bytes) ≡ r
  number_given labels tabled = sym (given ∙ question_agrees tabled bytes small)

  pub question_first : (r ≡ 0 → ⊥) → (labels : List Label) → Tabled labels classes → record { number = r; input = 2; place = 0 } ≡ question_refusal labels bytes
  question_first e labels tabled = go r refl
    where
      go : (m : ℕ) → r ≡ m → record { number = r; input = 2; place = 0 } ≡ question_refusal labels bytes
      go zero q = absurd (e q)
      go (suc m) q =
          ap (λ (k : ℕ). record { number = k; input = 2; place = 0 }) q
          ∙ refused_by labels bytes m 0 []
          (unfold question_walked in walk_stop (question_tests labels) _ 0 m [] bytes some (number_given labels tabled ∙ q))

  module _ (e : r ≡ 0) {k : ℕ} (long : k ≡ word bytes 0) (labels : List Label) (tabled : Tabled labels classes) where
    behind : question_walked labels bytes ≡ walk (question_tests labels) next_key 0 1 (key_in (record_body bytes) ∷ []) (drop k bytes)
    unfolding question_walked next_key record_length
    behind =
        let zero-given : first_of (question_tests labels [] bytes) ≡ 0 = number_given labels tabled ∙ e in
        walk_step (question_tests labels) next_key 0 [] bytes some zero-given (question_long labels [] bytes some zero-given)
        ∙ ap (λ (m : ℕ). walk (question_tests labels) next_key 0 1 (key_in (record_body bytes) ∷ []) (drop m bytes)) (sym long)

    pub question_alone : k ≡ length bytes → sound ≡ question_refusal labels bytes
    question_alone q =
        sound_by labels bytes 1 (key_in (record_body bytes) ∷ []) some
        (behind ∙ (ap (walk (question_tests labels) next_key 0 1 (key_in (record_body bytes) ∷ [])) (drop_of_length-le bytes {i = k} (omega arith))
        ∙ walk_end (question_tests labels) next_key 1 (key_in (record_body bytes) ∷ [])))

    module _ (more : k ≡ length bytes → ⊥) {b : Bool} (is_whole : b ≡ whole (take (length bytes - k) (drop k bytes))) where
      left : 0 < length (drop k bytes)
      left =
          let its = key_here classes 0 bytes given e in
          let within : k ≤ length bytes = omega (arith, its.within) in
          omega (arith, length-drop k bytes)

      pub question_second : b ≡ true → record { number = 2; input = 2; place = 1 } ≡ question_refusal labels bytes
      question_second t =
          refused_by labels bytes 1 1 (key_in (record_body bytes) ∷ [])
          (behind ∙ walk_stop (question_tests labels) next_key 1 1 (key_in (record_body bytes) ∷ []) (drop k bytes) left
          (second_whole labels (key_in (record_body bytes)) (drop k bytes) (sym (ap whole (part_to_end bytes k)) ∙ (sym is_whole ∙ t))))

      pub question_torn : b ≡ false → record { number = 1; input = 2; place = 1 } ≡ question_refusal labels bytes
      question_torn t =
          refused_by labels bytes 0 1 (key_in (record_body bytes) ∷ [])
          (behind ∙ walk_stop (question_tests labels) next_key 1 0 (key_in (record_body bytes) ∷ []) (drop k bytes) left
          (second_torn labels (key_in (record_body bytes)) (drop k bytes) (sym (ap whole (part_to_end bytes k)) ∙ (sym is_whole ∙ t))))
