-- The two operations on lines: 17 comes exactly where nothing is read, what is written is read back, and each contract has one answer.
use Rattle.std.specs.Prelude.{ℕ, zero, suc, ◌≤◌, ◌≡◌, refl, Bool, not, length, take, drop}
use Rattle.std.proofs.Common.{sym, ap, subst, ◌∙◌}
use Rattle.std.proofs.Math.Bool.{true, false}
use mathlib.Core.List.{List, [], ◌∷◌}
use Rattle.std.proofs.Math.Option.{none, some, some-injective, none-ne-some}
use native.Mathlib.Omega.{arith}
use Rattle.std.proofs.Math.Seq.{take-append_seam}
use Rattle.meaning.specs.Limits.{KeyLimits, in_profile}
use Rattle.meaning.specs.Paths.{Label}
use Rattle.meaning.specs.Keys.{Key}
use Rattle.meaning.specs.Records.{key_bytes}
use Rattle.meaning.specs.Refusals
use Rattle.meaning.specs.Refusals.{Refusal, first_of, first_refusal, good_symbols, good_set, key_tests, profile_refusal, question_refusal, question_in, answer_refusal}
use Rattle.meaning.specs.Operations.{Answer, Unless, choose, refused_by, filled, labels_in, key_read, line_written}
use Rattle.meaning.specs.Text.{TypedKey, print_key, IsLine, typed_key, typed_of, TextJudged, not_a_line, unknown_name, bad_key, is_key, ReadsLine, WritesLine}
use Rattle.theory_paths.specs.Good.{GoodKey, tests_of_good}
use Rattle.theory_records.specs.Bytes.{Bytes}
use Rattle.theory_records.specs.Profiles.{LabelsRead, profile_accepts, refusal_none}
use Rattle.theory_records.specs.Questions.{question_accepts, question_written}
use Rattle.theory_answers.specs.Refusing.{unless_says, unless_sound, sound_more, sound_end, answer_large}
use Rattle.theory_answers.specs.Unique.{unless_unique}
use Rattle.theory_text.specs.Reading.{read_text, one_reading}
use Rattle.theory_text.specs.Printing.{none_line, line_none}
use Rattle.theory_text.specs.Names.{typed_back, typed_named}

-- an answer without a number is no refusal
pub unless_number : (rs : List Refusal) (buffer : List ℕ) (Q : Answer → Type 0) (a : Answer) → a.number ≡ 0 → Unless rs buffer Q a
    → (first_refusal rs).number ≡ 0
unfolding Unless choose refused_by
unless_number rs buffer Q a z u = go (first_refusal rs).number refl u
  where
    go : (n : ℕ) → (first_refusal rs).number ≡ n → choose n (Q a) (a ≡ refused_by (first_refusal rs) buffer) → (first_refusal rs).number ≡ 0
    go zero e u = e
    go (suc n) e u = sym (ap (λ (x : Answer). x.number) u) ∙ z

-- the numbers of a key are 4, 5 and 6
pub key_number : (labels : List Label) (limits : KeyLimits) (k : Key) → first_of (key_tests labels limits k) ≤ 6
unfolding key_tests
key_number labels limits k = go (good_symbols labels limits k) (good_set limits k) (Refusals.all_valid labels k)
  where
    go : (a b c : Bool) → first_of ((4, not a) ∷ (5, not b) ∷ (6, not c) ∷ []) ≤ 6
    go true true true = unfold first_of in omega arith
    go true true false = unfold first_of in omega arith
    go true false c = unfold first_of in omega arith
    go false b c = unfold first_of in omega arith

-- "17 not a line of the grammar": exactly where the reader reads nothing
pub line_exactly : (labels : List Label) (line buffer : List ℕ) (a : Answer) → TextJudged labels line buffer a
    → (a.number ≡ 17 → read_text line ≡ none) × (read_text line ≡ none → a ≡ refused_by (record { number = 17; input = 2; place = 0 }) buffer)
unfolding refused_by filled
line_exactly labels line buffer a (not_a_line h e) = (λ q. line_none line h, λ q. e)
line_exactly labels line buffer a (unknown_name k w n e) =
    (λ q. absurd (let f : a.number ≡ 18 = ap (λ (x : Answer). x.number) e in omega arith), λ q. absurd (none_line line q k w))
line_exactly labels line buffer a (bad_key k w key t f e) = (
  λ q. absurd (let g : a.number ≡ first_of (key_tests labels in_profile key) = ap (λ (x : Answer). x.number) e in let m = key_number labels in_profile key in omega arith),
  λ q. absurd (none_line line q k w),
)
line_exactly labels line buffer a (is_key k w key t f e) =
    (λ q. absurd (let g : a.number ≡ 0 = ap (λ (x : Answer). x.number) e in omega arith), λ q. absurd (none_line line q k w))

-- two readings of a line give the same key, or none
module _ (labels : List Label) (line buffer : List ℕ) where
  typed_same : {k m : TypedKey} → IsLine line k → IsLine line m → typed_key labels k ≡ typed_key labels m
  typed_same {k} {m} p q = ap (typed_key labels) (one_reading line k m p q)

  clash : {k m : TypedKey} {key : Key} → IsLine line k → IsLine line m → typed_key labels k ≡ none → typed_key labels m ≡ some key → ⊥
  clash p q e f = none-ne-some _ (sym e ∙ (typed_same p q ∙ f))

  key_same : {k m : TypedKey} {x y : Key} → IsLine line k → IsLine line m → typed_key labels k ≡ some x → typed_key labels m ≡ some y → x ≡ y
  key_same p q e f = some-injective _ _ (sym e ∙ (typed_same p q ∙ f))

  tests_same : {x y : Key} → x ≡ y → first_of (key_tests labels in_profile x) ≡ first_of (key_tests labels in_profile y)
  tests_same e = ap (λ (k : Key). first_of (key_tests labels in_profile k)) e

  pub text_judged_unique : (a b : Answer) → TextJudged labels line buffer a → TextJudged labels line buffer b → a ≡ b
  text_judged_unique a b (not_a_line h e) (not_a_line i f) = e ∙ sym f
  text_judged_unique a b (not_a_line h e) (unknown_name k w n f) = absurd (h k w)
  text_judged_unique a b (not_a_line h e) (bad_key k w key t n f) = absurd (h k w)
  text_judged_unique a b (not_a_line h e) (is_key k w key t n f) = absurd (h k w)
  text_judged_unique a b (unknown_name k w n e) (not_a_line i f) = absurd (i k w)
  text_judged_unique a b (unknown_name k w n e) (unknown_name l v m f) = e ∙ sym f
  text_judged_unique a b (unknown_name k w n e) (bad_key l v key t m f) = absurd (clash w v n t)
  text_judged_unique a b (unknown_name k w n e) (is_key l v key t m f) = absurd (clash w v n t)
  text_judged_unique a b (bad_key k w x s n e) (not_a_line i f) = absurd (i k w)
  text_judged_unique a b (bad_key k w x s n e) (unknown_name l v m f) = absurd (clash v w m s)
  text_judged_unique a b (bad_key k w x s n e) (bad_key l v y t m f) =
      e ∙ (ap (λ (r : ℕ). refused_by (record { number = r; input = 2; place = 0 }) buffer) (tests_same (key_same w v s t)) ∙ sym f)
  text_judged_unique a b (bad_key k w x s n e) (is_key l v y t m f) = absurd (n (tests_same (key_same w v s t) ∙ m))
  text_judged_unique a b (is_key k w x s n e) (not_a_line i f) = absurd (i k w)
  text_judged_unique a b (is_key k w x s n e) (unknown_name l v m f) = absurd (clash v w m s)
  text_judged_unique a b (is_key k w x s n e) (bad_key l v y t m f) = absurd (m (sym (tests_same (key_same w v s t)) ∙ n))
  text_judged_unique a b (is_key k w x s n e) (is_key l v y t m f) =
      e ∙ (ap (λ (key : Key). filled key_read (key_bytes key) buffer) (key_same w v s t) ∙ sym f)

pub reads_line_unique : (profile line buffer : List ℕ) (a b : Answer) → ReadsLine profile line buffer a → ReadsLine profile line buffer b → a ≡ b
unfolding ReadsLine
reads_line_unique profile line buffer a b = unless_unique _ _ _ (text_judged_unique (labels_in profile) line buffer) a b

pub writes_line_unique : (profile question buffer : List ℕ) (a b : Answer) → WritesLine profile question buffer a → WritesLine profile question buffer b → a ≡ b
unfolding WritesLine
writes_line_unique profile question buffer a b = unless_unique _ _ _ (λ x y p q. p ∙ sym q) a b

-- The bytes that the writer puts are read as the question's own record
module _ (profile question : List ℕ) (small : Bytes question) (e : (profile_refusal profile).number ≡ 0)
    (f : (question_refusal (labels_in profile) question).number ≡ 0) where
  read : LabelsRead (labels_in profile)
  read = unfold labels_in in (profile_accepts profile e).good.labels

  good : GoodKey (labels_in profile) in_profile (question_in question)
  good = (question_accepts (labels_in profile) question f).good

  judged : (buffer : List ℕ) → TextJudged (labels_in profile) (print_key (typed_of (labels_in profile) (question_in question))) buffer (filled key_read question buffer)
  judged buffer =
      is_key (typed_of (labels_in profile) (question_in question)) (record { named = typed_named read (question_in question) good; is = refl }) (question_in question)
      (typed_back read (question_in question) good)
      (tests_of_good (labels_in profile) in_profile (question_in question) good)
      (ap (λ (bytes : List ℕ). filled key_read bytes buffer) (sym (question_written (labels_in profile) question small f)))

  pub line_reads_back : (buffer : List ℕ) → 65536 ≤ length buffer
      → ReadsLine profile (print_key (typed_of (labels_in profile) (question_in question))) buffer (filled key_read question buffer)
  unfolding ReadsLine
  line_reads_back buffer h =
      unless_sound (answer_refusal buffer ∷ profile_refusal profile ∷ []) buffer
      (TextJudged (labels_in profile) (print_key (typed_of (labels_in profile) (question_in question))) buffer) (filled key_read question buffer)
      (sound_more (answer_refusal buffer) (profile_refusal profile ∷ []) (answer_large buffer h) (sound_more (profile_refusal profile) [] e sound_end)) (judged buffer)

used_part : (bytes buffer : List ℕ) → take (filled line_written bytes buffer).used (filled line_written bytes buffer).buffer ≡ bytes
unfolding filled
used_part bytes buffer = take-append_seam bytes (drop (length bytes) buffer)

-- a line that the writer wrote, read with any buffer, is the question
pub written_reads_back : (profile question buffer other : List ℕ) → Bytes question → 65536 ≤ length other → (a b : Answer) → WritesLine profile question buffer a
    → a.number ≡ 0 → ReadsLine profile (take a.used a.buffer) other b → b ≡ filled key_read question other
unfolding WritesLine
written_reads_back profile question buffer other small h a b w z r =
    let rs : List Refusal = answer_refusal buffer ∷ profile_refusal profile ∷ question_refusal (labels_in profile) question ∷ [] in
    let line : List ℕ = print_key (typed_of (labels_in profile) (question_in question)) in
    let n : (first_refusal rs).number ≡ 0 = unless_number rs buffer (λ x. x ≡ filled line_written line buffer) a z w in
    let one = refusal_none _ _ n in
    let two = refusal_none _ _ one.1 in
    let three = refusal_none _ _ two.1 in
    let is : a ≡ filled line_written line buffer = unless_says rs buffer (λ x. x ≡ filled line_written line buffer) a n w in
    let part : take a.used a.buffer ≡ line = ap (λ (x : Answer). take x.used x.buffer) is ∙ used_part line buffer in
    reads_line_unique profile line other b (filled key_read question other) (subst (λ (l : List ℕ). ReadsLine profile l other b) part r)
    (line_reads_back profile question small two.0 three.0 other h)
