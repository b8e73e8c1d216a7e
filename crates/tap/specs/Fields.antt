-- The fields of the detail slice, for each case of an answer, and their 16 bytes.
use Rattle.std.specs.Prelude.{ℕ, ◌/◌, ◌%◌, ◌≡◌, refl, Result, Ok, Err, List, [], ◌∷◌, ◌++◌, drop}
use Rattle.std.proofs.Common.{◌∙◌, ap}
use Rattle.std.proofs.Math.Nat.{div-div-eq-div-mul}
use Rattle.meaning.specs.Records.{word_bytes}
use Rattle.meaning.specs.Operations
use Rattle.meaning.specs.Operations.{Answer}
use Rattle.meaning.specs.Calls.{details, four_bytes, verdict_number, detail_bytes}
use Rattle.read_judged.specs.Answers.{number_of}
use Rattle.op_answers.specs.declared.Refusal.{Refusal}
use Rattle.op_answers.specs.declared.Witness.{Witness}
use Rattle.op_answers.specs.declared.Countered.{Countered}
use Rattle.op_answers.specs.declared.Countered.TheVariants.{Breaks, Refused}
use Rattle.op_answers.specs.declared.Decision.{Decision}
use Rattle.op_answers.specs.declared.Decision.TheVariants.{Implied, NotImplied}
use Rattle.op_answers.specs.Cases.{input_of, deciding_answer, checking_answer, countering_answer}
use Rattle.write_bytes.specs.Wrote.{wrote_more, wrote_front}
use Rattle.write_line.specs.LineParts.{Sized}
use Rattle.tap.specs.declared.details.Fields.{Fields}
use Rattle.tap.specs.declared.details.Verdict.{Verdict}
use Rattle.tap.specs.declared.details.Verdict.TheVariants as V

-- the number of a verdict
abbrev pub verdict_of : Verdict → ℕ
verdict_of V.Refused = 0
verdict_of V.ImpliedOrAccepted = 1
verdict_of V.NotImplied = 2

abbrev pub refusal_fields : Refusal → Fields
refusal_fields r = record { verdict = V.Refused; number = number_of r.kind; input = input_of r.input; place = r.place; used = 0 }

abbrev pub verdict_fields : Verdict → ℕ → Fields
verdict_fields verdict used = record { verdict = verdict; number = 0; input = 0; place = 0; used = used }

abbrev pub deciding_fields : Result Decision Refusal → Fields
deciding_fields (Ok (Implied used)) = verdict_fields V.ImpliedOrAccepted used
deciding_fields (Ok (NotImplied used)) = verdict_fields V.NotImplied used
deciding_fields (Err r) = refusal_fields r

abbrev pub checking_fields : Result Unit Refusal → Fields
checking_fields (Ok _) = verdict_fields V.ImpliedOrAccepted 0
checking_fields (Err r) = refusal_fields r

abbrev pub countering_fields : Result Witness Countered → Fields
countering_fields (Ok w) = verdict_fields V.ImpliedOrAccepted 0
countering_fields (Err (Breaks n w)) = record { verdict = V.Refused; number = 12; input = 1; place = n; used = 0 }
countering_fields (Err (Refused r)) = refusal_fields r

unfoldable pub field_bytes : Fields → List ℕ
field_bytes f =
    word_bytes (verdict_of f.verdict) ++ (word_bytes f.number ++ (word_bytes f.input ++ (word_bytes f.place
    ++ (four_bytes f.used ++ (0 ∷ 0 ∷ 0 ∷ 0 ∷ [])))))

-- The fields are those of the answer, with this buffer at the end
pub record Says (f : Fields) (answer : Answer) (buffer : List ℕ) : Type 0 where
  pub number : f.number ≡ answer.number
  pub bytes : field_bytes f ≡ details answer
  pub ends : answer.buffer ≡ buffer

pub deciding_says : (a : Result Decision Refusal) (buffer : List ℕ) → Says (deciding_fields a) (deciding_answer a buffer) buffer
unfolding field_bytes details verdict_number Operations.refused_by
deciding_says (Ok (Implied used)) buffer = record { number = refl; bytes = refl; ends = refl }
deciding_says (Ok (NotImplied used)) buffer = record { number = refl; bytes = refl; ends = refl }
deciding_says (Err r) buffer = record { number = refl; bytes = refl; ends = refl }

pub checking_says : (a : Result Unit Refusal) → Says (checking_fields a) (checking_answer a) []
unfolding field_bytes details verdict_number Operations.refused_by Operations.plain
checking_says (Ok u) = record { number = refl; bytes = refl; ends = refl }
checking_says (Err r) = record { number = refl; bytes = refl; ends = refl }

pub countering_says : (a : Result Witness Countered) → Says (countering_fields a) (countering_answer a) []
unfolding field_bytes details verdict_number Operations.refused_by Operations.shown Operations.broken_by
countering_says (Ok w) = record { number = refl; bytes = refl; ends = refl }
countering_says (Err (Breaks n w)) = record { number = refl; bytes = refl; ends = refl }
countering_says (Err (Refused r)) = record { number = refl; bytes = refl; ends = refl }

-- what is put into the slice, and the number that the call returns
pub record Put (f : Fields) (detail end : List ℕ) (returned : ℕ) : Type 0 where
  pub number : returned ≡ f.number
  pub bytes : end ≡ field_bytes f ++ drop detail_bytes detail

-- four bytes are two and two
four_is : (n : ℕ) → word_bytes n ++ word_bytes (n / 65536) ≡ four_bytes n
unfolding word_bytes four_bytes
four_is n =
    ap (λ (m : ℕ). n % 256 ∷ n / 256 % 256 ∷ n / 65536 % 256 ∷ m % 256 ∷ []) (div-div-eq-div-mul n 65536 256)

-- what was written last stands first
pub details_put : {o a b c d e f g h : List ℕ} {p q r s t u v w : ℕ} (told : Fields)
    → Sized g h v (word_bytes 0) 2 w → Sized f g u (word_bytes 0) 2 v → Sized e f t (word_bytes (told.used / 65536)) 2 u
    → Sized d e s (word_bytes told.used) 2 t → Sized c d r (word_bytes told.place) 2 s → Sized b c q (word_bytes told.input) 2 r
    → Sized a b p (word_bytes told.number) 2 q → Sized o a 0 (word_bytes (verdict_of told.verdict)) 2 p → Put told o h told.number
unfolding field_bytes word_bytes four_bytes
details_put {o} told z y x w v u t s =
    let all =
    wrote_more s.wrote (wrote_more t.wrote (wrote_more u.wrote (wrote_more v.wrote (wrote_more w.wrote (wrote_more x.wrote
    (wrote_more y.wrote z.wrote)))))) in
    record {
      number = refl;
      bytes = (wrote_front all).1
          ∙ ap
          (λ (l : List ℕ).
          (word_bytes (verdict_of told.verdict) ++ (word_bytes told.number ++ (word_bytes told.input ++ (word_bytes told.place
          ++ (l ++ (0 ∷ 0 ∷ 0 ∷ 0 ∷ [])))))) ++ drop detail_bytes o)
          (four_is told.used);
    }
