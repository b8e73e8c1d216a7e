-- The refusal of a bare path over the class table is that over the labels.
use Rattle.std.specs.Prelude.{ℕ, ◌≡◌, refl, Bool, true, false, not, List, [], ◌∷◌}
use Rattle.std.proofs.Common.{sym, ap₂}
use Rattle.meaning.specs.Limits.{bare_path}
use Rattle.meaning.specs.Paths.{Label, valid}
use Rattle.meaning.specs.Refusals.{first_of, path_refusal}
use Rattle.read_record.specs.Classes.{Tabled, ByteAt, good_path_by, class_by}
use Rattle.read_record.specs.Tables.{path_tabled, valid_tabled}

unfoldable pub path_number_by : List ℕ → List ℕ → ℕ
path_number_by classes p = first_of ((4, not (good_path_by classes bare_path p)) ∷ (6, not (valid (class_by classes) p)) ∷ [])

pub path_number : {labels : List Label} {classes : List ℕ} → Tabled labels classes → (input : ℕ) (p : List ℕ) → ByteAt p
    → path_refusal labels input p ≡ record { number = path_number_by classes p; input = input; place = 0 }
unfolding path_number_by path_refusal
path_number {labels} {classes} t input p b =
    ap₂ (λ (g v : Bool). record { number = first_of ((4, not g) ∷ (6, not v) ∷ []); input = input; place = 0 })
    (sym (path_tabled t bare_path p b)) (sym (valid_tabled t p b))

pub path_bad : (classes p : List ℕ) → good_path_by classes bare_path p ≡ false → 4 ≡ path_number_by classes p
unfolding path_number_by first_of
path_bad classes p e = rw e refl

pub path_invalid : (classes p : List ℕ) → good_path_by classes bare_path p ≡ true → valid (class_by classes) p ≡ false → 6 ≡ path_number_by classes p
unfolding path_number_by first_of
path_invalid classes p e f = rw (e, f) refl

pub path_good : (classes p : List ℕ) → good_path_by classes bare_path p ≡ true → valid (class_by classes) p ≡ true → 0 ≡ path_number_by classes p
unfolding path_number_by first_of
path_good classes p e f = rw (e, f) refl
