-- Labels of a tree by the class table, return by return.
use Rattle.std.specs.Prelude.{ℕ, ◌≡◌, Bool, ◌||◌, not, List, eqb, get_or}
use Rattle.std.proofs.Math.Path.{refl}
use Rattle.std.proofs.Math.Bool.{true, false}
use borrow.Author.Tests.{ne_eqb}
use Rattle.read_record.specs.Classes.{declared_by, is_label_by}

module _ (classes : List ℕ) (n : ℕ) where
  pub label_text : n ≡ 1 → true ≡ is_label_by classes n
  unfolding is_label_by
  label_text e = rw e

  pub label_element : n ≡ 201 → true ≡ is_label_by classes n
  unfolding is_label_by
  label_element e = rw e (go (declared_by classes 201))
    where
      go : (x : Bool) → true ≡ (x || true || false)
      go true = refl
      go false = refl

  pub label_attribute : n ≡ 202 → true ≡ is_label_by classes n
  unfolding is_label_by
  label_attribute e = rw e (go (declared_by classes 202))
    where
      go : (x : Bool) → true ≡ (x || false || true)
      go true = refl
      go false = refl

  pub label_entry : (n ≡ 1 → ⊥) → (n ≡ 201 → ⊥) → (n ≡ 202 → ⊥) → not (eqb (get_or classes n 0) 0) ≡ is_label_by classes n
  unfolding is_label_by declared_by
  label_entry a b d = rw (ne_eqb n 1 a, ne_eqb n 201 b, ne_eqb n 202 d) (go (not (eqb (get_or classes n 0) 0)))
    where
      go : (x : Bool) → x ≡ (x || false || false)
      go true = refl
      go false = refl
