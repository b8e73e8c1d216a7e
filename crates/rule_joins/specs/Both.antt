-- A path compared with two others, one behind the other, in place: a law for each return.
use Rattle.std.specs.Prelude.{ℕ, ◌-◌, ◌≡◌, Bool, true, false, List, ◌++◌, ◌==◌, length, take, drop}
use Rattle.std.proofs.Common.{sym, ap, ap₂, ◌∙◌, take-append-drop}
use Rattle.std.proofs.Math.Seq.{take-append_seam, drop-append_seam}
use borrow.Author.Rules.{part_to_end}
use Rattle.std.specs.List.{starts_with}
use Rattle.std.specs.Cmp.Lexicographic.{pointwise}
use Rattle.meaning.specs.Lists.{same}
use Rattle.read_record.specs.Library.{same_list}
use Rattle.theory_lists.specs.Bools.{bool_eq, same_eq, eq_same, of_true, false_of, of_false}

-- the front is there, by the library's test, or it is not
module _ (path front back : List ℕ) {r : Bool} (e : r ≡ starts_with ◌==◌ path front) where
  stands : r ≡ same front (take (length front) path)
  stands = e ∙ same_list front (take (length front) path)

  pub both_other : r ≡ false → r ≡ same path (front ++ back)
  both_other t =
      t ∙ sym (false_of _ (λ s. of_false _ (sym stands ∙ t)
      (eq_same _ _ (sym (ap (take (length front)) (same_eq path (front ++ back) s) ∙ take-append_seam front back)))))

  pub both_rest : r ≡ true
      → {s : Bool} → s ≡ pointwise ◌==◌ (take (length path - length front) (drop (length front) path)) back → s ≡ same path (front ++ back)
  both_rest t q =
      q ∙ same_list _ back ∙ ap (λ (l : List ℕ). same l back) (part_to_end path (length front))
      ∙ bool_eq _ _
      (λ s. eq_same _ _
      (sym (take-append-drop (length front) path)
      ∙ ap₂ ◌++◌ (sym (same_eq _ _ (of_true _ (sym stands ∙ t)))) (same_eq _ _ s)))
      (λ s. eq_same _ _ (ap (drop (length front)) (same_eq path (front ++ back) s) ∙ drop-append_seam front back))

pub same_sym : (a b : List ℕ) → same a b ≡ same b a
same_sym a b = bool_eq _ _ (λ t. eq_same b a (sym (same_eq a b t))) (λ t. eq_same a b (sym (same_eq b a t)))
