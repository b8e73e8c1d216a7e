-- The single labels of an accepted profile (request 5): attributes, so neither the any-path nor its filler, and nothing steps on from them.
use Rattle.std.specs.Prelude.{ℕ, ◌≡◌, Bool, List, eqb}
use Rattle.std.proofs.Math.Path.{refl, subst}
use Rattle.std.proofs.Math.Bool.{true, false, cond}
use Rattle.std.proofs.Common.{arith, eqb→eq}
use Rattle.std.proofs.Math.Dec.{T}
use Rattle.meaning.specs.Paths.{Class, element, attribute, text, is_element, is_attribute, Label, class_of, singles}
use Rattle.meaning.specs.Pattern.{drawn}
use Rattle.theory_lists.specs.Bools.{and_right, or_cases}
use Rattle.theory_paths.specs.Valid.{may_step}
use Rattle.theory_paths.specs.Good.{GoodLabels, undeclared_class, undeclared_low, class_filler}
use Rattle.std.proofs.Math.Logic.{⊎_elim}

module _ (second : Bool) (labels : List Label) (good : GoodLabels labels) where
  single_attribute : (n : ℕ) → T (singles second (class_of labels) n) → T (is_attribute (class_of labels n))
  unfolding singles
  single_attribute n t = and_right second (is_attribute (class_of labels n)) t

  pub single_clear : T (singles second (class_of labels) 0) → ⊥
  unfolding is_attribute class_of
  single_clear t =
      subst (λ (c : Class). T (is_attribute c)) (undeclared_class labels 0 (undeclared_low labels good 0 (omega arith))) (single_attribute 0 t)

  filler_not : T (singles second (class_of labels) 201) → ⊥
  unfolding is_attribute
  filler_not t = subst (λ (c : Class). T (is_attribute c)) (class_filler labels good) (single_attribute 201 t)

  -- a drawn symbol that is single is no any-path
  pub single_symbol : (n : ℕ) → T (singles second (class_of labels) (drawn n)) → T (singles second (class_of labels) n)
  unfolding drawn
  single_symbol n t = go (eqb n 0) t
    where
      go : (b : Bool) → T (singles second (class_of labels) (cond b 201 n)) → T (singles second (class_of labels) n)
      go true h = absurd (filler_not h)
      go false h = h

  no_step : (c : Class) → T (is_attribute c) → T (is_element c) → ⊥
  unfolding is_attribute is_element
  no_step element a e = a
  no_step attribute a e = e
  no_step text a e = a

  pub single_stays : (n : ℕ) → T (singles second (class_of labels) (drawn n)) → T (may_step (class_of labels) n) → ⊥
  unfolding may_step
  single_stays n t h =
      let s = single_symbol n t in
      ⊎_elim (λ z. single_clear (subst (λ (k : ℕ). T (singles second (class_of labels) k)) (eqb→eq n 0 z) s))
      (λ e. no_step (class_of labels n) (single_attribute n s) e) (or_cases (eqb n 0) (is_element (class_of labels n)) h)

  -- and is drawn as itself
  pub single_drawn : (n : ℕ) → T (singles second (class_of labels) (drawn n)) → n ≡ drawn n
  unfolding drawn
  single_drawn n t = go (eqb n 0) t
    where
      go : (b : Bool) → T (singles second (class_of labels) (cond b 201 n)) → n ≡ cond b 201 n
      go true h = absurd (filler_not h)
      go false h = refl
