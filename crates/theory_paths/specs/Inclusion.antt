-- ARGUMENT §1, "Inclusion is membership": for a valid path P, P is included in Q exactly when P, read as a run, is a word of Q.
use Prim.Native.Nat.{ℕ, zero, suc}
use Rattle.std.specs.Prelude.{◌≡◌, Bool, true, false, ◌||◌, eqb}
use Rattle.std.proofs.Math.Path.{refl, ap, ap₂}
use Rattle.std.proofs.Common.{sym, subst}
use Rattle.std.proofs.Math.Bool.{not}
use mathlib.Core.List.{List, [], ◌∷◌, ◌++◌, nil≢cons, cons≢nil, head-eq_of_cons-eq, tail-eq_of_cons-eq}
use Rattle.std.proofs.Math.Dec.{T, eqb-suc-zero}
use Rattle.meaning.specs.Limits.{filler_element}
use Rattle.meaning.specs.Lists.{every, is_empty}
use Rattle.meaning.specs.Paths.{Class, Label, declared, is_element, is_label, class_of, member, valid, Included}
use Rattle.theory_lists.specs.Bools.{and_left, and_right, both, or_left, or_right, every_head, every_tail, ne_of_neqb}
use Rattle.theory_paths.specs.Words.{Word, member→word, word→member, word_trans}
use Rattle.theory_paths.specs.Valid.{may_step, valid_put, valid_first, valid_tail}

-- 0 or a label: what a path may be made of
unfoldable pub in_path : List Label → ℕ → Bool
in_path labels s = eqb s 0 || is_label labels s

-- A label f in each any-path's place. 201 serves for inclusion; for the spelling of a path (`Spelling`) a label that is in neither path.
module _ (f : ℕ) where
  -- no symbol is f
  unfoldable pub avoids : List ℕ → Bool
  avoids P = every (λ (s : ℕ). not (eqb s f)) P

  -- the word that has f for each 0
  unfoldable pub fill_by : List ℕ → List ℕ
  fill_by [] = []
  fill_by (zero ∷ P) = f ∷ fill_by P
  fill_by (suc a ∷ P) = suc a ∷ fill_by P

  pub fill_word : (P : List ℕ) → Word P (fill_by P)
  unfolding Word fill_by
  fill_word [] = refl
  fill_word (zero ∷ P) = (f ∷ [], fill_by P, refl, fill_word P)
  fill_word (suc a ∷ P) = (fill_by P, refl, fill_word P)

  -- the parts of a filled path are filled paths
  fill_parts : (P u v : List ℕ) → fill_by P ≡ u ++ v → (X : List ℕ) × (Y : List ℕ) × (P ≡ X ++ Y) × (fill_by X ≡ u) × (fill_by Y ≡ v)
  unfolding fill_by
  fill_parts P [] v e = ([], P, refl, refl, e)
  fill_parts [] (x ∷ u) v e = absurd (nil≢cons e)
  fill_parts (zero ∷ P) (x ∷ u) v e =
      let r = fill_parts P u v (tail-eq_of_cons-eq e) in
      (zero ∷ r.0, r.1, ap (λ (l : List ℕ). zero ∷ l) r.2, ap₂ ◌∷◌ (head-eq_of_cons-eq e) r.3, r.4)
  fill_parts (suc a ∷ P) (x ∷ u) v e =
      let r = fill_parts P u v (tail-eq_of_cons-eq e) in
      (suc a ∷ r.0, r.1, ap (λ (l : List ℕ). suc a ∷ l) r.2, ap₂ ◌∷◌ (head-eq_of_cons-eq e) r.3, r.4)

  -- f is no symbol of Q, so only any-paths took it, and 0 may be put back
  pub unfill_word : (Q P : List ℕ) → T (avoids Q) → Word Q (fill_by P) → Word Q P
  unfolding Word avoids fill_by
  unfill_word [] [] t h = refl
  unfill_word [] (zero ∷ P) t h = absurd (cons≢nil h)
  unfill_word [] (suc a ∷ P) t h = absurd (cons≢nil h)
  unfill_word (zero ∷ Q) P t h =
      let r = fill_parts P h.0 h.1 h.2 in
      (r.0, r.1, r.2, unfill_word Q r.1 (every_tail (λ (s : ℕ). not (eqb s f)) zero Q t) (subst (λ (l : List ℕ). Word Q l) (sym r.4) h.3))
  unfill_word (suc a ∷ Q) [] t h = absurd (nil≢cons h.1)
  unfill_word (suc a ∷ Q) (zero ∷ P) t h =
      absurd (ne_of_neqb (suc a) f (every_head (λ (s : ℕ). not (eqb s f)) (suc a) Q t) (sym (head-eq_of_cons-eq h.1)))
  unfill_word (suc a ∷ Q) (suc b ∷ P) t h = (
    P,
    ap (λ (k : ℕ). k ∷ P) (head-eq_of_cons-eq h.1),
    unfill_word Q P (every_tail (λ (s : ℕ). not (eqb s f)) (suc a) Q t)
        (subst (λ (l : List ℕ). Word Q l) (sym (tail-eq_of_cons-eq h.1)) h.2),
  )

  is_empty_fill : (P : List ℕ) → is_empty (fill_by P) ≡ is_empty P
  unfolding fill_by is_empty
  is_empty_fill [] = refl
  is_empty_fill (zero ∷ P) = refl
  is_empty_fill (suc a ∷ P) = refl

  pub fill_valid : (κ : ℕ → Class) → T (is_element (κ f)) → (P : List ℕ) → T (valid κ P) → T (valid κ (fill_by P))
  unfolding fill_by valid may_step
  fill_valid κ e [] t = tt
  fill_valid κ e (zero ∷ P) t =
      valid_put κ f (fill_by P) (or_right (is_empty (fill_by P)) (may_step κ f) (or_right (eqb f 0) (is_element (κ f)) e))
      (fill_valid κ e P (valid_tail κ zero P t))
  fill_valid κ e (suc a ∷ P) t =
      valid_put κ (suc a) (fill_by P) (subst (λ (b : Bool). T (b || may_step κ (suc a))) (sym (is_empty_fill P)) (valid_first κ (suc a) P t))
      (fill_valid κ e P (valid_tail κ (suc a) P t))

-- no symbol is the filler element
abbrev pub no_filler : List ℕ → Bool
no_filler = avoids filler_element

-- the word that has 201 for each 0
abbrev pub fill : List ℕ → List ℕ
fill = fill_by filler_element

-- the path filled by 201 is a word over the labels
filler_label : (labels : List Label) → T (is_label labels filler_element)
unfolding is_label
filler_label labels = or_left (declared labels filler_element || true) false (or_right (declared labels filler_element) true tt)

fill_labels : (labels : List Label) (P : List ℕ) → T (every (in_path labels) P) → T (every (is_label labels) (fill P))
unfolding fill_by every in_path
fill_labels labels [] t = tt
fill_labels labels (zero ∷ P) t = both (is_label labels filler_element) (every (is_label labels) (fill P)) (filler_label labels) (fill_labels labels P t)
fill_labels labels (suc a ∷ P) t =
    both (is_label labels (suc a)) (every (is_label labels) (fill P))
    (subst (λ (b : Bool). T (b || is_label labels (suc a))) (eqb-suc-zero a) (and_left (in_path labels (suc a)) (every (in_path labels) P) t))
    (fill_labels labels P (and_right (in_path labels (suc a)) (every (in_path labels) P) t))

-- any word of P, whatever its labels are, is a word of Q
pub included_any : (P Q w : List ℕ) → Word Q P → T (member P w) → T (member Q w)
included_any P Q w h t = word→member Q w (word_trans P Q w h (member→word P w t))

pub included_of_word : (labels : List Label) (P Q : List ℕ) → Word Q P → Included labels P Q
unfolding Included
included_of_word labels P Q h word known is_valid t = included_any P Q word h t

pub word_of_included : (labels : List Label) (P Q : List ℕ) → T (no_filler Q) → T (every (in_path labels) P) → T (valid (class_of labels) P)
    → T (is_element (class_of labels filler_element)) → Included labels P Q → Word Q P
unfolding Included
word_of_included labels P Q clear known is_valid filler h =
    unfill_word filler_element Q P clear
    (member→word Q (fill P)
    (h (fill P) (fill_labels labels P known) (fill_valid filler_element (class_of labels) filler P is_valid)
    (word→member P (fill P) (fill_word filler_element P))))

-- "P is included in Q if every valid word of P, over all labels with 201 and 202, is a word of Q": exactly when P is a word of Q
pub included_iff : (labels : List Label) (P Q : List ℕ) → T (no_filler Q) → T (every (in_path labels) P) → T (valid (class_of labels) P)
    → T (is_element (class_of labels filler_element)) → (Included labels P Q → Word Q P) × (Word Q P → Included labels P Q)
included_iff labels P Q clear known is_valid filler =
    (word_of_included labels P Q clear known is_valid filler, included_of_word labels P Q)
