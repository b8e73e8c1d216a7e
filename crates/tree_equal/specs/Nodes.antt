-- What the tests of `node_eq` say of value equality: one law for each return.
use Rattle.std.specs.Prelude.{ℕ, ◌≡◌, Bool, true, false, not, T, eqb}
use Rattle.std.proofs.Common.{sym, ◌∙◌, ap, subst, eqb-true}
use Rattle.std.proofs.lemmas.Bool.{false≢true, eqb-false}
use Rattle.meaning.specs.Paths.{Class, is_element}
use Rattle.meaning.specs.Trees.{Table, Equal, leaves, elements, EqualSets, EqualLists}
use Rattle.theory_trees.specs.Laws.{equal_label, equal_value}
use Rattle.tree_table.specs.Rest.{list_of}
use Rattle.tree_table.specs.Tells.{Tells}

module _ (κ : ℕ → Class) (t : Table) (x y : ℕ) where
  pub labels_differ : (l m : ℕ) → l ≡ t.label x → m ≡ t.label y → (l ≡ m → ⊥) → Tells (Equal κ t x y) false
  labels_differ l m e f n = record { yes = λ h. absurd (false≢true h); no = λ h q. n (e ∙ equal_label q ∙ sym f) }

  is_leaf : (l : ℕ) → l ≡ t.label x → (b : Bool) → b ≡ is_element (κ l) → b ≡ false → T (not (is_element (κ (t.label x))))
  is_leaf l e b i f = subst (λ (c : Bool). T (not c)) (sym f ∙ i ∙ ap (λ (k : ℕ). is_element (κ k)) e) tt

  is_element_lem : (l : ℕ) → l ≡ t.label x → (b : Bool) → b ≡ is_element (κ l) → b ≡ true → T (is_element (κ (t.label x)))
  is_element_lem l e b i f = subst T (sym f ∙ i ∙ ap (λ (k : ℕ). is_element (κ k)) e) tt

  pub leaf_decides : (l m v w : ℕ) (b : Bool) → l ≡ t.label x → m ≡ t.label y → l ≡ m → b ≡ is_element (κ l) → b ≡ false → v ≡ t.value x
      → w ≡ t.value y → Tells (Equal κ t x y) (eqb v w)
  leaf_decides l m v w b e f g i h p q =
      record {
        yes = λ r. leaves (sym e ∙ g ∙ f) (is_leaf l e b i h) (sym p ∙ eqb-true v w r ∙ q);
        no = λ r s. eqb-false v w r (p ∙ equal_value s (is_leaf l e b i h) ∙ sym q);
      }

  not_leaf : T (is_element (κ (t.label x))) → T (not (is_element (κ (t.label x)))) → ⊥
  not_leaf h n = go (is_element (κ (t.label x))) h n
    where
      go : (b : Bool) → T b → T (not b) → ⊥
      go true p q = q
      go false p q = p

  -- what an element's equality says of its lists
  element_sets : T (is_element (κ (t.label x))) → Equal κ t x y → EqualSets κ t (list_of κ t true x) (list_of κ t true y)
  unfolding list_of
  element_sets h (leaves l n v) = absurd (not_leaf h n)
  element_sets h (elements l e a o) = a

  element_lists : T (is_element (κ (t.label x))) → Equal κ t x y → EqualLists κ t (list_of κ t false x) (list_of κ t false y)
  unfolding list_of
  element_lists h (leaves l n v) = absurd (not_leaf h n)
  element_lists h (elements l e a o) = o

  pub attributes_differ : (l : ℕ) (b r : Bool) → l ≡ t.label x → b ≡ is_element (κ l) → b ≡ true
      → Tells (EqualSets κ t (list_of κ t true x) (list_of κ t true y)) r → r ≡ false → Tells (Equal κ t x y) false
  attributes_differ l b r e i h d f =
      record { yes = λ g. absurd (false≢true g); no = λ g q. d.no f (element_sets (is_element_lem l e b i h) q) }

  pub others_decide : (l m : ℕ) (b r s : Bool) → l ≡ t.label x → m ≡ t.label y → l ≡ m → b ≡ is_element (κ l) → b ≡ true
      → Tells (EqualSets κ t (list_of κ t true x) (list_of κ t true y)) r → r ≡ true
      → Tells (EqualLists κ t (list_of κ t false x) (list_of κ t false y)) s → Tells (Equal κ t x y) s
  unfolding list_of
  others_decide l m b r s e f g i h d k o =
      record {
        yes = λ p. elements (sym e ∙ g ∙ f) (is_element_lem l e b i h) (d.yes k) (o.yes p);
        no = λ p q. o.no p (element_lists (is_element_lem l e b i h) q);
      }
