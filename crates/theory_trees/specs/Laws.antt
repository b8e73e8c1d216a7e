-- The five laws of value equality (ARGUMENT 2). Everything above uses value equality through this module alone, so a request that
-- changes the definition's text has only these laws to prove again.
use Rattle.std.specs.Prelude.{ℕ, zero, suc, ◌≤◌, ◌+◌, ◌≡◌, refl, Bool, true, false, not}
use Rattle.std.proofs.Common.{sym, ◌∙◌, arith, T_not}
use Rattle.std.proofs.Math.Path.{subst}
use mathlib.Core.List.Permᴰ
use mathlib.Core.List.{List, [], ◌∷◌, Memᴰ}
use Rattle.std.proofs.Math.Dec.{T}
use Rattle.meaning.specs.Paths.{Class, is_element, is_attribute}
use Rattle.meaning.specs.Trees.{Table, IsTree, Child, Down, here, step, attributes, others, Equal, leaves, elements, EqualSets, matched, EqualLists, ended, paired}
use Rattle.theory_trees.specs.Below.{ParentsSmaller, child_greater}
use Rattle.theory_trees.specs.Matching.{carried, perm_mem, lists_sets}
use Rattle.theory_trees.specs.Children.{attribute_child, child_attribute, other_child, child_other}

module _ {κ : ℕ → Class} {t : Table} where
  -- 1. "equal nodes have equal labels; equal attribute or text nodes have equal values"
  pub equal_label : {x y : ℕ} → Equal κ t x y → t.label x ≡ t.label y
  equal_label (leaves l n v) = l
  equal_label (elements l e a o) = l

  pub equal_value : {x y : ℕ} → Equal κ t x y → T (not (is_element (κ (t.label x)))) → t.value x ≡ t.value y
  equal_value (leaves l n v) h = v
  equal_value {x} (elements l e a o) h = absurd (T_not (is_element (κ (t.label x))) h e)

  equal_from : {x y z : ℕ} → x ≡ y → Equal κ t y z → Equal κ t x z
  equal_from {z} e h = subst (λ (n : ℕ). Equal κ t n z) (sym e) h

-- 2. "it is reflexive, symmetric (and transitive)"
module _ {κ : ℕ → Class} {t : Table} where
  mutual
    pub equal_symmetric : {x y : ℕ} → Equal κ t x y → Equal κ t y x
    equal_symmetric (leaves l n v) = leaves (sym l) (subst (λ (k : ℕ). T (not (is_element (κ k)))) l n) (sym v)
    equal_symmetric (elements l e a o) =
        elements (sym l) (subst (λ (k : ℕ). T (is_element (κ k))) l e) (sets_symmetric a) (lists_symmetric o)

    sets_symmetric : {xs ys : List ℕ} → EqualSets κ t xs ys → EqualSets κ t ys xs
    sets_symmetric (matched p e) = let c = carried (Permᴰ.symm p) (lists_symmetric e) in matched c.order c.equal

    lists_symmetric : {xs ys : List ℕ} → EqualLists κ t xs ys → EqualLists κ t ys xs
    lists_symmetric ended = ended
    lists_symmetric (paired e r) = paired (equal_symmetric e) (lists_symmetric r)

  mutual
    pub equal_transitive : {x y z : ℕ} → Equal κ t x y → Equal κ t y z → Equal κ t x z
    equal_transitive (leaves l n v) (leaves l' n' v') = leaves (l ∙ l') n (v ∙ v')
    equal_transitive {x} (leaves l n v) (elements l' e' a' o') =
        absurd (T_not (is_element (κ (t.label x))) n (subst (λ (k : ℕ). T (is_element (κ k))) (sym l) e'))
    equal_transitive {x} (elements l e a o) (leaves l' n' v') =
        absurd (T_not (is_element (κ (t.label x))) (subst (λ (k : ℕ). T (not (is_element (κ k)))) (sym l) n') e)
    equal_transitive (elements l e a o) (elements l' e' a' o') = elements (l ∙ l') e (sets_transitive a a') (lists_transitive o o')

    sets_transitive : {xs ys zs : List ℕ} → EqualSets κ t xs ys → EqualSets κ t ys zs → EqualSets κ t xs zs
    sets_transitive (matched p e) (matched q f) =
        let c = carried p f in
        matched (Permᴰ.trans q c.order) (lists_transitive e c.equal)

    lists_transitive : {xs ys zs : List ℕ} → EqualLists κ t xs ys → EqualLists κ t ys zs → EqualLists κ t xs zs
    lists_transitive ended ended = ended
    lists_transitive (paired e r) (paired e' r') = paired (equal_transitive e e') (lists_transitive r r')

  lists_same : (xs : List ℕ) → ((x : ℕ) → Memᴰ x xs → Equal κ t x x) → EqualLists κ t xs xs
  lists_same [] h = ended
  lists_same (x ∷ xs) h = paired (h x (Memᴰ.head refl)) (lists_same xs (λ y m. h y (Memᴰ.tail m)))

  -- children have greater numbers, so what is left of the table falls
  same_within : (x : ℕ) → ((y : ℕ) → Child t x y → Equal κ t y y) → Equal κ t x x
  same_within x h = go (is_element (κ (t.label x))) refl
    where
      go : (b : Bool) → is_element (κ (t.label x)) ≡ b → Equal κ t x x
      go true e =
          elements refl (subst T (sym e) tt) (lists_sets (lists_same (attributes κ t x) (λ y m. h y (attribute_child κ t m).0)))
          (lists_same (others κ t x) (λ y m. h y (other_child κ t m).0))
      go false e = leaves refl (subst (λ (b : Bool). T (not b)) (sym e) tt) refl

  same_left : ParentsSmaller t → (left x : ℕ) → t.size ≤ x + left → Equal κ t x x
  same_left small zero x h =
      same_within x (λ y c. absurd (let g = child_greater small c in let i = c.inside in omega arith))
  same_left small (suc left) x h =
      same_within x (λ y c. same_left small left y (let g = child_greater small c in omega arith))

  pub equal_reflexive : ParentsSmaller t → (x : ℕ) → Equal κ t x x
  equal_reflexive small x = same_left small t.size x (omega arith)

-- 3. "down: a, b equal and x a child of a: some child y of b is equal to x", and so along a run of labels
pub record ChildMate (κ : ℕ → Class) (t : Table) (b x : ℕ) : Type 0 where
  pub node : ℕ
  pub child : Child t b node
  pub equal : Equal κ t x node

pub record DownMate (κ : ℕ → Class) (t : Table) (b : ℕ) (run : List ℕ) (x : ℕ) : Type 0 where
  pub node : ℕ
  pub down : Down t b run node
  pub equal : Equal κ t x node

record ListMate (κ : ℕ → Class) (t : Table) (ys : List ℕ) (x : ℕ) : Type 0 where
  node : ℕ
  among : Memᴰ node ys
  equal : Equal κ t x node

module _ {κ : ℕ → Class} {t : Table} where
  list_mate : {x : ℕ} {xs ys : List ℕ} → EqualLists κ t xs ys → Memᴰ x xs → ListMate κ t ys x
  list_mate (paired {y = y} e r) (Memᴰ.head p) = record { node = y; among = Memᴰ.head refl; equal = equal_from p e }
  list_mate (paired e r) (Memᴰ.tail m) =
      let s = list_mate r m in
      record { node = s.node; among = Memᴰ.tail s.among; equal = s.equal }
  list_mate ended x5 = elim x5 [ ]

  set_mate : {x : ℕ} {xs ys : List ℕ} → EqualSets κ t xs ys → Memᴰ x xs → ListMate κ t ys x
  set_mate (matched p e) m =
      let s = list_mate e m in
      record { node = s.node; among = perm_mem (Permᴰ.symm p) s.among; equal = s.equal }

  -- a node that has a child is an element
  parent_element : IsTree κ t → {v x : ℕ} → Child t v x → T (is_element (κ (t.label v)))
  unfolding is_element
  parent_element tree {v} {x} c =
      subst (λ (n : ℕ). T (is_element (κ (t.label n)))) c.below
      (subst (λ (k : Class). T (is_element k)) (sym (tree.rest x c.not_root c.inside).inside) tt)

  pub equal_child : IsTree κ t → {a b x : ℕ} → Equal κ t a b → Child t a x → ChildMate κ t b x
  equal_child tree {a} (leaves l n v) c = absurd (T_not (is_element (κ (t.label a))) n (parent_element tree c))
  equal_child tree {a} {b} {x} (elements l e ats os) c = go (is_attribute (κ (t.label x))) refl
    where
      go : (k : Bool) → is_attribute (κ (t.label x)) ≡ k → ChildMate κ t b x
      go true h =
          let m = set_mate ats (child_attribute κ t c (subst T (sym h) tt)) in
          record { node = m.node; child = (attribute_child κ t m.among).0; equal = m.equal }
      go false h =
          let m = list_mate os (child_other κ t c (subst (λ (k : Bool). T (not k)) (sym h) tt)) in
          record { node = m.node; child = (other_child κ t m.among).0; equal = m.equal }

  pub equal_down : IsTree κ t → {a b x : ℕ} {run : List ℕ} → Equal κ t a b → Down t a run x → DownMate κ t b run x
  equal_down tree {b} e (here p) = record { node = b; down = here refl; equal = equal_from (sym p) e }
  equal_down tree e (step y c l d) =
      let m = equal_child tree e c in
      let r = equal_down tree m.equal d in
      record { node = r.node; down = step m.node m.child (sym (equal_label m.equal) ∙ l) r.down; equal = r.equal }

  -- 4. "copy: two leaves with equal label and value are equal; two elements with equal labels whose attribute lists, and whose lists of
  -- other children, are pairwise equal in table order are equal"
  pub equal_leaves : {x y : ℕ} → t.label x ≡ t.label y → T (not (is_element (κ (t.label x)))) → t.value x ≡ t.value y → Equal κ t x y
  equal_leaves l n v = leaves l n v

  pub equal_elements : {x y : ℕ} → t.label x ≡ t.label y → T (is_element (κ (t.label x)))
      → EqualLists κ t (attributes κ t x) (attributes κ t y) → EqualLists κ t (others κ t x) (others κ t y) → Equal κ t x y
  equal_elements l e ats os = elements l e (lists_sets ats) os

  -- 5. "own attribute: equal elements that each have exactly one attribute labelled 202 have equal 202-attributes", for any label and any
  -- child: that b has no other one is enough
  pub own_attribute : IsTree κ t → {a b x y : ℕ} → Equal κ t a b → Child t a x → t.label x ≡ t.label y
      → ((z : ℕ) → Child t b z → t.label z ≡ t.label y → z ≡ y) → Equal κ t x y
  own_attribute tree {a} {b} {x} {y} e c l only =
      let m = equal_child tree e c in
      subst (λ (n : ℕ). Equal κ t x n) (only m.node m.child (sym (equal_label m.equal) ∙ l)) m.equal
