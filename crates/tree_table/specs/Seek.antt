-- Along the next siblings of a node to the first of a kind.
use Rattle.std.specs.Prelude.{ℕ, zero, suc, ◌+◌, ◌-◌, ◌<◌, ◌≤◌, ◌≡◌, refl, Bool, true, false, List, get_or}
use Rattle.std.proofs.Math.Path.{sym, ap}
use Rattle.std.proofs.Common.{◌∙◌, subst, true≢false, arith}
use Rattle.std.specs.Bool.{beq}
use Rattle.std.proofs.lemmas.Bool.{false≢true}
use Rattle.meaning.specs.Paths.{Class, is_attribute}
use Rattle.meaning.specs.Trees.{Table, Child}
use Rattle.tree_table.specs.Links.{LeastChild, Nexts}
use Rattle.tree_table.specs.Rest.{rest, IsKind, rest_no}

-- From link i on to link n nothing of the kind was passed: both are 0 or children of one node
pub record Passed (κ : ℕ → Class) (t : Table) (attribute : Bool) (i n : ℕ) : Type 0 where
  pub inside : n < t.size
  pub child : 0 < n → (0 < i) × Child t (t.parent i) n
  pub later : 0 < n → i ≤ n
  pub same : rest κ t attribute (t.parent i) i ≡ rest κ t attribute (t.parent i) n

-- .. and node r, where it is not 0, is of the kind
pub record Sought (κ : ℕ → Class) (t : Table) (attribute : Bool) (i r : ℕ) : Type 0 where
  pub passed : Passed κ t attribute i r
  pub kind : 0 < r → IsKind κ t attribute r

-- how far a link is from the end
unfoldable pub left : ℕ → ℕ → ℕ
left size zero = zero
left size (suc i) = size - i

pub left_falls : (size i r : ℕ) → 0 < i → i < size → (0 < r → i < r) → left size r < left size i
unfolding left
left_falls size zero r p b h = absurd (omega arith)
left_falls size (suc i) zero p b h = omega arith
left_falls size (suc i) (suc r) p b h = let g = h (omega arith) in omega arith

beq_true : (a b : Bool) → beq a b ≡ true → a ≡ b
beq_true true true e = refl
beq_true true false e = sym e
beq_true false true e = e
beq_true false false e = refl

beq_false : (a b : Bool) → beq a b ≡ false → a ≡ b → ⊥
beq_false true true e h = true≢false e
beq_false true false e h = true≢false h
beq_false false true e h = false≢true h
beq_false false false e h = true≢false e

module _ (κ : ℕ → Class) (t : Table) (attribute : Bool) where
  pub passed_start : (i : ℕ) → i < t.size → Passed κ t attribute i i
  passed_start i b =
      record { inside = b; child = λ p. (p, record { not_root = p; inside = b; below = refl }); later = λ p. omega arith; same = refl }

  -- the next sibling, or 0
  pub passed_next : (next : List ℕ) (i n r : ℕ) → Nexts t next → Passed κ t attribute i n → 0 < n → (IsKind κ t attribute n → ⊥)
      → r ≡ get_or next n 0 → Passed κ t attribute i r
  passed_next next i n r links p q k e =
      let c = p.child q in
      let l = subst (LeastChild t (t.parent i) (n + 1)) (sym e) (subst (λ (v : ℕ). LeastChild t v (n + 1) (get_or next n 0)) c.1.below (links.link n q p.inside)) in
      record {
        inside = within r l p.inside;
        child = λ h. (c.0, (l.child h).0);
        later = λ h. let g = (l.child h).1 in let f = p.later q in omega arith;
        same = p.same ∙ rest_no κ t attribute (t.parent i) n r q p.inside k l;
      }
    where
      within : (r : ℕ) → LeastChild t (t.parent i) (n + 1) r → n < t.size → r < t.size
      within zero l b = omega arith
      within (suc r) l b = let h = (l.child (omega arith)).0.inside in omega arith

  -- the code's test of a node's kind
  pub kind_told : (n l : ℕ) (b : Bool) → l ≡ t.label n → b ≡ is_attribute (κ l) → beq b attribute ≡ true → IsKind κ t attribute n
  unfolding IsKind
  kind_told n l b e a h = sym (ap (λ (k : ℕ). is_attribute (κ k)) e) ∙ sym a ∙ beq_true b attribute h

  pub kind_untold : (n l : ℕ) (b : Bool) → l ≡ t.label n → b ≡ is_attribute (κ l) → beq b attribute ≡ false → IsKind κ t attribute n → ⊥
  unfolding IsKind
  kind_untold n l b e a h k = beq_false b attribute h (a ∙ ap (λ (k : ℕ). is_attribute (κ k)) e ∙ k)

  pub sought_falls : (next : List ℕ) (n r : ℕ) → Nexts t next → 0 < n → n < t.size → r ≡ get_or next n 0
      → left t.size r < left t.size n
  sought_falls next n r links q b e =
      left_falls t.size n r q b (λ h. let g = ((subst (LeastChild t (t.parent n) (n + 1)) (sym e) (links.link n q b)).child h).1 in omega arith)

  pub sought_here : (i n : ℕ) → Passed κ t attribute i n → IsKind κ t attribute n → Sought κ t attribute i n
  sought_here i n p k = record { passed = p; kind = λ q. k }

  pub sought_none : (i n : ℕ) → n ≡ 0 → Passed κ t attribute i n → Sought κ t attribute i 0
  sought_none i n e p =
      record { passed = subst (Passed κ t attribute i) e p; kind = λ q. absurd (omega arith) }
