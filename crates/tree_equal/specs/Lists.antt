-- Two child lists walked together along the links.
use Prim.Native.Nat.{ℕ, zero, suc, ◌+◌, ◌<◌}
use Rattle.std.specs.Prelude.{◌≡◌, Bool, true, false, List, [], ◌∷◌, eqb, get_or}
use Rattle.std.proofs.Math.Path.{refl}
use Rattle.std.proofs.Common.{sym, ◌∙◌, ap, subst, subst₂, arith, eqb-true}
use Rattle.std.proofs.lemmas.Bool.{false≢true, eqb-false}
use Rattle.meaning.specs.Paths.{Class}
use Rattle.meaning.specs.Trees.{Table, Child, Equal, EqualLists, ended, paired}
use Rattle.tree_table.specs.Links.{LeastChild, Firsts, Nexts}
use Rattle.tree_table.specs.Rest.{rest, IsKind, rest_yes, linked_rest, list_of, list_kept, of_kind, kept, kept_yes, kind_yes}
use Rattle.tree_table.specs.Seek.{Sought, left, left_falls}
use Rattle.tree_table.specs.Tells.{Tells}

-- Link i is 0 or a child of v of the kind
pub record AtKind (κ : ℕ → Class) (t : Table) (attribute : Bool) (v i : ℕ) : Type 0 where
  pub inside : i < t.size
  pub child : 0 < i → Child t v i
  pub kind : 0 < i → IsKind κ t attribute i

-- Up to links i and j the lists of x and y were equal
pub record Compared (κ : ℕ → Class) (t : Table) (attribute : Bool) (x y i j : ℕ) : Type 0 where
  pub first : AtKind κ t attribute x i
  pub second : AtKind κ t attribute y j
  pub onward : EqualLists κ t (list_of κ t attribute x) (list_of κ t attribute y) → EqualLists κ t (rest κ t attribute x i) (rest κ t attribute y j)
  pub back : EqualLists κ t (rest κ t attribute x i) (rest κ t attribute y j) → EqualLists κ t (list_of κ t attribute x) (list_of κ t attribute y)

-- a child stands after its node, so nodes left below fall
pub kind_greater : (κ : ℕ → Class) (t : Table) (attribute : Bool) (v i : ℕ) → ((n : ℕ) → 0 < n → n < t.size → t.parent n < n)
    → AtKind κ t attribute v i → 0 < i → v < i
kind_greater κ t attribute v i h a p = let b = (a.child p).below in let g = h i p a.inside in omega arith

-- a link leads into the table
pub least_inside : (t : Table) (v i r e : ℕ) → 0 < t.size → LeastChild t v i e → r ≡ e → r < t.size
least_inside t v i r zero p l h = omega arith
least_inside t v i r (suc e) p l h = let c = (l.child (omega arith)).0.inside in omega arith

module _ (κ : ℕ → Class) (t : Table) (attribute : Bool) where
  -- what `seek` finds from a link of v is a link of v
  sought_kind : (v e i : ℕ) → (0 < e → Child t v e) → Sought κ t attribute e i → AtKind κ t attribute v i
  sought_kind v e i h s =
      record {
        inside = s.passed.inside;
        child = λ p. let c = s.passed.child p in subst (λ (u : ℕ). Child t u i) (h c.0).below c.1;
        kind = s.kind;
      }

  sought_rest : (v e i : ℕ) → (0 < e → Child t v e) → Sought κ t attribute e i → rest κ t attribute v e ≡ rest κ t attribute v i
  sought_rest v zero i h s = go i s
    where
      go : (i : ℕ) → Sought κ t attribute zero i → rest κ t attribute v zero ≡ rest κ t attribute v i
      go zero s = refl
      go (suc i) s = absurd (let c = (s.passed.child (omega arith)).0 in omega arith)
  sought_rest v (suc e) i h s =
      subst (λ (u : ℕ). rest κ t attribute u (suc e) ≡ rest κ t attribute u i) (h (omega arith)).below s.passed.same

  pub first_list : (first : List ℕ) (v e i : ℕ) → Firsts t first → v < t.size → e ≡ get_or first v 0 → Sought κ t attribute e i
      → AtKind κ t attribute v i × (list_of κ t attribute v ≡ rest κ t attribute v i)
  first_list first v e i links b h s =
      let l = subst (LeastChild t v 1) (sym h) (links.link v b) in (
        sought_kind v e i (λ p. (l.child p).0) s,
        list_kept κ t attribute v ∙ linked_rest κ t attribute v 1 e (omega arith) l ∙ sought_rest v e i (λ p. (l.child p).0) s,
      )

  pub next_list : (next : List ℕ) (v i e r : ℕ) → Nexts t next → AtKind κ t attribute v i → 0 < i → e ≡ get_or next i 0 → Sought κ t attribute e r
      → AtKind κ t attribute v r × (rest κ t attribute v i ≡ i ∷ rest κ t attribute v r)
  next_list next v i e r links a p h s =
      let c = a.child p in
      let l = subst (LeastChild t v (i + 1)) (sym h) (subst (λ (u : ℕ). LeastChild t u (i + 1) (get_or next i 0)) c.below (links.link i p a.inside)) in (
        sought_kind v e r (λ q. (l.child q).0) s,
        rest_yes κ t attribute v i e p a.inside c.below (a.kind p) l
            ∙ ap (λ (w : List ℕ). i ∷ w) (sought_rest v e r (λ q. (l.child q).0) s),
      )

  pub compared_start : (first : List ℕ) (x y e f i j : ℕ) → Firsts t first → x < t.size → y < t.size → e ≡ get_or first x 0 → f ≡ get_or first y 0
      → Sought κ t attribute e i → Sought κ t attribute f j → Compared κ t attribute x y i j
  compared_start first x y e f i j links a b g h s u =
      let p = first_list first x e i links a g s in
      let q = first_list first y f j links b h u in
      record {
        first = p.0;
        second = q.0;
        onward = λ w. subst₂ (EqualLists κ t) p.1 q.1 w;
        back = λ w. subst₂ (EqualLists κ t) (sym p.1) (sym q.1) w;
      }

  tail_equal : {i j : ℕ} {xs ys : List ℕ} → EqualLists κ t (i ∷ xs) (j ∷ ys) → EqualLists κ t xs ys
  tail_equal (paired h w) = w

  head_equal : {i j : ℕ} {xs ys : List ℕ} → EqualLists κ t (i ∷ xs) (j ∷ ys) → Equal κ t i j
  head_equal (paired h w) = h

  pub compared_more : (next : List ℕ) (x y i j e f k l : ℕ) (r : Bool) → Nexts t next → Compared κ t attribute x y i j → 0 < i → 0 < j
      → Tells (Equal κ t i j) r → r ≡ true → e ≡ get_or next i 0 → Sought κ t attribute e k → f ≡ get_or next j 0 → Sought κ t attribute f l
      → Compared κ t attribute x y k l
  compared_more next x y i j e f k l r links c p q d told g s h u =
      let m = next_list next x i e k links c.first p g s in
      let n = next_list next y j f l links c.second q h u in
      record {
        first = m.0;
        second = n.0;
        onward = λ w. tail_equal (subst₂ (EqualLists κ t) m.1 n.1 (c.onward w));
        back = λ w. c.back (subst₂ (EqualLists κ t) (sym m.1) (sym n.1) (paired (d.yes told) w));
      }

  -- a turn leads on
  pub compared_falls : (next : List ℕ) (v i e r : ℕ) → Nexts t next → AtKind κ t attribute v i → 0 < i → e ≡ get_or next i 0 → Sought κ t attribute e r
      → left t.size r < left t.size i
  compared_falls next v i e r links a p h s =
      left_falls t.size i r p a.inside
      (λ q.
      let g = s.passed.later q in
      let f = ((subst (LeastChild t (t.parent i) (i + 1)) (sym h) (links.link i p a.inside)).child (s.passed.child q).0).1 in
      omega arith)

  -- a child of the kind is the first of what is left
  pub rest_head : (v i : ℕ) → AtKind κ t attribute v i → 0 < i
      → rest κ t attribute v i ≡ i ∷ kept (of_kind κ t attribute v) t.size (i + 1)
  unfolding rest
  rest_head v zero a p = absurd (omega arith)
  rest_head v (suc i) a p =
      kept_yes (of_kind κ t attribute v) t.size (suc i) a.inside (kind_yes κ t attribute v (suc i) (a.child p).below (a.kind p))

  pub rest_none : (v : ℕ) → rest κ t attribute v 0 ≡ []
  unfolding rest
  rest_none v = refl

  never_shorter : {j : ℕ} {ys : List ℕ} → EqualLists κ t [] (j ∷ ys) → ⊥
  never_shorter w = elim w [ ]

  never_longer : {i : ℕ} {xs : List ℕ} → EqualLists κ t (i ∷ xs) [] → ⊥
  never_longer w = elim w [ ]

  -- one law for each return of `children_eq`
  pub list_longer : (x y i j : ℕ) → Compared κ t attribute x y i j → 0 < i → j ≡ 0
      → Tells (EqualLists κ t (list_of κ t attribute x) (list_of κ t attribute y)) false
  list_longer x y i j c p e =
      record {
        yes = λ h. absurd (false≢true h);
        no = λ h w. never_longer
            (subst₂ (EqualLists κ t) (rest_head x i c.first p) (ap (rest κ t attribute y) e ∙ rest_none y) (c.onward w));
      }

  pub lists_differ : (x y i j : ℕ) (r : Bool) → Compared κ t attribute x y i j → 0 < i → 0 < j → Tells (Equal κ t i j) r → r ≡ false
      → Tells (EqualLists κ t (list_of κ t attribute x) (list_of κ t attribute y)) false
  lists_differ x y i j r c p q d n =
      record {
        yes = λ h. absurd (false≢true h);
        no = λ h w. d.no n
            (head_equal (subst₂ (EqualLists κ t) (rest_head x i c.first p) (rest_head y j c.second q) (c.onward w)));
      }

  pub lists_end : (x y i j : ℕ) → Compared κ t attribute x y i j → i ≡ 0
      → Tells (EqualLists κ t (list_of κ t attribute x) (list_of κ t attribute y)) (eqb j 0)
  lists_end x y i j c e =
      record {
        yes = λ h.
            c.back
            (subst₂ (EqualLists κ t) (sym (ap (rest κ t attribute x) e ∙ rest_none x))
            (sym (ap (rest κ t attribute y) (eqb-true j 0 h) ∙ rest_none y)) ended);
        no = λ h w. never_shorter
            (subst₂ (EqualLists κ t) (ap (rest κ t attribute x) e ∙ rest_none x)
            (rest_head y j c.second (let n = eqb-false j 0 h in omega arith)) (c.onward w));
      }
