-- The twins of a marked node are value-equal: law 4 of ARGUMENT §2, from the leaves up.
use Prim.Native.Nat.{ℕ, zero, suc, ◌+◌, ◌-◌, ◌≤◌, ◌<◌}
use Rattle.std.specs.Prelude.{◌≡◌, ◌≢◌, Bool, ◌&&◌, List, [], ◌++◌, eqb}
use Rattle.std.proofs.Math.Path.{refl, sym, ap}
use Rattle.std.proofs.Common.{subst, ◌∙◌, true≢false, append-nil, arith}
use Rattle.std.proofs.Math.Bool.{true, false, not}
use Rattle.std.proofs.lemmas.Bool.{false≢true}
use Rattle.std.proofs.Math.Decide.{dec_lt}
use Rattle.std.proofs.Math.Dec.{T, eqb→eq, eqb_refl}
use Rattle.meaning.specs.Lists.{keep, numbers}
use Rattle.meaning.specs.Paths.{Class, is_element, is_attribute}
use Rattle.meaning.specs.Trees.{Table, attributes, others, Equal, EqualLists}
use Rattle.theory_lists.specs.Bools.{and_left, and_right, both, bool_eq, false_of, true_of}
use Rattle.theory_trees.specs.Laws.{equal_leaves, equal_elements}
use Rattle.theory_counter.specs.Doubled.{Drawn, Stands, Spot, Written}
use Rattle.theory_counter.specs.Climb.{own}
use Rattle.theory_counter.specs.Twins.{filler_leaf}
use Rattle.theory_counter.specs.Ranges.{keep_none, paired_ranges, keep_three}

-- the pattern node that stands above a node of the tree: its own above a filler
unfoldable pub up : Table → ℕ → Bool → ℕ
up p x false = p.parent x
up p x true = x

-- a child of v that passes the test of its label
unfoldable child_of : Table → (ℕ → Bool) → ℕ → ℕ → Bool
child_of w c v x = eqb (w.parent x) v && c (w.label x)

module _ {κ : ℕ → Class} {p : Table} {mark : ℕ → Bool} {u : ℕ} {w : Table} (D : Drawn κ p mark u) (W : Written κ p mark u w) where
  -- up to the parent, in the same copy
  record Up (s : Bool) (n x : ℕ) (f : Bool) : Type 0 where
    inside : up p x f < p.size
    not_lower : up p x f ≤ x
    parent : w.parent n ≡ W.number s (up p x f) false

  up_of : (s : Bool) (n x : ℕ) (f : Bool) → 0 < n → n ≡ W.number s x f → Stands κ p x f → Up s n x f
  unfolding up
  up_of s n zero false l e st = absurd (let z = W.zeroth s in omega arith)
  up_of s n (suc x) false l e st =
      let h = D.above (suc x) (omega arith) st.inside in
      let i = st.inside in
      record {
        inside = omega arith;
        not_lower = omega arith;
        parent = ap (λ (k : ℕ). w.parent k) e ∙ W.parent_own s (suc x) (omega arith) i;
      }
  up_of s n x true l e st =
      record { inside = st.inside; not_lower = omega arith; parent = ap (λ (k : ℕ). w.parent k) e ∙ W.parent_filler s x st }

  -- which nodes stand before `cut`, in the first copy, in the second
  record Region (s : Bool) (n : ℕ) : Type 0 where
    node : ℕ
    filler : Bool
    stands : Stands κ p node filler
    below : u < node
    here : n ≡ W.number s node filler

  in_trunk : (n : ℕ) → n < W.cut → (i : Spot κ p W.number n) → i.node ≤ u
  in_trunk n h i = go i.second i.here (dec_lt u i.node)
    where
      go : (s : Bool) → n ≡ W.number s i.node i.filler → Dec (u < i.node) → i.node ≤ u
      go s e (no q) = omega arith
      go false e (yes q) = let r = W.first_copy i.stands q in absurd (omega arith)
      go true e (yes q) = let r = W.first_copy i.stands q in let r' = W.second_copy i.stands q in absurd (omega arith)

  in_first : (n : ℕ) → W.cut ≤ n → n < W.cut + W.gap → Spot κ p W.number n → Region false n
  in_first n h k i = go i.second i.here (dec_lt u i.node)
    where
      go : (s : Bool) → n ≡ W.number s i.node i.filler → Dec (u < i.node) → Region false n
      go s e (no q) = let r = W.trunk_before s i.stands (omega arith) in absurd (omega arith)
      go false e (yes q) = record { node = i.node; filler = i.filler; stands = i.stands; below = q; here = e }
      go true e (yes q) = let r = W.first_copy i.stands q in let r' = W.second_copy i.stands q in absurd (omega arith)

  in_second : (n : ℕ) → W.cut + W.gap ≤ n → Spot κ p W.number n → Region true n
  in_second n h i = go i.second i.here (dec_lt u i.node)
    where
      go : (s : Bool) → n ≡ W.number s i.node i.filler → Dec (u < i.node) → Region true n
      go s e (no q) = let r = W.trunk_before s i.stands (omega arith) in absurd (omega arith)
      go true e (yes q) = record { node = i.node; filler = i.filler; stands = i.stands; below = q; here = e }
      go false e (yes q) = let r = W.first_copy i.stands q in absurd (omega arith)

  module _ (z : ℕ) (below : u < z) (hz : z < p.size) where
    -- no child stands in the trunk, and none in the other copy
    trunk_none : (s : Bool) (n : ℕ) → 0 < n → n < W.cut → w.parent n ≢ W.number s z false
    trunk_none s n pos h q =
        let i = W.spot n (let e = W.sizes in omega arith) in
        let a = up_of i.second n i.node i.filler pos i.here i.stands in
        let l = in_trunk n h i in
        let m = a.not_lower in
        let r = (W.apart (own D W a.inside) (own D W hz) (sym a.parent ∙ q)).0 in
        omega arith

    copy_none : (s s' : Bool) (n : ℕ) → s ≢ s' → 0 < n → Region s' n → w.parent n ≢ W.number s z false
    copy_none s s' n d pos i q =
        let a = up_of s' n i.node i.filler pos i.here i.stands in
        let r = W.apart (own D W hz) (own D W a.inside) (sym q ∙ a.parent) in
        d (r.2 below)

    -- in the copies the children are the same
    copy_child : (c : ℕ → Bool) (n : ℕ) → 0 < n → (i : Region false n) → child_of w c (W.number false z false) n ≡ child_of w c (W.number true z false) (n + W.gap)
    unfolding child_of
    copy_child c n pos i =
        let e : n + W.gap ≡ W.number true i.node i.filler =
        ap (λ (k : ℕ). k + W.gap) i.here ∙ sym (W.second_copy i.stands i.below) in
        let a = up_of false n i.node i.filler pos i.here i.stands in
        let b = up_of true (n + W.gap) i.node i.filler (omega arith) e i.stands in
        let y = up p i.node i.filler in
        let l : w.label n ≡ w.label (n + W.gap) =
        ap (λ (k : ℕ). w.label k) i.here ∙ W.labels false i.stands ∙ sym (W.labels true i.stands) ∙ ap (λ (k : ℕ). w.label k) (sym e) in
        let there : w.parent n ≡ W.number false z false → w.parent (n + W.gap) ≡ W.number true z false =
        λ q.
        b.parent
        ∙ ap (λ (k : ℕ). W.number true k false) (W.apart (own D W a.inside) (own D W hz) (sym a.parent ∙ q)).0 in
        let back : w.parent (n + W.gap) ≡ W.number true z false → w.parent n ≡ W.number false z false =
        λ q.
        a.parent
        ∙ ap (λ (k : ℕ). W.number false k false) (W.apart (own D W b.inside) (own D W hz) (sym b.parent ∙ q)).0 in
        let v = W.number false z false in
        let v' = W.number true z false in
        bool_eq (eqb (w.parent n) v && c (w.label n)) (eqb (w.parent (n + W.gap)) v' && c (w.label (n + W.gap)))
        (λ t.
        both (eqb (w.parent (n + W.gap)) v') (c (w.label (n + W.gap)))
        (subst (λ (k : ℕ). T (eqb k v'))
        (sym (there (eqb→eq (w.parent n) v (and_left (eqb (w.parent n) v) (c (w.label n)) t)))) (eqb_refl v'))
        (subst (λ (k : ℕ). T (c k)) l (and_right (eqb (w.parent n) v) (c (w.label n)) t)))
        (λ t.
        both (eqb (w.parent n) v) (c (w.label n))
        (subst (λ (k : ℕ). T (eqb k v))
        (sym
        (back (eqb→eq (w.parent (n + W.gap)) v' (and_left (eqb (w.parent (n + W.gap)) v') (c (w.label (n + W.gap))) t))))
        (eqb_refl v))
        (subst (λ (k : ℕ). T (c k)) (sym l) (and_right (eqb (w.parent (n + W.gap)) v') (c (w.label (n + W.gap))) t)))

    child_none : (c : ℕ → Bool) (v n : ℕ) → w.parent n ≢ v → child_of w c v n ≡ false
    unfolding child_of
    child_none c v n h =
        false_of (eqb (w.parent n) v && c (w.label n)) (λ t. h (eqb→eq (w.parent n) v (and_left (eqb (w.parent n) v) (c (w.label n)) t)))

    child_parent : (c : ℕ → Bool) (v n : ℕ) → T (child_of w c v n) → w.parent n ≡ v
    unfolding child_of
    child_parent c v n t = eqb→eq (w.parent n) v (and_left (eqb (w.parent n) v) (c (w.label n)) t)

    cut_positive : 0 < W.cut
    cut_positive =
        let t = D.trunk in
        let e = W.zeroth false in
        let h = W.trunk_before false (own D W {x = 0} (omega arith)) (omega arith) in
        omega arith

    inside_size : (n : ℕ) → n < W.cut + W.gap + W.gap → n < w.size
    inside_size n h = let e = W.sizes in omega arith

    children_paired : (c : ℕ → Bool) → ((x : ℕ) (f : Bool) → Stands κ p x f → u < x → up p x f ≡ z → Equal κ w (W.number false x f) (W.number true x f))
        → EqualLists κ w (keep (child_of w c (W.number false z false)) (numbers (w.size - 1) 1))
        (keep (child_of w c (W.number true z false)) (numbers (w.size - 1) 1))
    children_paired c equal =
        let v = W.number false z false in
        let v' = W.number true z false in
        let cut = W.cut in
        let gap = W.gap in
        let pos = cut_positive in
        let f = child_of w c v in
        let g = child_of w c v' in
        let trunk : (k : Bool) → keep (child_of w c (W.number k z false)) (numbers (cut - 1) 1) ≡ [] =
        λ k.
        keep_none (child_of w c (W.number k z false)) (cut - 1) 1
        (λ n l r. child_none c (W.number k z false) n (trunk_none k n (omega arith) (omega arith))) in
        let behind : keep f (numbers gap (cut + gap)) ≡ [] =
        keep_none f gap (cut + gap)
        (λ n l r.
        child_none c v n (copy_none false true n false≢true (omega arith) (in_second n l (W.spot n (inside_size n r))))) in
        let front : keep g (numbers gap cut) ≡ [] =
        keep_none g gap cut
        (λ n l r.
        child_none c v' n (copy_none true false n true≢false (omega arith) (in_first n l r (W.spot n (inside_size n (omega arith)))))) in
        let left : keep f (numbers (w.size - 1) 1) ≡ keep f (numbers gap cut) =
        ap (λ (k : ℕ). keep f (numbers (k - 1) 1)) W.sizes ∙ keep_three f cut gap pos
        ∙ ap (λ (l : List ℕ). l ++ (keep f (numbers gap cut) ++ keep f (numbers gap (cut + gap)))) (trunk false)
        ∙ ap (λ (l : List ℕ). keep f (numbers gap cut) ++ l) behind ∙ append-nil (keep f (numbers gap cut)) in
        let right : keep g (numbers (w.size - 1) 1) ≡ keep g (numbers gap (cut + gap)) =
        ap (λ (k : ℕ). keep g (numbers (k - 1) 1)) W.sizes ∙ keep_three g cut gap pos
        ∙ ap (λ (l : List ℕ). l ++ (keep g (numbers gap cut) ++ keep g (numbers gap (cut + gap)))) (trunk true)
        ∙ ap (λ (l : List ℕ). l ++ keep g (numbers gap (cut + gap))) front in
        subst (λ (l : List ℕ). EqualLists κ w l (keep g (numbers (w.size - 1) 1))) (sym left)
        (subst (λ (l : List ℕ). EqualLists κ w (keep f (numbers gap cut)) l) (sym right)
        (paired_ranges κ w f g gap gap cut (cut + gap) refl
        (λ n l r. copy_child c n (omega arith) (in_first n l r (W.spot n (inside_size n (omega arith)))))
        (λ n l r t. pair n (omega arith) (in_first n l r (W.spot n (inside_size n (omega arith)))) (child_parent c v n t))))
      where
        pair : (n : ℕ) → 0 < n → Region false n → w.parent n ≡ W.number false z false → Equal κ w n (n + W.gap)
        pair n pos i q =
            let a = up_of false n i.node i.filler pos i.here i.stands in
            let e : n + W.gap ≡ W.number true i.node i.filler =
            ap (λ (k : ℕ). k + W.gap) i.here ∙ sym (W.second_copy i.stands i.below) in
            subst (λ (k : ℕ). Equal κ w k (n + W.gap)) (sym i.here)
            (subst (λ (k : ℕ). Equal κ w (W.number false i.node i.filler) k) (sym e)
            (equal i.node i.filler i.stands i.below
            (W.apart (own D W a.inside) (own D W hz) (sym a.parent ∙ q)).0))

  -- twins have one label; those of a marked leaf have one value
  twin_labels : (x : ℕ) (f : Bool) → Stands κ p x f → w.label (W.number false x f) ≡ w.label (W.number true x f)
  twin_labels x f st = W.labels false st ∙ sym (W.labels true st)

  marked_leaf : (x : ℕ) (f : Bool) → Stands κ p x f → T (mark x) → T (not (is_element (κ (w.label (W.number false x f)))))
      → Equal κ w (W.number false x f) (W.number true x f)
  marked_leaf x f st m n =
      let l = twin_labels x f st in
      equal_leaves l n
      (W.value_leaf false st n
      ∙ ap (λ (b : Bool). W.number (true && not b) x f) (sym (true_of (mark x) m))
      ∙ sym (W.value_leaf true st (subst (λ (k : ℕ). T (not (is_element (κ k)))) l n)))

  copies_within : (left z : ℕ) → p.size ≤ z + left → u < z → z < p.size → T (mark z) → Equal κ w (W.number false z false) (W.number true z false)
  unfolding attributes others child_of up
  copies_within zero z l b h m = absurd (omega arith)
  copies_within (suc left) z l b h m =
      go (is_element (κ (w.label (W.number false z false)))) refl
      (λ x q k t. copies_within left x (omega arith) (omega arith) k t)
    where
      go : (e : Bool) → is_element (κ (w.label (W.number false z false))) ≡ e
          → ((x : ℕ) → z < x → x < p.size → T (mark x) → Equal κ w (W.number false x false) (W.number true x false))
          → Equal κ w (W.number false z false) (W.number true z false)
      go false e ih = marked_leaf z false (own D W h) m (subst (λ (k : Bool). T (not k)) (sym e) tt)
      go true e ih =
          equal_elements (twin_labels z false (own D W h)) (subst (λ (k : Bool). T k) (sym e) tt)
          (children_paired z b h (λ l. is_attribute (κ l)) below) (children_paired z b h (λ l. not (is_attribute (κ l))) below)
        where
          below : (x : ℕ) (f : Bool) → Stands κ p x f → u < x → up p x f ≡ z → Equal κ w (W.number false x f) (W.number true x f)
          below x true st v q =
              marked_leaf x true st (subst (λ (k : ℕ). T (mark k)) (sym q) m) (filler_leaf D W (W.labels false st))
          below x false st v q =
              let a = D.above x (omega arith) st.inside in
              ih x (omega arith) st.inside
              (D.closed z x m (record { not_root = omega arith; inside = st.inside; below = q }))

  -- "the twins of each branch's end are equal by law 4"
  pub copies_equal : (z : ℕ) → u < z → z < p.size → T (mark z) → Equal κ w (W.number false z false) (W.number true z false)
  copies_equal z b h m = copies_within p.size z (omega arith) b h m
