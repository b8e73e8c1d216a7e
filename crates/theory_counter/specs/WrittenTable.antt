-- The table that the written nodes say is the doubled pattern of `Doubled`.
use Prim.Native.Nat.{ℕ, zero, suc, ◌+◌, ◌-◌, ◌≤◌, ◌<◌}
use Rattle.std.specs.Prelude.{◌≡◌, ◌⊎◌, Bool, ◌&&◌}
use Rattle.std.proofs.Math.Path.{refl, sym, ap}
use Rattle.std.proofs.Common.{subst, ◌∙◌}
use Rattle.std.proofs.Math.Logic.{inl, inr}
use Rattle.std.proofs.Math.Bool.{true, false, cond, not, and-true, and-false}
use native.Mathlib.Omega.{arith}
use Rattle.std.proofs.Math.Decide.{dec_lt}
use lib.Dec.{T, eqb, ltb, eqb→eq, ltb→lt, lt→ltb}
use Rattle.std.proofs.Math.ListN.{length, get_or}
use Rattle.meaning.specs.Limits.{filler_attribute, no_number}
use Rattle.meaning.specs.Paths.{Class, is_element}
use Rattle.meaning.specs.Trees.{Node, no_node, table_of}
use Rattle.meaning.specs.Keys.{Key}
use Rattle.meaning.specs.Pattern.{
  pattern_nodes,
  pattern,
  marked,
  place_of,
  Dressed,
  filler,
  dressed_node,
  dressed_nodes,
  no_dressed,
  written_node,
  written_nodes,
}
use Rattle.theory_lists.specs.Bools.{true_of, false_of}
use Rattle.theory_counter.specs.Doubled.{Drawn, Stands, Spot, Written}
use Rattle.theory_counter.specs.Places.{bit, shift, number_of, shift_below, Placing, place_above, place_trunk, place_below, place_within}
use Rattle.theory_counter.specs.Doubling.{
  number_trunk,
  number_first,
  number_second,
  number_apart,
  number_above,
  number_within,
}
use Rattle.theory_counter.specs.Dressing.{dressed_at, dressed_find, DressedSpot}
use Rattle.theory_counter.specs.WrittenLaws.{gap_of, number_in, placing, all_nodes, written_length, written_at}

module _ (κ : ℕ → Class) (asked : Key) (u : ℕ) (hu : u < length (pattern_nodes asked)) where
  label_at : (s : Bool) {x : ℕ} {f : Bool} → Stands κ (pattern asked) x f
      → (get_or (written_nodes κ asked u) (number_in κ asked u s x f) no_node).label ≡ cond f filler_attribute (get_or (pattern_nodes asked) x no_node).label
  unfolding written_node
  label_at s {x} {f} st =
      ap (λ (n : Node). n.label) (written_at κ asked u hu s x f st) ∙ ap (λ (d : Dressed). d.label) (dressed_at κ asked x f st) ∙ go f
    where
      go : (f : Bool) → (cond f (filler κ asked x) (dressed_node κ asked x)).label ≡ cond f filler_attribute (get_or (pattern_nodes asked) x no_node).label
      go true = unfold filler in refl
      go false = unfold dressed_node in refl

  -- the parent's number: a place before the cut stays, one behind it moves with the copy
  parent_number : (s : Bool) (x z y : ℕ) → 0 < y → z ≤ x → z < length (pattern_nodes asked)
      → cond (eqb y 0) no_number
      (cond (ltb (place_of κ asked z) (place_of κ asked (suc u))) (place_of κ asked z) (place_of κ asked z + shift u (gap_of κ asked u) s x))
      ≡ number_in κ asked u s z false
  unfolding number_in pattern table_of bit
  parent_number s x z y pos l h =
      ap
      (λ (b : Bool).
      cond b no_number
      (cond (ltb (place_of κ asked z) (place_of κ asked (suc u))) (place_of κ asked z) (place_of κ asked z + shift u (gap_of κ asked u) s x)))
      (false_of (eqb y 0) (λ t. let e = eqb→eq y 0 t in omega arith))
      ∙ go (dec_lt u z)
    where
      P : Placing κ (pattern asked) u (place_of κ asked) (place_of κ asked (suc u)) (gap_of κ asked u)
      P = placing κ asked u hu

      st : Stands κ (pattern asked) z false
      st = record { inside = h; owner = λ t. absurd t }

      go : Dec (u < z)
          → cond (ltb (place_of κ asked z) (place_of κ asked (suc u))) (place_of κ asked z) (place_of κ asked z + shift u (gap_of κ asked u) s x)
          ≡ number_of (place_of κ asked) u (gap_of κ asked u) s z false
      go (no k) =
          let t = place_trunk P st (omega arith) in
          let n = number_trunk P s z false (omega arith) in
          ap (λ (b : Bool). cond b (place_of κ asked z) (place_of κ asked z + shift u (gap_of κ asked u) s x))
          (true_of (ltb (place_of κ asked z) (place_of κ asked (suc u))) (lt→ltb (place_of κ asked z) (place_of κ asked (suc u)) (omega arith)))
          ∙ (omega arith)
      go (yes k) =
          let c = place_below P z k h in
          ap (λ (b : Bool). cond b (place_of κ asked z) (place_of κ asked z + shift u (gap_of κ asked u) s x))
          (false_of (ltb (place_of κ asked z) (place_of κ asked (suc u)))
          (λ t. let q = ltb→lt (place_of κ asked z) (place_of κ asked (suc u)) t in omega arith))
          ∙ moved s
        where
          moved : (s : Bool) → place_of κ asked z + shift u (gap_of κ asked u) s x ≡ number_of (place_of κ asked) u (gap_of κ asked u) s z false
          moved false = let e = shift_below u (gap_of κ asked u) false x (omega arith) in let n = number_first P z false in omega arith
          moved true = let e = shift_below u (gap_of κ asked u) true x (omega arith) in let n = number_second P z false k in omega arith

  parent_at : (s : Bool) (x : ℕ) (f : Bool) (z : ℕ) → Stands κ (pattern asked) x f → 0 < place_of κ asked x + bit f → z ≤ x
      → z < length (pattern_nodes asked) → (cond f (filler κ asked x) (dressed_node κ asked x)).parent ≡ place_of κ asked z
      → (get_or (written_nodes κ asked u) (number_in κ asked u s x f) no_node).parent ≡ number_in κ asked u s z false
  unfolding written_node
  parent_at s x f z st pos l h e =
      let cut = place_of κ asked (suc u) in
      let sh = shift u (gap_of κ asked u) s x in
      let y = place_of κ asked x + bit f in
      ap (λ (n : Node). n.parent) (written_at κ asked u hu s x f st)
      ∙ ap (λ (q : ℕ). cond (eqb y 0) no_number (cond (ltb q cut) q (q + sh))) (ap (λ (d : Dressed). d.parent) (dressed_at κ asked x f st) ∙ e)
      ∙ parent_number s x z y pos l h

  value_at : (s : Bool) {x : ℕ} {f : Bool} → Stands κ (pattern asked) x f
      → T (not (is_element (κ (get_or (written_nodes κ asked u) (number_in κ asked u s x f) no_node).label)))
      → (get_or (written_nodes κ asked u) (number_in κ asked u s x f) no_node).value ≡ number_in κ asked u (s && not (marked asked x)) x f
  unfolding written_node number_in number_of shift
  value_at s {x} {f} st n =
      let y = place_of κ asked x + bit f in
      let sh = shift u (gap_of κ asked u) s x in
      let cut = place_of κ asked (suc u) in
      let d = get_or (dressed_nodes κ asked) y (no_dressed κ asked) in
      let same : (get_or (written_nodes κ asked u) (number_in κ asked u s x f) no_node).label ≡ d.label =
      ap (λ (n : Node). n.label) (written_at κ asked u hu s x f st) in
      let leaf : is_element (κ d.label) ≡ false =
      false_of (is_element (κ d.label))
      (λ t. lib.Dec.T_not (is_element (κ d.label)) (subst (λ (l : ℕ). T (not (is_element (κ l)))) same n) t) in
      ap (λ (n : Node). n.value) (written_at κ asked u hu s x f st)
      ∙ ap (λ (b : Bool). cond b 0 (cond d.mark y (y + sh))) leaf
      ∙ ap (λ (b : Bool). cond b y (y + sh)) (ap (λ (d : Dressed). d.mark) (dressed_at κ asked x f st) ∙ mark f)
      ∙ go (marked asked x)
    where
      mark : (f : Bool) → (cond f (filler κ asked x) (dressed_node κ asked x)).mark ≡ marked asked x
      mark true = unfold filler in refl
      mark false = unfold dressed_node in refl

      go : (m : Bool) → cond m (place_of κ asked x + bit f) (place_of κ asked x + bit f + cond (s && ltb u x) (gap_of κ asked u) 0)
          ≡ place_of κ asked x + bit f + cond (s && not m && ltb u x) (gap_of κ asked u) 0
      go true =
          let e : cond (s && false && ltb u x) (gap_of κ asked u) 0 ≡ 0 = ap (λ (b : Bool). cond (b && ltb u x) (gap_of κ asked u) 0) (and-false s) in
          omega arith
      go false =
          ap (λ (b : Bool). place_of κ asked x + bit f + cond (b && ltb u x) (gap_of κ asked u) 0) (sym (and-true s))

  own_place : (x : ℕ) → x < length (pattern_nodes asked) → Stands κ (pattern asked) x false
  unfolding pattern table_of
  own_place x h = record { inside = h; owner = λ t. absurd t }

  place_positive : (x : ℕ) → 0 < x → x < length (pattern_nodes asked) → 0 < place_of κ asked x + bit false
  unfolding bit
  place_positive x l h =
      let a = place_above (placing κ asked u hu) l (own_place 0 (omega arith)) (own_place x h) in
      omega arith

  spot_at : (n : ℕ) → n < length (written_nodes κ asked u) → Spot κ (pattern asked) (number_in κ asked u) n
  unfolding number_in
  spot_at n h = go (dec_lt n (length (dressed_nodes κ asked)))
    where
      P : Placing κ (pattern asked) u (place_of κ asked) (place_of κ asked (suc u)) (gap_of κ asked u)
      P = placing κ asked u hu

      second : (m : ℕ) → m + gap_of κ asked u ≡ n → place_of κ asked (suc u) ≤ m → DressedSpot κ asked m → Spot κ (pattern asked) (number_in κ asked u) n
      second m e l d = side (dec_lt u d.node)
        where
          side : Dec (u < d.node) → Spot κ (pattern asked) (number_in κ asked u) n
          side (no k) = absurd (let t = place_trunk P d.stands (omega arith) in let q = d.here in omega arith)
          side (yes k) =
              let r = number_second P d.node d.filler k in
              let q = d.here in
              record { second = true; node = d.node; filler = d.filler; stands = d.stands; here = omega arith }

      go : Dec (n < length (dressed_nodes κ asked)) → Spot κ (pattern asked) (number_in κ asked u) n
      go (yes k) =
          let d = dressed_find κ asked n k in
          let r = number_first P d.node d.filler in
          let q = d.here in
          record { second = false; node = d.node; filler = d.filler; stands = d.stands; here = omega arith }
      go (no k) =
          let a = all_nodes κ asked u hu in
          let l = written_length κ asked u hu in
          let m : ℕ = n - gap_of κ asked u in
          second m (omega arith) (omega arith) (dressed_find κ asked m (omega arith))

  pub written_doubled : Drawn κ (pattern asked) (marked asked) u → Written κ (pattern asked) (marked asked) u (table_of (written_nodes κ asked u))
  unfolding pattern table_of number_in bit
  written_doubled D =
      let P = placing κ asked u hu in
      record {
        number = number_in κ asked u;
        spot = spot_at;
        within = λ s st. let l = written_length κ asked u hu in let w = number_within P s st in omega arith;
        zeroth = λ s. let n = number_trunk P s 0 false (omega arith) in let z = P.start in omega arith;
        labels = label_at;
        parent_own =
            λ s x l h.
            let a = D.above x l h in
            parent_at s x false (get_or (pattern_nodes asked) x no_node).parent (own_place x h) (place_positive x l h) (omega arith) (omega arith)
            (unfold dressed_node in refl);
        parent_filler = λ s x st. parent_at s x true x st (omega arith) (omega arith) st.inside (unfold filler in refl);
        value_leaf = value_at;
        apart = λ a b e. number_apart P a b e;
        trunk_once = λ s s' x f h. number_trunk P s x f h ∙ sym (number_trunk P s' x f h);
        above_own = number_above P;
        above_filler = λ s x st. unfold number_of in omega arith;
        cut = place_of κ asked (suc u);
        gap = gap_of κ asked u;
        sizes = written_length κ asked u hu;
        trunk_before = λ s {x} {f} st h. let n = number_trunk P s x f h in let t = place_trunk P st h in omega arith;
        first_copy =
            λ {x} {f} st h.
            let n = number_first P x f in
            let b = place_below P x h st.inside in
            let w = place_within P st in
            (omega arith, omega arith);
        second_copy = λ {x} {f} st h. let n = number_first P x f in let m = number_second P x f h in omega arith;
      }

  -- "An element's value is 0"
  value_element : (s : Bool) {x : ℕ} {f : Bool} → Stands κ (pattern asked) x f
      → T (is_element (κ (get_or (written_nodes κ asked u) (number_in κ asked u s x f) no_node).label))
      → (get_or (written_nodes κ asked u) (number_in κ asked u s x f) no_node).value ≡ 0
  unfolding written_node
  value_element s {x} {f} st n =
      let y = place_of κ asked x + bit f in
      let sh = shift u (gap_of κ asked u) s x in
      let d = get_or (dressed_nodes κ asked) y (no_dressed κ asked) in
      let same : (get_or (written_nodes κ asked u) (number_in κ asked u s x f) no_node).label ≡ d.label =
      ap (λ (n : Node). n.label) (written_at κ asked u hu s x f st) in
      ap (λ (n : Node). n.value) (written_at κ asked u hu s x f st)
      ∙ ap (λ (b : Bool). cond b 0 (cond d.mark y (y + sh)))
      (true_of (is_element (κ d.label)) (subst (λ (l : ℕ). T (is_element (κ l))) same n))

  pub element_zero : (n : ℕ) → n < length (written_nodes κ asked u) → T (is_element (κ (get_or (written_nodes κ asked u) n no_node).label))
      → (get_or (written_nodes κ asked u) n no_node).value ≡ 0
  element_zero n h t =
      let i = spot_at n h in
      ap (λ (k : ℕ). (get_or (written_nodes κ asked u) k no_node).value) i.here
      ∙ value_element i.second i.stands
      (subst (λ (k : ℕ). T (is_element (κ (get_or (written_nodes κ asked u) k no_node).label))) i.here t)

  -- every value is the number of a node, or 0
  pub value_within : (n : ℕ) → n < length (written_nodes κ asked u) → (get_or (written_nodes κ asked u) n no_node).value < length (written_nodes κ asked u)
  unfolding number_in
  value_within n h = go (is_element (κ (get_or (written_nodes κ asked u) n no_node).label)) refl (spot_at n h)
    where
      go : (b : Bool) → is_element (κ (get_or (written_nodes κ asked u) n no_node).label) ≡ b → Spot κ (pattern asked) (number_in κ asked u) n
          → (get_or (written_nodes κ asked u) n no_node).value < length (written_nodes κ asked u)
      go true e i = let z = element_zero n h (subst (λ (b : Bool). T b) (sym e) tt) in omega arith
      go false e i =
          let v : (get_or (written_nodes κ asked u) n no_node).value ≡ number_in κ asked u (i.second && not (marked asked i.node)) i.node i.filler =
          ap (λ (k : ℕ). (get_or (written_nodes κ asked u) k no_node).value) i.here
          ∙ value_at i.second i.stands
          (subst (λ (k : ℕ). T (not (is_element (κ (get_or (written_nodes κ asked u) k no_node).label)))) i.here
          (subst (λ (b : Bool). T (not b)) (sym e) tt)) in
          let l = written_length κ asked u hu in
          let w = number_within (placing κ asked u hu) (i.second && not (marked asked i.node)) i.stands in
          omega arith

  -- "the root is node 0 with parent 65535"
  root_number : number_in κ asked u false 0 false ≡ 0
  unfolding number_in bit
  root_number = let P = placing κ asked u hu in let n = number_first P 0 false in let z = P.start in omega arith

  root_place : place_of κ asked 0 + bit false ≡ 0
  unfolding bit
  root_place = let z = (placing κ asked u hu).start in omega arith

  pub root_parent : (get_or (written_nodes κ asked u) 0 no_node).parent ≡ no_number
  unfolding written_node
  root_parent =
      let cut = place_of κ asked (suc u) in
      let sh = shift u (gap_of κ asked u) false 0 in
      ap (λ (k : ℕ). (get_or (written_nodes κ asked u) k no_node).parent) (sym root_number)
      ∙ ap (λ (n : Node). n.parent) (written_at κ asked u hu false 0 false (own_place 0 (omega arith)))
      ∙ ap (λ (y : ℕ). (written_node κ asked cut sh y).parent) root_place

  -- a node below the root is a filler or has a pattern node's label
  pub label_of : (n : ℕ) → 0 < n → n < length (written_nodes κ asked u)
      → ((get_or (written_nodes κ asked u) n no_node).label ≡ filler_attribute)
      ⊎ ((x : ℕ) × (0 < x) × (x < length (pattern_nodes asked)) × ((get_or (written_nodes κ asked u) n no_node).label ≡ (get_or (pattern_nodes asked) x no_node).label))
  unfolding pattern table_of number_in bit
  label_of n pos h = let i = spot_at n h in go i.second i.node i.filler i.stands i.here
    where
      go : (s : Bool) (x : ℕ) (f : Bool) → Stands κ (pattern asked) x f → n ≡ number_in κ asked u s x f
          → ((get_or (written_nodes κ asked u) n no_node).label ≡ filler_attribute)
          ⊎ ((x : ℕ) × (0 < x) × (x < length (pattern_nodes asked)) × ((get_or (written_nodes κ asked u) n no_node).label ≡ (get_or (pattern_nodes asked) x no_node).label))
      go s x true st e = inl (ap (λ (k : ℕ). (get_or (written_nodes κ asked u) k no_node).label) e ∙ label_at s st)
      go s zero false st e =
          absurd
          (let P = placing κ asked u hu in
          let n = number_trunk P s 0 false (omega arith) in
          let z = P.start in
          omega arith)
      go s (suc x) false st e =
          inr (suc x, omega arith, st.inside, ap (λ (k : ℕ). (get_or (written_nodes κ asked u) k no_node).label) e ∙ label_at s st)
