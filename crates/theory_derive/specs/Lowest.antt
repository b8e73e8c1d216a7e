-- ARGUMENT 4: the loop's final u is the u of 01, and where it is t the steps lead from t to q.
use Rattle.std.specs.Prelude.{ℕ, zero, suc, ◌+◌, ◌-◌, ◌≤◌, ◌<◌, min, ◌≡◌, refl, ◌⊎◌, length, Bool}
use Rattle.std.proofs.Common.{sym, subst₂, ◌∙◌, inl, inr, ⊎_elim, arith, ne_eqb}
use Rattle.std.proofs.Math.Path.{ap, subst}
use mathlib.Core.List.{List, Memᴰ}
use Rattle.std.proofs.Math.Option.{some}
use Rattle.std.proofs.Math.Dec.{T}
use Rattle.std.proofs.Math.ListN.{get_or, get_elem?, get_or-append}
use Rattle.std.proofs.Math.Bool.{cond}
use Rattle.meaning.specs.Limits.{in_profile}
use Rattle.meaning.specs.Lists.{Each}
use Rattle.meaning.specs.Paths.{Label, class_of, singles}
use Rattle.meaning.specs.Trees.{Child}
use Rattle.meaning.specs.Keys.{Key}
use Rattle.meaning.specs.Pattern.{drawn, pattern, t_of, q_of, Step, to_child, to_parent, by_key, Leads, arrived, onward, IsU}
use Rattle.theory_lists.specs.Bools.{Each-at}
use Rattle.theory_paths.specs.Good.{GoodLabels, GoodKey, paths_some}
use Rattle.theory_lists.specs.Logic.{less_or}
use Rattle.theory_pattern.specs.Spots.{Taken, chain_of, branch_of, row_of, Ends, at_t, above_single, Fires, Chain, begun, taken}
use Rattle.theory_pattern.specs.Rows.{chain_length, row_length}
use Rattle.theory_pattern.specs.Numbers.{spot_node, spot_chain}
use Rattle.theory_pattern.specs.Places.{IsSpot, Place, spot_label, spot_child, spot_parent, spot_above, place_of, spot_once}
use Rattle.theory_derive.specs.Steps.{OnLines, fires_step, on_lines}
use Rattle.theory_derive.specs.Accept.{turns}
use Rattle.theory_pattern.specs.Singles.{single_clear, single_symbol}
use Rattle.theory_pattern.specs.PatternOnce.{single_end}

-- a member of a list has a number there
pub record Numbered {A : Type 0} (xs : List A) (x : A) : Type 0 where
  pub number : ℕ
  pub found : get_elem? xs number ≡ some x

pub mem_number : {A : Type 0} {x : A} {xs : List A} → Memᴰ x xs → Numbered xs x
mem_number (Memᴰ.head e) = record { number = 0; found = ap some (sym e) }
mem_number (Memᴰ.tail m) = let r = mem_number m in record { number = suc r.number; found = r.found }

-- ---- down-steps are free

module _ (single : ℕ → Bool) (keys : List Key) (asked : Key) where
  pub leads_down : (d i j k z : ℕ) → k ≡ i + d → IsSpot asked j k → Leads single keys asked (spot_node asked j k) z → Leads single keys asked (spot_node asked j i) z
  leads_down zero i j k z e s r = subst (λ m. Leads single keys asked (spot_node asked j m) z) (let q : k ≡ i = omega arith in q) r
  leads_down (suc d) i j k z e s r =
      onward (spot_node asked j (suc i)) (to_child (spot_child asked j i (spot_above asked j (suc i) k (omega arith) s)))
      (leads_down d (suc i) j k z (omega arith) s r)

  -- each u of the loop leads to q
  pub chain_leads : {u : ℕ} {steps : List Taken} → Chain keys asked u steps → Leads single keys asked u (q_of asked)
  chain_leads begun = arrived refl
  chain_leads (taken {u} t chain un f uk iu) =
      let g = f.firing in
      let j = t.branch in
      let k = t.spot in
      let spot : IsSpot asked j k = record { is_branch = g.is_branch; on_row = g.on_row } in
      let chained : IsSpot asked j u = record { is_branch = g.is_branch; on_row = omega (arith, row_length asked j) } in
      let back : Leads single keys asked t.node (q_of asked) =
      subst (λ x. Leads single keys asked x (q_of asked)) (spot_chain asked j t.node g.on_chain)
      (leads_down (u - t.node) t.node j u (q_of asked) (omega arith) chained
      (subst (λ x. Leads single keys asked x (q_of asked)) (sym (spot_chain asked j u (omega arith))) (chain_leads chain))) in
      subst (λ x. Leads single keys asked x (q_of asked)) (spot_chain asked j (min k (t_of asked)) (omega arith))
      (leads_down (k - min k (t_of asked)) (min k (t_of asked)) j k (q_of asked) (omega arith) spot (onward t.node (fires_step asked single keys t f) back))

-- ---- what lies below u stays below it

-- x is a spot deeper than u
pub record Below (asked : Key) (u x : ℕ) : Type 0 where
  pub branch : ℕ
  pub depth : ℕ
  pub spot : IsSpot asked branch depth
  pub place : x ≡ spot_node asked branch depth
  pub deeper : u < depth

module _ (second : Bool) (labels : List Label) (gl : GoodLabels labels) (keys : List Key) (asked : Key) (gk : Each (GoodKey labels in_profile) keys)
    (g : GoodKey labels in_profile asked) where
  abbrev single : ℕ → Bool
  single = singles second (class_of labels)

  -- a single label stands last on its line, so on the chain there is none above t
  single_last : (u j : ℕ) → u < t_of asked → IsSpot asked j (suc u) → T (single ((pattern asked).label (spot_node asked j (suc u))))
      → (suc u ≡ t_of asked) × T (single (get_or (chain_of asked) u 0))
  unfolding row_of
  single_last u j h s t =
      let line = row_of asked j in
      let same : get_or line u 0 ≡ get_or (chain_of asked) u 0 = get_or-append (chain_of asked) (branch_of asked j) 0 u (omega (arith, chain_length asked)) in
      let d = single_symbol second labels gl (get_or line u 0) (subst (λ (k : ℕ). T (single k)) (spot_label asked j u s) t) in
      let end = single_end second labels gl asked g j u s t in
      (omega (arith, row_length asked j), subst (λ (k : ℕ). T (single k)) same d)

  module _ (u : ℕ) (un : u < t_of asked) (final : (t : Taken) → Fires keys asked t → u < t.spot → t.node ≤ u → ⊥)
      (above : suc u ≡ t_of asked → T (single (get_or (chain_of asked) u 0)) → ⊥) where
    step_below : (x y : ℕ) → Below asked u x → Step single keys asked x y → Below asked u y
    step_below x y b (to_child c) = go (place_of asked (paths_some labels in_profile asked g) y c.inside)
      where
        at : (j k : ℕ) → IsSpot asked j k → y ≡ spot_node asked j k → Below asked u y
        at j zero s e = absurd (let z : y ≡ 0 = e ∙ spot_chain asked j 0 (omega arith) in omega (arith, c.not_root))
        at j (suc k) s e =
            let o = spot_once asked b.branch j b.depth k b.spot (spot_above asked j k (suc k) (omega arith) s)
            (sym b.place ∙ sym c.below ∙ ap (pattern asked).parent e ∙ spot_parent asked j k s) in
            record { branch = j; depth = suc k; spot = s; place = e; deeper = omega (arith, o.0, b.deeper) }

        go : Place asked y → Below asked u y
        go p = at p.branch p.depth p.spot p.place
    step_below x y b (to_parent t c) = at b.branch b.depth b.spot b.place b.deeper
      where
        at : (j k : ℕ) → IsSpot asked j k → x ≡ spot_node asked j k → u < k → Below asked u y
        at j zero s e h = absurd (omega arith)
        at j (suc k) s e h =
            ⊎_elim
            (λ (l : u < k).
            record {
              branch = j;
              depth = k;
              spot = spot_above asked j k (suc k) (omega arith) s;
              place = sym c.below ∙ ap (pattern asked).parent e ∙ spot_parent asked j k s;
              deeper = l;
            })
            (λ (l : k ≤ u).
            let q : k ≡ u = omega arith in
            let z = single_last u j un (subst (λ (d : ℕ). IsSpot asked j (suc d)) q s)
            (subst (λ (n : ℕ). T (single ((pattern asked).label n))) (e ∙ ap (λ (d : ℕ). spot_node asked j (suc d)) q) t) in
            absurd (above z.0 z.1))
            (less_or u k)
    step_below x y b (by_key s m rc rt lands) = go (less_or u o.top)
      where
        o : OnLines asked s x y
        o = on_lines labels gl asked g s (Each-at gk s m) x y rc rt lands

        deep : u < o.depth
        deep = omega (arith, (spot_once asked b.branch o.branch b.depth o.depth b.spot o.spot (sym b.place ∙ o.from)).0, b.deeper)

        go : (u < o.top) ⊎ (o.top ≤ u) → Below asked u y
        go (inl l) = record { branch = o.branch; depth = o.top; spot = spot_above asked o.branch o.top o.depth o.above o.spot; place = o.to; deeper = l }
        go (inr l) =
            let n = mem_number m in
            absurd (final (record { key = n.number; node = o.top; branch = o.branch; spot = o.depth })
            (record { by = s; cited = n.found; firing = o.firing (omega arith) }) deep l)

    leads_below : {x z : ℕ} → Below asked u x → Leads single keys asked x z → Below asked u z
    leads_below b (arrived e) = record { branch = b.branch; depth = b.depth; spot = b.spot; place = sym e ∙ b.place; deeper = b.deeper }
    leads_below {x} b (onward y s r) = leads_below (step_below x y b s) r

  -- "u < n: not implied, and this u is the u of 01": nothing lets a spot below u step to u or above it
  pub chain_is_u : {u : ℕ} {steps : List Taken} → Chain keys asked u steps
      → ((t : Taken) → Fires keys asked t → u < t.spot → t.node ≤ u → ⊥) → (Ends single asked u → ⊥) → IsU single keys asked u
  chain_is_u {u} {steps} chain final not =
      record {
        from_q = omega (arith, r.0);
        to_t = r.1;
        leads = chain_leads single keys asked chain;
        lowest = lowest;
      }
    where
      r : (q_of asked + length steps ≤ u) × (u ≤ t_of asked)
      r = turns labels keys asked gk g chain

      lowest : (v : ℕ) → u < v → v ≤ t_of asked → Leads single keys asked v (q_of asked) → ⊥
      lowest v l n h =
          let m = paths_some labels in_profile asked g in
          let spot : (w : ℕ) → w ≤ t_of asked → IsSpot asked 0 w = λ w k. record { is_branch = m; on_row = omega (arith, row_length asked 0) } in
          let b = leads_below u (omega arith) final (λ e s. not (above_single e s))
          (record { branch = 0; depth = v; spot = spot v n; place = sym (spot_chain asked 0 v n); deeper = l }) h in
          let o = spot_once asked b.branch 0 b.depth (q_of asked) b.spot (spot (q_of asked) (omega (arith, r.0, r.1)))
          (sym b.place ∙ sym (spot_chain asked 0 (q_of asked) (omega (arith, r.0, r.1)))) in
          omega (arith, o.0, b.deeper, r.0)

  -- "u = n at the end: implied"; and where t steps to u, its parent
  pub chain_implies : {u : ℕ} {steps : List Taken} → Chain keys asked u steps → Ends single asked u → Leads single keys asked (t_of asked) (q_of asked)
  chain_implies chain (at_t e) = subst (λ x. Leads single keys asked x (q_of asked)) e (chain_leads single keys asked chain)
  chain_implies {u} chain (above_single e s) =
      onward u
      (to_parent
      (subst (λ (k : ℕ). T (single k)) (sym (ap (pattern asked).label t_is ∙ spot_label asked 0 u spot ∙ drawn_same (get_or (row_of asked 0) u 0) s')) s')
      (subst₂ (λ (a b : ℕ). Child (pattern asked) a b) (spot_chain asked 0 u (omega arith)) (sym t_is) (spot_child asked 0 u spot)))
      (chain_leads single keys asked chain)
    where
      spot : IsSpot asked 0 (suc u)
      spot = record { is_branch = paths_some labels in_profile asked g; on_row = omega (arith, row_length asked 0) }

      t_is : t_of asked ≡ spot_node asked 0 (suc u)
      t_is = sym e ∙ sym (spot_chain asked 0 (suc u) (omega arith))

      s' : T (single (get_or (row_of asked 0) u 0))
      s' =
          unfold row_of in
          subst (λ (k : ℕ). T (single k)) (sym (get_or-append (chain_of asked) (branch_of asked 0) 0 u (omega (arith, chain_length asked)))) s

      drawn_same : (n : ℕ) → T (single n) → drawn n ≡ n
      drawn_same n t = unfold drawn in ap (λ (b : Bool). cond b 201 n) (ne_eqb n 0 (λ z. single_clear second labels gl (subst (λ (k : ℕ). T (single k)) z t)))
