-- ARGUMENT 4: "(j, k) is marked: k = |line j|, or S holds e and k ≥ n" says the same of the spot as 01's marks say of its node.
use Prim.Native.Nat.{ℕ, zero, suc, ◌+◌, ◌-◌, ◌≤◌, ◌<◌}
use Rattle.std.specs.Prelude.{◌≡◌, Bool, true, false, List, [], ◌∷◌, T, eqb, length, get_or}
use Rattle.std.proofs.Math.Path.{refl}
use Rattle.std.proofs.Common.{sym, ap, subst, ◌∙◌, ⊎_elim, arith, eqb→eq, leb→le, le→leb}
use Rattle.meaning.specs.Lists.{any, is_empty}
use Rattle.meaning.specs.Keys.{Key}
use Rattle.meaning.specs.Pattern.{t_of, ends, marked}
use Rattle.theory_lists.specs.Bools.{or_cases, or_left, or_right, and_left, and_right, both, eqb_of}
use Rattle.theory_lists.specs.Logic.{less_or}
use Rattle.theory_pattern.specs.Spots.{branch_of, row_of, holds_empty, marked_at}
use Rattle.theory_pattern.specs.Rows.{row_length}
use Rattle.theory_pattern.specs.Numbers.{offset, spot_node, spot_chain, spot_branch}
use Rattle.theory_pattern.specs.Places.{IsSpot, spot_once}

-- where no path of the set is empty, the ends are those of the branches
none_empty : (ps : List (List ℕ)) (j : ℕ) → any is_empty ps ≡ false → j < length ps → 0 < length (get_or ps j [])
unfolding any is_empty
none_empty [] j e h = absurd (let z : j < 0 = h in omega arith)
none_empty ([] ∷ ps) j e h = absurd (subst T e tt)
none_empty ((x ∷ p) ∷ ps) zero e h = omega arith
none_empty ((x ∷ p) ∷ ps) (suc j) e h = none_empty ps j e (let z : suc j < suc (length ps) = h in omega arith)

-- the number at which branch j ends, where n is the first branch's first number
pub record EndsAt (ps : List (List ℕ)) (n x : ℕ) : Type 0 where
  pub branch : ℕ
  pub is_branch : branch < length ps
  pub place : suc x ≡ n + offset ps branch + length (get_or ps branch [])

ends_says : (t n : ℕ) (ps : List (List ℕ)) (x : ℕ) → 0 < n → any is_empty ps ≡ false → T (any (eqb x) (ends t n ps)) → EndsAt ps n x
unfolding any is_empty ends offset
ends_says t n [] x p e h = absurd h
ends_says t n ([] ∷ ps) x p e h = absurd (subst T e tt)
ends_says t n ((y ∷ q) ∷ ps) x p e h =
    ⊎_elim
    (λ k. record { branch = 0; is_branch = omega arith; place = omega (arith, eqb→eq x (n + suc (length q) - 1) k) })
    (λ k. let r = ends_says t (n + suc (length q)) ps x (omega arith) e k in
    record { branch = suc r.branch; is_branch = omega (arith, r.is_branch); place = omega (arith, r.place) })
    (or_cases (eqb x (n + suc (length q) - 1)) _ h)

ends_test : (t n : ℕ) (ps : List (List ℕ)) (x j : ℕ) → 0 < n → any is_empty ps ≡ false → j < length ps
    → suc x ≡ n + offset ps j + length (get_or ps j []) → T (any (eqb x) (ends t n ps))
unfolding any is_empty ends offset
ends_test t n [] x j p e h q = absurd (let z : j < 0 = h in omega arith)
ends_test t n ([] ∷ ps) x j p e h q = absurd (subst T e tt)
ends_test t n ((y ∷ r) ∷ ps) x zero p e h q =
    or_left (eqb x (n + suc (length r) - 1)) _ (eqb_of x (n + suc (length r) - 1) (let z : suc x ≡ n + 0 + suc (length r) = q in omega arith))
ends_test t n ((y ∷ r) ∷ ps) x (suc j) p e h q =
    or_right (eqb x (n + suc (length r) - 1)) _
    (ends_test t (n + suc (length r)) ps x j (omega arith) e (let z : suc j < suc (length ps) = h in omega arith)
    (let z : suc x ≡ n + (suc (length r) + offset ps j) + length (get_or ps j []) = q in omega arith))

module _ (asked : Key) (j k : ℕ) (s : IsSpot asked j k) where
  -- with e in S: t and everything below it
  node_below : t_of asked ≤ k → t_of asked ≤ spot_node asked j k
  node_below h = ⊎_elim (λ l. rw (spot_branch asked j k l) (omega arith)) (λ l. rw (spot_chain asked j k l) h) (less_or (t_of asked) k)

  below_node : t_of asked ≤ spot_node asked j k → t_of asked ≤ k
  below_node h = ⊎_elim (λ l. omega arith) (λ l. rw (spot_chain asked j k l) at h) (less_or (t_of asked) k)

  pub marked_says : T (marked asked (spot_node asked j k)) → T (marked_at asked j k)
  unfolding marked marked_at holds_empty branch_of
  marked_says h = go (any is_empty asked.paths) refl
    where
      x : ℕ
      x = spot_node asked j k

      n : ℕ
      n = t_of asked

      go : (b : Bool) → any is_empty asked.paths ≡ b → T (marked_at asked j k)
      go true e =
          or_right (eqb k (length (row_of asked j))) _
          (both (any is_empty asked.paths) _ (subst T (sym e) tt) (le→leb n k (below_node (leb→le n x (rw e at h)))))
      go false e =
          let r = ends_says n (suc n) asked.paths x (omega arith) e (rw e at h) in
          let m = none_empty asked.paths r.branch e r.is_branch in
          let t : IsSpot asked r.branch (n + length (branch_of asked r.branch)) =
          record { is_branch = r.is_branch; on_row = omega (arith, row_length asked r.branch) } in
          let o = spot_once asked j r.branch k (n + length (branch_of asked r.branch)) s t
          ((let z : x ≡ n + length (branch_of asked r.branch) + offset asked.paths r.branch = omega (arith, r.place) in z)
          ∙ sym (spot_branch asked r.branch (n + length (branch_of asked r.branch)) (omega arith))) in
          or_left (eqb k (length (row_of asked j))) _
          (eqb_of k (length (row_of asked j)) (o.0 ∙ sym (row_length asked r.branch) ∙ ap (λ b. length (row_of asked b)) (sym (o.1 (omega (arith, o.0))))))

  pub marked_test : T (marked_at asked j k) → T (marked asked (spot_node asked j k))
  unfolding marked marked_at holds_empty branch_of
  marked_test h = go (any is_empty asked.paths) refl
    where
      x : ℕ
      x = spot_node asked j k

      n : ℕ
      n = t_of asked

      go : (b : Bool) → any is_empty asked.paths ≡ b → T (marked asked x)
      go true e =
          rw e (le→leb n x (node_below
          (⊎_elim (λ q. omega (arith, eqb→eq k (length (row_of asked j)) q, row_length asked j))
          (λ q. leb→le n k (and_right (any is_empty asked.paths) _ q)) (or_cases (eqb k (length (row_of asked j))) _ h))))
      go false e =
          let q : k ≡ length (row_of asked j) =
          ⊎_elim (λ q. eqb→eq k (length (row_of asked j)) q) (λ q. absurd (subst T e (and_left (any is_empty asked.paths) _ q)))
          (or_cases (eqb k (length (row_of asked j))) _ h) in
          let m = none_empty asked.paths j e s.is_branch in
          rw e (ends_test n (suc n) asked.paths x j (omega arith) e s.is_branch
          (omega (arith, row_length asked j, spot_branch asked j k (omega (arith, row_length asked j)))))
