-- "u is the lowest node from q to t that still leads to q": so no profile key lets a node below the trunk step up into it.
use Prim.Native.Nat.{ℕ, zero, suc, ◌+◌, ◌-◌, ◌≤◌, ◌<◌}
use Rattle.std.specs.Prelude.{◌≡◌, Bool, T, length, get_or}
use Rattle.std.proofs.Math.Path.{refl}
use Rattle.std.proofs.Common.{subst}
use mathlib.Core.List.{List, Memᴰ}
use native.Mathlib.Omega.{arith}
use Rattle.std.proofs.Math.Decide.{dec_lt}
use Rattle.meaning.specs.Lists.{Each}
use Rattle.meaning.specs.Lists.Each.{end, also}
use Rattle.meaning.specs.Trees.{no_node, table_of, Child}
use Rattle.meaning.specs.Keys.{Key}
use Rattle.meaning.specs.Pattern.{q_of, t_of, pattern_nodes, pattern, marked, Lands, to_child, to_parent, by_key, Leads, onward, IsU}
use Rattle.theory_counter.specs.Crossing.{Marks, Crosses}
use Rattle.theory_counter.specs.PatternLaws.{pattern_length, pattern_hangs}

module _ (single : ℕ → Bool) (keys : List Key) (asked : Key) where
  chain_child : (i : ℕ) → i < t_of asked → Child (pattern asked) i (suc i)
  unfolding pattern table_of
  chain_child i h =
      let l = pattern_length asked in
      let c = (pattern_hangs asked (suc i) (omega arith) (omega arith)).chain h in
      record { not_root = omega arith; inside = omega arith; below = omega arith }

  -- every node of the trunk leads down to u, and so to q
  trunk_leads : (u left i : ℕ) → IsU single keys asked u → i + left ≡ u → Leads single keys asked i (q_of asked)
  trunk_leads u zero i m e = subst (λ (k : ℕ). Leads single keys asked k (q_of asked)) (omega arith) m.leads
  trunk_leads u (suc left) i m e =
      onward (suc i) (to_child (chain_child i (let h = m.to_t in omega arith))) (trunk_leads u left (suc i) m (omega arith))

  -- no node below the trunk leads to q: on the chain by the choice of u, in a branch because t would lead there
  below_never : (u left z : ℕ) → IsU single keys asked u → u < t_of asked → z ≤ left → u < z → z < length (pattern_nodes asked)
      → Leads single keys asked z (q_of asked) → ⊥
  unfolding pattern table_of
  below_never u zero z m b f l inside leads = omega arith
  below_never u (suc left) z m b f l inside leads = go (dec_lt (t_of asked) z) (below_never u left (get_or (pattern_nodes asked) z no_node).parent m b)
    where
      up : ℕ
      up = (get_or (pattern_nodes asked) z no_node).parent

      go : Dec (t_of asked < z) → (up ≤ left → u < up → up < length (pattern_nodes asked) → Leads single keys asked up (q_of asked) → ⊥) → ⊥
      go (no h) ih = m.lowest z l (omega arith) leads
      go (yes h) ih =
          let c = pattern_hangs asked z (omega arith) inside in
          let a = c.above in
          let d = c.deep h in
          ih (omega arith) (omega arith) (omega arith)
          (onward z (to_child (record { not_root = omega arith; inside = inside; below = refl })) leads)

  lands_of : {x : ℕ} {Ps : List (List ℕ)} → Each (Marks (pattern asked) (marked asked) x) Ps → Each (Lands asked x) Ps
  lands_of end = end
  lands_of (also m ms) = also (record { mark = m.node; is_marked = m.is_marked; reached = m.reached }) (lands_of ms)

  pub crosses_never : (u : ℕ) → IsU single keys asked u → u < t_of asked → (k : Key) → Memᴰ k keys
      → Crosses (pattern asked) (marked asked) u k → ⊥
  unfolding pattern table_of
  crosses_never u m b k among c =
      below_never u c.from c.from m b (omega arith) c.below c.inside
      (onward c.to (by_key k among c.context c.target (lands_of c.lands))
      (trunk_leads u (u - c.to) c.to m (let t = c.trunk in omega arith)))

  -- and no single label hangs under the trunk: its node would step up into it
  pub hangs_never : (u : ℕ) → IsU single keys asked u → u < t_of asked → (x : ℕ) → x < (pattern asked).size → u < x → (pattern asked).parent x ≤ u
      → T (single ((pattern asked).label x)) → ⊥
  unfolding pattern table_of
  hangs_never u m b x inside l up t =
      below_never u x x m b (omega arith) l inside
      (onward ((pattern asked).parent x) (to_parent t (record { not_root = omega arith; inside = inside; below = refl }))
      (trunk_leads u (u - (pattern asked).parent x) ((pattern asked).parent x) m (omega arith)))
