-- ARGUMENT 4: the loop ends. Whether one more step can be taken is found by trying all of them, for their numbers lie in finite ranges, and each step
-- brings u nearer to t. So some u is the last: it is t, or nothing lets a spot below it step to it or above it.
use Rattle.std.specs.Prelude.{ℕ, zero, suc, ◌+◌, ◌≤◌, ◌<◌, min, ◌≡◌, ◌⊎◌, List, ◌∷◌, length}
use Rattle.std.proofs.Common.{subst, arith}
use Rattle.std.proofs.Math.Logic.{inl, inr, ⊎_elim}
use Rattle.std.proofs.Math.Dec.{T}
use Rattle.meaning.specs.Keys.{Key}
use Rattle.meaning.specs.Pattern.{q_of, t_of}
use Rattle.theory_lists.specs.Bools.{T-cases}
use Rattle.theory_lists.specs.Logic.{less_or, found_below}
use Rattle.theory_pattern.specs.Spots.{Taken, row_of, fires, Fires, Chain, begun, taken}
use Rattle.theory_derive.specs.Firing.{fires_says, fires_test}

-- each number below n is tried: one of them gives what is sought, or all are known to be Q
try_below : {A : Type 0} {Q : ℕ → Type 0} (n : ℕ) → ((x : ℕ) → A ⊎ Q x) → A ⊎ ((x : ℕ) → x < n → Q x)
try_below zero f = inr (λ x h. absurd (omega arith))
try_below {Q} (suc n) f = ⊎_elim inl (λ last. ⊎_elim inl (λ below. inr (λ x h. at x h last below)) (try_below n f)) (f n)
  where
    at : (x : ℕ) → x < suc n → Q n → ((y : ℕ) → y < n → Q y) → Q x
    at x h last below = ⊎_elim (below x) (λ k. subst Q (let e : n ≡ x = omega arith in e) last) (less_or x n)

module _ (keys : List Key) (asked : Key) where
  -- a step that the loop can take where it has come to u: "some profile key lets a spot (j, k), k > u, step to a chain node i ≤ u"
  record Next (u : ℕ) : Type 0 where
    step : Taken
    firing : Fires keys asked step
    below : u < step.spot
    above : step.node ≤ u

  -- it cannot take t, or none at all
  unfoldable pub Cannot : ℕ → Taken → Type 0
  Cannot u t = Fires keys asked t → u < t.spot → t.node ≤ u → ⊥

  unfoldable pub Final : ℕ → Type 0
  Final u = (t : Taken) → Cannot u t

  try_step : (u : ℕ) (t : Taken) → Next u ⊎ Cannot u t
  unfolding Cannot
  try_step u t = go (T-cases (fires keys asked t)) (less_or u t.spot) (less_or u t.node)
    where
      go : T (fires keys asked t) ⊎ (T (fires keys asked t) → ⊥) → (u < t.spot) ⊎ (t.spot ≤ u) → (u < t.node) ⊎ (t.node ≤ u)
          → Next u ⊎ Cannot u t
      go (inr f) k i = inr (λ h _ _. f (fires_test keys asked t h))
      go (inl f) (inr k) i = inr (λ _ h _. omega arith)
      go (inl f) (inl k) (inl i) = inr (λ _ _ h. omega arith)
      go (inl f) (inl k) (inr i) = inl (record { step = t; firing = fires_says keys asked t f; below = k; above = i })

  -- a step that fires has its four numbers in these ranges
  next_or_final : (u : ℕ) → Next u ⊎ Final u
  unfolding Cannot Final
  next_or_final u =
      ⊎_elim inl
      (λ none.
      inr (λ t f below above.
      none t.key (found_below keys t.key f.cited) t.node (omega arith) t.branch f.firing.is_branch t.spot
      (omega (arith, f.firing.on_row)) f below above))
      (try_below (length keys) (λ key.
      try_below (suc u) (λ node.
      try_below (length asked.paths) (λ branch.
      try_below (suc (length (row_of asked branch))) (λ spot. try_step u (record { key = key; node = node; branch = branch; spot = spot }))))))

  -- how the loop ends: at t, or at a u above t where no step can be taken
  pub data Ended : Type 0 where
    at_t : {steps : List Taken} → Chain keys asked (t_of asked) steps → Ended
    above_t : {u : ℕ} {steps : List Taken} → Chain keys asked u steps → u < t_of asked → Final u → Ended

  at_end : {u : ℕ} {steps : List Taken} → Chain keys asked u steps → u ≤ t_of asked → t_of asked ≤ u → Ended
  at_end {u} {steps} chain h r = at_t (subst (λ v. Chain keys asked v steps) (let e : u ≡ t_of asked = omega arith in e) chain)

  -- from any u on it ends, in at most as many turns as there are nodes down to t
  ends_from : (turns : ℕ) {u : ℕ} {steps : List Taken} → Chain keys asked u steps → u ≤ t_of asked → t_of asked ≤ u + turns → Ended
  ends_from zero chain h r = at_end chain h (omega arith)
  ends_from (suc turns) {u} {steps} chain h r =
      ⊎_elim
      (λ low. ⊎_elim
      (λ n. ends_from turns {u = min n.step.spot (t_of asked)} {steps = n.step ∷ steps}
      (taken n.step chain low n.firing n.below n.above) (omega arith) (omega (arith, n.below)))
      (above_t chain low) (next_or_final u))
      (at_end chain h) (less_or u (t_of asked))

  -- "u := c. While u < n ..": the loop from its start
  pub ended : Ended
  unfolding q_of t_of
  ended = ends_from (length asked.target) begun (omega arith) (omega arith)
