-- What the decider's loops run over: a step that fires has its four numbers in their ranges, and down to t one branch stands for all.
use Rattle.std.specs.Prelude.{ℕ, ◌≤◌, ◌<◌, ◌≡◌, refl, ◌⊎◌, false, List, T, length, take, drop}
use Rattle.std.proofs.Common.{sym, subst, ◌∙◌, inl, inr, arith}
use Rattle.std.proofs.lemmas.List.{take-append-le}
use Rattle.meaning.specs.Paths.{member}
use Rattle.meaning.specs.Keys.{Key}
use Rattle.meaning.specs.Pattern.{t_of}
use Rattle.theory_lists.specs.Logic.{less_or, each_imp, found_below}
use Rattle.theory_pattern.specs.Spots.{Taken, chain_of, branch_of, row_of, part, fires, FiresBy, Fires}
use Rattle.theory_derive.specs.Firing.{fires_test}
use Rattle.theory_pattern.specs.Rows.{chain_length, row_length}

-- "with k ≤ n it is the chain's node k, the same for every j"
pub line_shared : (asked : Key) (i j k : ℕ) → k ≤ t_of asked → take k (row_of asked i) ≡ take k (row_of asked j)
unfolding row_of
line_shared asked i j k h =
    take-append-le k (chain_of asked) (branch_of asked i) (omega (arith, chain_length asked))
    ∙ sym (take-append-le k (chain_of asked) (branch_of asked j) (omega (arith, chain_length asked)))

pub fires_any_branch : (asked s : Key) (i j b k : ℕ) → k ≤ t_of asked → b < length asked.paths → FiresBy asked s i j k → FiresBy asked s i b k
unfolding part
fires_any_branch asked s i j b k h l f =
    record {
      is_branch = l;
      on_chain = f.on_chain;
      above = f.above;
      on_row = omega (arith, row_length asked b);
      context = subst (λ r. T (member s.context r)) (line_shared asked j b i (omega (arith, f.above))) f.context;
      target = subst (λ r. T (member s.target (drop i r))) (line_shared asked j b k h) f.target;
      landing = each_imp (λ p m. record { at = m.at; is_branch = m.is_branch; in_branch = λ c. absurd (omega arith); reads = m.reads; mark = m.mark }) f.landing;
    }

-- The ranges of the loops: nothing in them fires, so nothing lets a spot below u step to u or above it
module _ (keys : List Key) (asked : Key) (u : ℕ) where
  pub record InRange (t : Taken) : Type 0 where
    pub key : t.key < length keys
    pub node : t.node ≤ u
    pub branch : t.branch < length asked.paths
    pub first : t.spot ≤ t_of asked → t.branch ≡ 0
    pub below : u < t.spot
    pub on_row : t.spot ≤ length (row_of asked t.branch)

  pub none_left : ((t : Taken) → InRange t → fires keys asked t ≡ false) → (t : Taken) → Fires keys asked t → u < t.spot → t.node ≤ u → ⊥
  none_left none t f k i = go (less_or (t_of asked) t.spot)
    where
      fails : (b : ℕ) → FiresBy asked f.by t.node b t.spot → (t.spot ≤ t_of asked → b ≡ 0) → ⊥
      fails b g z =
          let r : Taken = record { key = t.key; node = t.node; branch = b; spot = t.spot } in
          subst T
          (none r (record { key = found_below keys t.key f.cited; node = i; branch = g.is_branch; first = z; below = k; on_row = g.on_row }))
          (fires_test keys asked r (record { by = f.by; cited = f.cited; firing = g }))

      go : (t_of asked < t.spot) ⊎ (t.spot ≤ t_of asked) → ⊥
      go (inl l) = fails t.branch f.firing (λ c. absurd (omega arith))
      go (inr l) =
          fails 0 (fires_any_branch asked f.by t.node t.branch 0 t.spot l (omega (arith, f.firing.is_branch)) f.firing) (λ c. refl)
