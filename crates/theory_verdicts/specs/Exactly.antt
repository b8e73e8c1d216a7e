-- 001, Theorems 1 and 2: for well-formed labels, profile keys and question, "the question is implied exactly when these steps lead from t to q" (01),
-- exactly when it is derivable. ARGUMENT 7, as a circle: what the steps lead to is derivable (ARGUMENT 5), what is derivable is implied (ARGUMENT 3), and
-- to what is implied the steps lead, for else there is a tree against it (ARGUMENT 6).
use Rattle.std.specs.Prelude.{ℕ, suc, ◌<◌, ◌≡◌, refl, ◌⊎◌, Bool, T, get_or, List}
use Rattle.std.proofs.Common.{inl, inr, arith}
use Rattle.std.proofs.Math.Decide.{ℕ_discrete}
use Rattle.theory_lists.specs.Bools.{T-cases}
use Rattle.meaning.specs.Limits.{in_profile, in_proof}
use Rattle.meaning.specs.Lists.{Each}
use Rattle.meaning.specs.Paths.{Label, class_of, singles}
use Rattle.meaning.specs.Keys.{Key, Implied}
use Rattle.meaning.specs.Rules.{Line, Accepted}
use Rattle.meaning.specs.Pattern.{q_of, t_of, Leads, IsU}
use Rattle.theory_paths.specs.Good.{GoodLabels, GoodKey}
use Rattle.theory_rules.specs.Accepted.{accepted_implied}
use Rattle.theory_lists.specs.Logic.{each_imp}
use Rattle.theory_pattern.specs.Spots.{Taken, chain_of, Ends, at_t, above_single, Chain}
use Rattle.theory_pattern.specs.Singles.{single_clear}
use Rattle.theory_derive.specs.Written.{proof_lines}
use Rattle.theory_derive.specs.Accept.{proof_accepted, proof_fine}
use Rattle.theory_derive.specs.Lowest.{chain_is_u, chain_implies}
use Rattle.theory_counter.specs.Counterexample.{counter_not_implied}
use Rattle.theory_verdicts.specs.Ending
use Rattle.theory_verdicts.specs.Ending.{Cannot, Final, Ended, above_t, ended}

-- Some proof of the question is accepted, each of its lines well formed
pub record Derivable (second : Bool) (labels : List Label) (keys : List Key) (asked : Key) : Type 0 where
  pub lines : List Line
  pub well_formed : Each (λ (l : Line). GoodKey labels in_proof l.key) lines
  pub accepted : Accepted (singles second (class_of labels)) labels keys asked lines

module _ (second : Bool) (labels : List Label) (gl : GoodLabels labels) (keys : List Key) (asked : Key) (gk : Each (GoodKey labels in_profile) keys)
    (g : GoodKey labels in_profile asked) where
  abbrev single : ℕ → Bool
  single = singles second (class_of labels)

  -- whether t steps to the loop's last u, its parent
  ends? : (u : ℕ) → u < t_of asked → Dec (Ends single asked u)
  ends? u low = go (ℕ_discrete (suc u) (t_of asked)) (T-cases (single (get_or (chain_of asked) u 0)))
    where
      go : Dec (suc u ≡ t_of asked) → T (single (get_or (chain_of asked) u 0)) ⊎ (T (single (get_or (chain_of asked) u 0)) → ⊥) → Dec (Ends single asked u)
      go (yes e) (inl t) = yes (above_single e t)
      go (yes e) (inr n) = no (λ x. never x n)
        where
          never : Ends single asked u → (T (single (get_or (chain_of asked) u 0)) → ⊥) → ⊥
          never (at_t q) n = omega arith
          never (above_single q t) n = n t
      go (no n) d = no (λ x. never x n)
        where
          never : Ends single asked u → (suc u ≡ t_of asked → ⊥) → ⊥
          never (at_t q) n = omega arith
          never (above_single q t) n = n q

  derived : {u : ℕ} {steps : List Taken} → Chain keys asked u steps → Ends single asked u → Derivable second labels keys asked
  derived {u} {steps} chain ends =
      record {
        lines = proof_lines keys asked u steps;
        well_formed = each_imp (λ l fine. fine.good) (proof_fine labels keys asked gk g chain);
        accepted = proof_accepted labels keys asked gk g single (single_clear second labels gl) chain ends;
      }

  -- where the loop ends above t and t does not step to its u, that is the u of 01
  last_is_u : {u : ℕ} {steps : List Taken} → Chain keys asked u steps → Final keys asked u → (Ends single asked u → ⊥) → IsU single keys asked u
  unfolding Cannot Final
  last_is_u chain final not = chain_is_u second labels gl keys asked gk g chain final not

  pub leads_derivable : Leads single keys asked (t_of asked) (q_of asked) → Derivable second labels keys asked
  leads_derivable leads = go (ended keys asked)
    where
      above : {u : ℕ} {steps : List Taken} → Chain keys asked u steps → u < t_of asked → Final keys asked u → Dec (Ends single asked u)
          → Derivable second labels keys asked
      above chain low final (yes e) = derived chain e
      above chain low final (no n) = absurd ((last_is_u chain final n).lowest (t_of asked) low (omega arith) leads)

      go : Ended keys asked → Derivable second labels keys asked
      go (Ending.at_t {steps} chain) = derived chain (at_t refl)
      go (above_t {u} chain low final) = above chain low final (ends? u low)

  pub derivable_implied : Derivable second labels keys asked → Implied second labels keys asked
  derivable_implied d = accepted_implied second labels keys asked d.lines gl d.well_formed d.accepted

  pub implied_leads : Implied second labels keys asked → Leads single keys asked (t_of asked) (q_of asked)
  implied_leads implied = go (ended keys asked)
    where
      above : {u : ℕ} {steps : List Taken} → Chain keys asked u steps → u < t_of asked → Final keys asked u → Dec (Ends single asked u)
          → Leads single keys asked (t_of asked) (q_of asked)
      above chain low final (yes e) = chain_implies second labels gl keys asked gk g chain e
      above {u} chain low final (no n) = absurd (counter_not_implied second labels gl asked g u low keys (last_is_u chain final n) gk implied)

      go : Ended keys asked → Leads single keys asked (t_of asked) (q_of asked)
      go (Ending.at_t chain) = chain_implies second labels gl keys asked gk g chain (at_t refl)
      go (above_t {u} chain low final) = above chain low final (ends? u low)

  -- 001, Theorem 2
  pub implied_exactly : (Implied second labels keys asked → Leads single keys asked (t_of asked) (q_of asked))
      × (Leads single keys asked (t_of asked) (q_of asked) → Implied second labels keys asked)
  implied_exactly = (implied_leads, λ leads. derivable_implied (leads_derivable leads))

  -- 001, Theorem 1
  pub derivable_exactly : (Implied second labels keys asked → Derivable second labels keys asked) × (Derivable second labels keys asked → Implied second labels keys asked)
  derivable_exactly = (λ implied. leads_derivable (implied_leads implied), derivable_implied)
