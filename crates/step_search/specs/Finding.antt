-- ARGUMENT 4, the loop: what it is given, what it keeps, and what it answers.
use Rattle.std.specs.Prelude.{ℕ, zero, suc, ◌+◌, ◌≤◌, ◌<◌, min, ◌≡◌, refl, ◌⊎◌, get_or, set}
use Rattle.std.proofs.Common.{sym, ap₂, ◌∙◌, inr, add-one, arith, get_or-set_same, get_or-set_other}
use Rattle.std.proofs.Math.Path.{ap, subst}
use Rattle.std.proofs.Math.Logic.{inl}
use mathlib.Core.List.{List, [], ◌∷◌}
use Rattle.std.proofs.Math.ListN.{length, length-set}
use Rattle.meaning.specs.Records.{key_in}
use Rattle.meaning.specs.Pattern.{q_of, t_of}
use Rattle.theory_pattern.specs.Spots.{Taken as Step, Chain, begun, taken}
use Rattle.theory_records.specs.KeyPlaces.{keys_from, KeyRecords}
use Rattle.step_rows.specs.Drawn.{KeySizes, Drawn}
use Rattle.step_search.specs.declared.firing.Taken.{Taken}
use Rattle.step_search.specs.declared.search.FinalU.{FinalU}
use Rattle.step_search.specs.Ranges.{step_of, OfKeys, HitKeys, NoneLeft}

-- the first so many steps, the latest first
unfoldable pub steps_below : List Taken → ℕ → List Step
steps_below steps zero = []
steps_below steps (suc n) = step_of (get_or steps n (record { key = 0; node = 0; branch = 0; spot = 0 })) ∷ steps_below steps n

-- The question's key body is one within the limits, and the profile's keys stand from the part's first record on
pub record Searchable (part : List ℕ) (keys : ℕ) (body : List ℕ) : Type 0 where
  pub asked : KeySizes body
  pub records : KeyRecords keys part

-- The steps lead down to u, and u is t or no key lets a spot below it step to it or above
pub record Finds (part : List ℕ) (keys : ℕ) (body : List ℕ) (r : FinalU) : Type 0 where
  pub chain : Chain (keys_from keys part) (key_in body) r.u (steps_below r.steps r.count)
  pub final : (r.u ≡ t_of (key_in body)) ⊎ NoneLeft part keys body r.u
  pub few : r.count ≤ 8
  pub size : length r.steps ≡ 8

-- the part as the code has it
module _ {part other : List ℕ} (e : part ≡ other) {keys : ℕ} {body : List ℕ} where
  pub search_part : Searchable other keys body → Searchable part keys body
  search_part o = subst (λ (l : List ℕ). Searchable l keys body) (sym e) o

  pub found_part : {r : FinalU} → Finds part keys body r → Finds other keys body r
  found_part {r} f = subst (λ (l : List ℕ). Finds l keys body r) e f

-- after so many turns
pub record Taking (part : List ℕ) (keys : ℕ) (body : List ℕ) (t u count : ℕ) (steps : List Taken) : Type 0 where
  pub chain : Chain (keys_from keys part) (key_in body) u (steps_below steps count)
  pub bottom : t ≡ t_of (key_in body)
  pub within : u ≤ t
  pub turns : q_of (key_in body) + count ≤ u
  pub size : length steps ≡ 8

steps_kept : (steps : List Taken) (at n : ℕ) (new : Taken) → n ≤ at → steps_below (set steps at new) n ≡ steps_below steps n
unfolding steps_below
steps_kept steps at zero new h = refl
steps_kept steps at (suc n) new h =
    ap₂ (λ (a : Taken) (l : List Step). step_of a ∷ l) (get_or-set_other steps at n new _ (λ e. omega arith)) (steps_kept steps at n new (omega arith))

steps_more : (steps : List Taken) (count : ℕ) (new : Taken) → count < length steps
    → step_of new ∷ steps_below steps count ≡ steps_below (set steps count new) (count + 1)
unfolding steps_below
steps_more steps count new h =
    rw (add-one count)
    (sym (ap₂ (λ (a : Taken) (l : List Step). step_of a ∷ l) (get_or-set_same steps count new _ h) (steps_kept steps count count new (omega arith))))

module _ {part : List ℕ} {keys : ℕ} {body : List ℕ} (o : Searchable part keys body) where
  pub taking_start : {t : ℕ} → t ≡ t_of (key_in body) → {q : List ℕ} → q ≡ (key_in body).context → {steps : List Taken} → length steps ≡ 8
      → Taking part keys body t (length q) 0 steps
  unfolding steps_below q_of t_of
  taking_start e {q} c s =
      record {
        chain = subst (λ (u : ℕ). Chain (keys_from keys part) (key_in body) u []) (sym (ap length c)) begun;
        bottom = e;
        within = omega (arith, ap length c);
        turns = omega (arith, ap length c);
        size = s;
      }

  module _ {t u count : ℕ} {steps : List Taken} (k : Taking part keys body t u count steps) where
    module _ (h : u < t) where
      pub taking_keys : {rows : List ℕ} → Drawn (key_in body) rows → OfKeys part keys body rows u
      taking_keys d =
          record {
            ready = record { is_asked = o.asked.is_key; drawn = d; some = o.asked.some; above = omega (arith, k.bottom) };
            records = o.records;
          }

      pub taking_room : count < 8
      unfolding t_of q_of
      taking_room = omega (arith, k.bottom, k.turns, o.asked.target)

      pub taking_next : {new : Taken} → HitKeys part keys body u new → {v : ℕ} → v ≡ min new.spot t
          → Taking part keys body t v (count + 1) (set steps count new)
      unfolding step_of
      taking_next {new} f {v} e =
          record {
            chain =
                subst (λ (l : List Step). Chain (keys_from keys part) (key_in body) v l) (steps_more steps count new (omega (arith, taking_room, k.size)))
                (subst (λ (w : ℕ). Chain (keys_from keys part) (key_in body) w (step_of new ∷ steps_below steps count))
                (sym (e ∙ ap (min new.spot) k.bottom))
                (taken (step_of new) k.chain (omega (arith, k.bottom)) f.firing f.below f.node));
            bottom = k.bottom;
            within = omega arith;
            turns = omega (arith, k.turns, f.below);
            size = length-set steps count new ∙ k.size;
          }

      pub taking_none : NoneLeft part keys body u → Finds part keys body (record { u = u; count = count; steps = steps })
      taking_none n = record { chain = k.chain; final = inr n; few = omega (arith, taking_room); size = k.size }

    pub taking_end : t ≤ u → Finds part keys body (record { u = u; count = count; steps = steps })
    unfolding t_of q_of
    taking_end h =
        record {
          chain = k.chain;
          final = inl (omega (arith, k.bottom, k.within));
          few = omega (arith, k.bottom, k.turns, k.within, o.asked.target);
          size = k.size;
        }
