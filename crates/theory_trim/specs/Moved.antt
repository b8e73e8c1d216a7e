-- A line whose premises stand elsewhere with the same keys follows as before.
use Rattle.std.specs.Prelude.{ℕ, ◌≡◌, Bool}
use Rattle.std.proofs.Math.Path.{refl, ap, subst}
use Rattle.std.proofs.Common.{sym, ◌∙◌}
use Rattle.std.proofs.Math.Bool.{true, false}
use mathlib.Core.List.{List, Memᴰ}
use Rattle.std.proofs.Math.Option.{some}
use Rattle.std.proofs.Math.Dec.{eqb}
use Rattle.std.proofs.Math.ListN.{get_elem?}
use Rattle.meaning.specs.Paths.{Label}
use Rattle.meaning.specs.Keys.{Key}
use Rattle.meaning.specs.Rules.{Line, Follows, FollowsIn, shared, rule10, rule0, rule1, rule2, rule3, rule4, rule5, rule6, rule7, rule8, rule9}
use Rattle.meaning.specs.Trimming.{with_premises, without_premise, premises}
use Rattle.theory_trim.specs.Premises.{stays_so, changes_one, changes_two, premises_one, premises_two}

module _ (labels : List Label) (keys earlier later : List Key) (f : ℕ → ℕ) (l : Line)
    (moves : (x : ℕ) → Memᴰ x (premises l) → (p : Key) → get_elem? earlier x ≡ some p → get_elem? later (f x) ≡ some p) where
  abbrev Moved : Line → Type 0
  Moved k = Follows labels keys later k

  -- by the rule's number
  by_none : (r : ℕ) → l.rule ≡ r → without_premise r ≡ true → Moved l → Moved (with_premises f l)
  by_none r e w m = subst Moved (sym (stays_so f l (ap without_premise e ∙ w))) m

  by_one : (r : ℕ) → l.rule ≡ r → without_premise r ≡ false → eqb r 9 ≡ false → (p : Key) → get_elem? earlier l.first ≡ some p
      → (get_elem? later (f l.first) ≡ some p → Moved (record { rule = l.rule; first = f l.first; second = l.second; key = l.key }))
      → Moved (with_premises f l)
  by_one r e w n p g m =
      let a : without_premise l.rule ≡ false = ap without_premise e ∙ w in
      let b : eqb l.rule 9 ≡ false = ap (λ (x : ℕ). eqb x 9) e ∙ n in
      subst Moved (sym (changes_one f l a b))
      (m (moves l.first (subst (Memᴰ l.first) (sym (premises_one f l a b)) (Memᴰ.head refl)) p g))

  by_two : l.rule ≡ 9 → (p r : Key) → get_elem? earlier l.first ≡ some p → get_elem? earlier l.second ≡ some r
      → (get_elem? later (f l.first) ≡ some p → get_elem? later (f l.second) ≡ some r
      → Moved (record { rule = l.rule; first = f l.first; second = f l.second; key = l.key }))
      → Moved (with_premises f l)
  unfolding without_premise
  by_two e p r g h m =
      let a : without_premise l.rule ≡ false = ap without_premise e in
      let b : eqb l.rule 9 ≡ true = ap (λ (x : ℕ). eqb x 9) e in
      subst Moved (sym (changes_two f l a b))
      (m (moves l.first (subst (Memᴰ l.first) (sym (premises_two f l a b)) (Memᴰ.head refl)) p g)
      (moves l.second (subst (Memᴰ l.second) (sym (premises_two f l a b)) (Memᴰ.tail (Memᴰ.head refl))) r h))

  by_rule : Follows labels keys earlier l → Follows labels keys later (with_premises f l)
  unfolding without_premise
  by_rule (rule0 e s c) = by_none 0 e refl (rule0 e s c)
  by_rule (rule1 e a b c) = by_none 1 e refl (rule1 e a b c)
  by_rule (rule2 e s p g c) = by_one 2 e refl refl p g (λ h. rule2 e s p h c)
  by_rule (rule3 e s p g c) = by_one 3 e refl refl p g (λ h. rule3 e s p h c)
  by_rule (rule4 e s p g c) = by_one 4 e refl refl p g (λ h. rule4 e s p h c)
  by_rule (rule5 e s p g c) = by_one 5 e refl refl p g (λ h. rule5 e s p h c)
  by_rule (rule6 e s p g c) = by_one 6 e refl refl p g (λ h. rule6 e s p h c)
  by_rule (rule7 e s p g c) = by_one 7 e refl refl p g (λ h. rule7 e s p h c)
  by_rule (rule8 e s p g c) = by_one 8 e refl refl p g (λ h. rule8 e s p h c)
  by_rule (rule9 e p r g h c) = by_two e p r g h (λ a b. rule9 e p r a b c)

  pub follows_moved : {single : ℕ → Bool} → FollowsIn single labels keys earlier l → FollowsIn single labels keys later (with_premises f l)
  unfolding without_premise
  follows_moved (shared g) = shared (by_rule g)
  follows_moved {single} (rule10 e a b c) =
      subst (λ (k : Line). FollowsIn single labels keys later k) (sym (stays_so f l (ap without_premise e))) (rule10 e a b c)
