-- The premise fields of a line, and what changes when they are changed.
use Rattle.std.specs.Prelude.{ℕ, ◌≡◌, Bool}
use Rattle.std.proofs.Math.Path.{refl, ap}
use Rattle.std.proofs.Common.{sym, subst, ◌∙◌}
use Rattle.std.proofs.Math.Bool.{true, false, cond}
use mathlib.Core.List.Memᴰ
use mathlib.Core.List.{List, [], ◌∷◌, map, Memᴰ}
use Rattle.std.proofs.Math.Option.{some}
use Rattle.std.proofs.Math.Dec.{eqb}
use Rattle.std.proofs.Math.ListN.{get_elem?}
use Rattle.meaning.specs.Paths.{Label}
use Rattle.meaning.specs.Keys.{Key}
use Rattle.meaning.specs.Rules.{Line, Follows, FollowsIn, shared, rule10, rule0, rule1, rule2, rule3, rule4, rule5, rule6, rule7, rule8, rule9}
use Rattle.meaning.specs.Trimming.{with_premises, without_premise, premises}

module _ (f : ℕ → ℕ) (l : Line) where
  -- by the rule's number
  pub stays_so : without_premise l.rule ≡ true → with_premises f l ≡ l
  unfolding with_premises
  stays_so e = rw e

  pub changes_one : without_premise l.rule ≡ false → eqb l.rule 9 ≡ false
      → with_premises f l ≡ record { rule = l.rule; first = f l.first; second = l.second; key = l.key }
  unfolding with_premises
  changes_one e n = rw (e, n)

  pub changes_two : without_premise l.rule ≡ false → eqb l.rule 9 ≡ true
      → with_premises f l ≡ record { rule = l.rule; first = f l.first; second = f l.second; key = l.key }
  unfolding with_premises
  changes_two e n = rw (e, n)

  -- rule and key stay
  pub rule_stays : (with_premises f l).rule ≡ l.rule
  unfolding with_premises
  rule_stays = go (without_premise l.rule)
    where
      go : (b : Bool) → (cond b l (record { rule = l.rule; first = f l.first; second = cond (eqb l.rule 9) (f l.second) l.second; key = l.key })).rule ≡ l.rule
      go true = refl
      go false = refl

  pub key_stays : (with_premises f l).key ≡ l.key
  unfolding with_premises
  key_stays = go (without_premise l.rule)
    where
      go : (b : Bool) → (cond b l (record { rule = l.rule; first = f l.first; second = cond (eqb l.rule 9) (f l.second) l.second; key = l.key })).key ≡ l.key
      go true = refl
      go false = refl

  pub premises_none : without_premise l.rule ≡ true → premises l ≡ []
  unfolding premises
  premises_none e = rw e

  pub premises_one : without_premise l.rule ≡ false → eqb l.rule 9 ≡ false → premises l ≡ l.first ∷ []
  unfolding premises
  premises_one e n = rw (e, n)

  pub premises_two : without_premise l.rule ≡ false → eqb l.rule 9 ≡ true → premises l ≡ l.first ∷ l.second ∷ []
  unfolding premises
  premises_two e n = rw (e, n)

-- the premises of a changed line are the changed premises
pub premises_changed : (f : ℕ → ℕ) (l : Line) → premises (with_premises f l) ≡ map f (premises l)
premises_changed f l = go (without_premise l.rule) refl (eqb l.rule 9) refl
  where
    go : (b : Bool) → without_premise l.rule ≡ b → (c : Bool) → eqb l.rule 9 ≡ c → premises (with_premises f l) ≡ map f (premises l)
    go true e c n =
        ap premises (stays_so f l e) ∙ (premises_none f l e ∙ sym (ap (map f) (premises_none f l e)))
    go false e true n =
        ap premises (changes_two f l e n) ∙ (premises_two f _ e n ∙ sym (ap (map f) (premises_two f l e n)))
    go false e false n =
        ap premises (changes_one f l e n) ∙ (premises_one f _ e n ∙ sym (ap (map f) (premises_one f l e n)))

-- two changes that agree on a line's premises change it alike
pub changes_alike : (f g : ℕ → ℕ) (l : Line) → ((x : ℕ) → Memᴰ x (premises l) → f x ≡ g x) → with_premises f l ≡ with_premises g l
changes_alike f g l h = go (without_premise l.rule) refl (eqb l.rule 9) refl
  where
    go : (b : Bool) → without_premise l.rule ≡ b → (c : Bool) → eqb l.rule 9 ≡ c → with_premises f l ≡ with_premises g l
    go true e c n = stays_so f l e ∙ sym (stays_so g l e)
    go false e true n =
        changes_two f l e n
        ∙ (λ i. record {
          rule = l.rule;
          first = h l.first (subst (Memᴰ l.first) (sym (premises_two f l e n)) (Memᴰ.head refl)) i;
          second = h l.second (subst (Memᴰ l.second) (sym (premises_two f l e n)) (Memᴰ.tail (Memᴰ.head refl))) i;
          key = l.key;
        })
        ∙ sym (changes_two g l e n)
    go false e false n =
        changes_one f l e n
        ∙ (λ i. record {
          rule = l.rule;
          first = h l.first (subst (Memᴰ l.first) (sym (premises_one f l e n)) (Memᴰ.head refl)) i;
          second = l.second;
          key = l.key;
        })
        ∙ sym (changes_one g l e n)

-- where no premise changes the line does not
pub unchanged : (f : ℕ → ℕ) (l : Line) → ((x : ℕ) → Memᴰ x (premises l) → f x ≡ x) → with_premises f l ≡ l
unchanged f l h = changes_alike f (λ x. x) l h ∙ go (without_premise l.rule) refl (eqb l.rule 9) refl
  where
    go : (b : Bool) → without_premise l.rule ≡ b → (c : Bool) → eqb l.rule 9 ≡ c → with_premises (λ x. x) l ≡ l
    go true e c n = stays_so (λ x. x) l e
    go false e true n = changes_two (λ x. x) l e n
    go false e false n = changes_one (λ x. x) l e n

-- the premises of a line that follows stand before it
pub record Stands (earlier : List Key) (x : ℕ) : Type 0 where
  pub key : Key
  pub is : get_elem? earlier x ≡ some key

module _ {earlier : List Key} where
  one_stands : (l : Line) (r : ℕ) → l.rule ≡ r → without_premise r ≡ false → eqb r 9 ≡ false → (p : Key) → get_elem? earlier l.first ≡ some p
      → (x : ℕ) → Memᴰ x (premises l) → Stands earlier x
  one_stands l r e w n p g x m =
      go (subst (Memᴰ x) (premises_one (λ y. y) l (ap without_premise e ∙ w) (ap (λ (y : ℕ). eqb y 9) e ∙ n)) m)
    where
      go : Memᴰ x (l.first ∷ []) → Stands earlier x
      go (Memᴰ.head q) = record { key = p; is = ap (get_elem? earlier) q ∙ g }
      go (Memᴰ.tail k) = absurd (Memᴰ.not-nil k)

  none_stands : (l : Line) (r : ℕ) → l.rule ≡ r → without_premise r ≡ true → (x : ℕ) → Memᴰ x (premises l) → Stands earlier x
  none_stands l r e w x m = absurd (Memᴰ.not-nil (subst (Memᴰ x) (premises_none (λ y. y) l (ap without_premise e ∙ w)) m))

  by_rule : {labels : List Label} {keys : List Key} (l : Line) → Follows labels keys earlier l → (x : ℕ) → Memᴰ x (premises l) → Stands earlier x
  unfolding without_premise
  by_rule l (rule0 e s c) x m = none_stands l 0 e refl x m
  by_rule l (rule1 e a b c) x m = none_stands l 1 e refl x m
  by_rule l (rule2 e s p g c) x m = one_stands l 2 e refl refl p g x m
  by_rule l (rule3 e s p g c) x m = one_stands l 3 e refl refl p g x m
  by_rule l (rule4 e s p g c) x m = one_stands l 4 e refl refl p g x m
  by_rule l (rule5 e s p g c) x m = one_stands l 5 e refl refl p g x m
  by_rule l (rule6 e s p g c) x m = one_stands l 6 e refl refl p g x m
  by_rule l (rule7 e s p g c) x m = one_stands l 7 e refl refl p g x m
  by_rule l (rule8 e s p g c) x m = one_stands l 8 e refl refl p g x m
  by_rule l (rule9 e p r g h c) x m =
      go (subst (Memᴰ x) (premises_two (λ y. y) l (ap without_premise e) (ap (λ (y : ℕ). eqb y 9) e)) m)
    where
      go : Memᴰ x (l.first ∷ l.second ∷ []) → Stands earlier x
      go (Memᴰ.head q) = record { key = p; is = ap (get_elem? earlier) q ∙ g }
      go (Memᴰ.tail (Memᴰ.head q)) = record { key = r; is = ap (get_elem? earlier) q ∙ h }
      go (Memᴰ.tail (Memᴰ.tail k)) = absurd (Memᴰ.not-nil k)

  pub premise_stands : {single : ℕ → Bool} {labels : List Label} {keys : List Key} (l : Line) → FollowsIn single labels keys earlier l → (x : ℕ)
      → Memᴰ x (premises l) → Stands earlier x
  unfolding without_premise
  premise_stands l (shared f) x m = by_rule l f x m
  premise_stands l (rule10 e a b c) x m = none_stands l 10 e refl x m
