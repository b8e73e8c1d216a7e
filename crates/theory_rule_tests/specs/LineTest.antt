-- Whether a line follows, as one test on keys; it is true exactly where the line follows.
use Prim.Native.Nat.{ℕ, zero, suc}
use Rattle.std.specs.Prelude.{◌≡◌, Bool, false, ◌&&◌, List, eqb}
use Rattle.std.proofs.Math.Path.{refl, ap, subst}
use Rattle.std.proofs.Common.{sym, ◌∙◌}
use Rattle.std.proofs.Math.Option.{Option, none, some}
use Rattle.std.proofs.Math.Dec.{T, eqb→eq}
use Rattle.std.proofs.Math.ListN.{get_elem?}
use Rattle.meaning.specs.Limits.{KeyLimits, no_number}
use Rattle.meaning.specs.Lists.{Each, is_empty, same}
use Rattle.meaning.specs.Paths.{Label}
use Rattle.meaning.specs.Keys.{Key}
use Rattle.meaning.specs.Rules.{Line, Epsilon, Follows, rule0, rule1, rule2, rule3, rule4, rule5, rule6, rule7, rule8, rule9}
use Rattle.theory_lists.specs.Bools.{and_left, and_right, both, same_eq, eq_same, eqb_of, Each-nth}
use Rattle.theory_paths.specs.Good.{GoodLabels, GoodKey}
use Rattle.theory_lists.specs.Lists.{is_empty_nil}
use Rattle.theory_rule_tests.specs.SameParts
use Rattle.theory_rule_tests.specs.SameParts.{same_sets, sets-eq, eq_sets, prefix_epsilon_test, superkey_test, context_path_test, target_path_test}
use Rattle.theory_rule_tests.specs.Subnodes
use Rattle.theory_rule_tests.specs.Subnodes.{subnodes_test, subnodes_epsilon_test}
use Rattle.theory_rule_tests.specs.Cuts
use Rattle.theory_rule_tests.specs.Cuts.{context_target_test}
use Rattle.theory_rule_tests.specs.Interactions
use Rattle.theory_rule_tests.specs.Interactions.{interaction_test}

-- two keys are the same
unfoldable pub same_key : Key → Key → Bool
same_key c k = same c.context k.context && (same c.target k.target && same_sets c.paths k.paths)

-- a test on a premise, where there is one
unfoldable pub on_premise : Option Key → (Key → Bool) → Bool
on_premise none f = false
on_premise (some p) f = f p

unfoldable pub unused : ℕ → Bool
unused n = eqb n no_number

-- by the rule's number
unfoldable pub rule_test : ℕ → List Key → List Key → Line → Bool
rule_test zero keys earlier l = unused l.second && on_premise (get_elem? keys l.first) (λ (c : Key). same_key c l.key)
rule_test (suc zero) keys earlier l = unused l.first && (unused l.second && is_empty l.key.target)
rule_test (suc (suc zero)) keys earlier l = unused l.second && on_premise (get_elem? earlier l.first) (λ (p : Key). prefix_epsilon_test p l.key)
rule_test (suc (suc (suc zero))) keys earlier l = unused l.second && on_premise (get_elem? earlier l.first) (λ (p : Key). superkey_test p l.key)
rule_test (suc (suc (suc (suc zero)))) keys earlier l = unused l.second && on_premise (get_elem? earlier l.first) (λ (p : Key). subnodes_test p l.key)
rule_test (suc (suc (suc (suc (suc zero))))) keys earlier l = unused l.second && on_premise (get_elem? earlier l.first) (λ (p : Key). context_path_test p l.key)
rule_test (suc (suc (suc (suc (suc (suc zero)))))) keys earlier l = unused l.second && on_premise (get_elem? earlier l.first) (λ (p : Key). target_path_test p l.key)
rule_test (suc (suc (suc (suc (suc (suc (suc zero))))))) keys earlier l = unused l.second && on_premise (get_elem? earlier l.first) (λ (p : Key). context_target_test p l.key)
rule_test (suc (suc (suc (suc (suc (suc (suc (suc zero)))))))) keys earlier l = unused l.second && on_premise (get_elem? earlier l.first) (λ (p : Key). subnodes_epsilon_test p l.key)
rule_test (suc (suc (suc (suc (suc (suc (suc (suc (suc zero))))))))) keys earlier l =
    on_premise (get_elem? earlier l.first) (λ (p : Key). on_premise (get_elem? earlier l.second) (λ (r : Key). interaction_test p r l.key))
rule_test (suc (suc (suc (suc (suc (suc (suc (suc (suc (suc n)))))))))) keys earlier l = false

unfoldable pub follows_test : List Key → List Key → Line → Bool
follows_test keys earlier l = rule_test l.rule keys earlier l

pub same_key_eq : (c k : Key) → T (same_key c k) → c ≡ k
unfolding same_key
same_key_eq c k h =
    let h₁ = and_right (same c.context k.context) _ h in
    λ i. record {
      context = same_eq _ _ (and_left (same c.context k.context) _ h) i;
      target = same_eq _ _ (and_left (same c.target k.target) _ h₁) i;
      paths = sets-eq _ _ (and_right (same c.target k.target) _ h₁) i;
    }

pub eq_same_key : (c k : Key) → c ≡ k → T (same_key c k)
unfolding same_key
eq_same_key c k e =
    both (same c.context k.context) _ (eq_same _ _ (ap (λ (x : Key). x.context) e))
    (both (same c.target k.target) _ (eq_same _ _ (ap (λ (x : Key). x.target) e)) (eq_sets _ _ (ap (λ (x : Key). x.paths) e)))

-- a premise that passes a test stands there
pub record Stands (keys : List Key) (n : ℕ) (f : Key → Bool) : Type 0 where
  pub premise : Key
  pub there : get_elem? keys n ≡ some premise
  pub passes : T (f premise)

pub premise_of : (keys : List Key) (n : ℕ) (f : Key → Bool) → T (on_premise (get_elem? keys n) f) → Stands keys n f
unfolding on_premise
premise_of keys n f h = go (get_elem? keys n) refl h
  where
    go : (o : Option Key) → get_elem? keys n ≡ o → T (on_premise o f) → Stands keys n f
    go none e h = absurd h
    go (some p) e h = record { premise = p; there = e; passes = h }

pub of_premise : (keys : List Key) (n : ℕ) (f : Key → Bool) (p : Key) → get_elem? keys n ≡ some p → T (f p) → T (on_premise (get_elem? keys n) f)
unfolding on_premise
of_premise keys n f p e h = subst (λ (o : Option Key). T (on_premise o f)) (sym e) h

module _ (labels : List Label) (known : GoodLabels labels) (proof_limits : KeyLimits) (keys earlier : List Key)
    (good_earlier : Each (GoodKey labels proof_limits) earlier) (l : Line) (good_line : GoodKey labels proof_limits l.key) where
  good : (n : ℕ) (p : Key) → get_elem? earlier n ≡ some p → GoodKey labels proof_limits p
  good n p e = Each-nth n good_earlier e

  -- the one premise of rules 2 to 8
  one : (test : Key → Bool) → T (unused l.second && on_premise (get_elem? earlier l.first) test) → Stands earlier l.first test
  one test h = premise_of earlier l.first test (and_right (unused l.second) _ h)

  second_unused : (b : Bool) → T (unused l.second && b) → l.second ≡ no_number
  unfolding unused
  second_unused b h = eqb→eq _ _ (and_left (eqb l.second no_number) b h)

  from_test : (n : ℕ) → l.rule ≡ n → T (rule_test n keys earlier l) → Follows labels keys earlier l
  unfolding rule_test unused is_empty Epsilon
  from_test zero e h =
      let s = premise_of keys l.first (λ (c : Key). same_key c l.key) (and_right (unused l.second) _ h) in
      rule0 e (second_unused _ h) (s.there ∙ ap some (same_key_eq s.premise l.key s.passes))
  from_test (suc zero) e h =
      let h₁ = and_right (unused l.first) _ h in
      rule1 e (eqb→eq _ _ (and_left (eqb l.first no_number) _ h)) (second_unused _ h₁) (is_empty_nil l.key.target (and_right (unused l.second) _ h₁))
  from_test (suc (suc zero)) e h =
      let s = one (λ (p : Key). prefix_epsilon_test p l.key) h in
      rule2 e (second_unused _ h) s.premise s.there (SameParts.prefix_epsilon_of s.premise l.key s.passes)
  from_test (suc (suc (suc zero))) e h =
      let s = one (λ (p : Key). superkey_test p l.key) h in
      rule3 e (second_unused _ h) s.premise s.there (SameParts.superkey_of s.premise l.key s.passes)
  from_test (suc (suc (suc (suc zero)))) e h =
      let s = one (λ (p : Key). subnodes_test p l.key) h in
      rule4 e (second_unused _ h) s.premise s.there (Subnodes.subnodes_of labels proof_limits proof_limits s.premise l.key (good _ s.premise s.there) good_line s.passes)
  from_test (suc (suc (suc (suc (suc zero))))) e h =
      let s = one (λ (p : Key). context_path_test p l.key) h in
      rule5 e (second_unused _ h) s.premise s.there (SameParts.context_path_of labels known proof_limits proof_limits s.premise l.key (good _ s.premise s.there) good_line s.passes)
  from_test (suc (suc (suc (suc (suc (suc zero)))))) e h =
      let s = one (λ (p : Key). target_path_test p l.key) h in
      rule6 e (second_unused _ h) s.premise s.there (SameParts.target_path_of labels known proof_limits proof_limits s.premise l.key (good _ s.premise s.there) good_line s.passes)
  from_test (suc (suc (suc (suc (suc (suc (suc zero))))))) e h =
      let s = one (λ (p : Key). context_target_test p l.key) h in
      rule7 e (second_unused _ h) s.premise s.there (Cuts.context_target_of labels proof_limits proof_limits s.premise l.key (good _ s.premise s.there) good_line s.passes)
  from_test (suc (suc (suc (suc (suc (suc (suc (suc zero)))))))) e h =
      let s = one (λ (p : Key). subnodes_epsilon_test p l.key) h in
      rule8 e (second_unused _ h) s.premise s.there (Subnodes.subnodes_epsilon_of labels proof_limits proof_limits s.premise l.key (good _ s.premise s.there) good_line s.passes)
  from_test (suc (suc (suc (suc (suc (suc (suc (suc (suc zero))))))))) e h =
      let s = premise_of earlier l.first _ h in
      let t = premise_of earlier l.second _ s.passes in
      rule9 e s.premise t.premise s.there t.there
      (Interactions.interaction_of labels proof_limits proof_limits s.premise t.premise l.key (good _ s.premise s.there) (good _ t.premise t.there) t.passes)
  from_test (suc (suc (suc (suc (suc (suc (suc (suc (suc (suc n)))))))))) e h = absurd h

  pub test_follows : T (follows_test keys earlier l) → Follows labels keys earlier l
  unfolding follows_test
  test_follows h = from_test l.rule refl h

  -- a rule's test at the line's own number
  at_rule : (n : ℕ) → l.rule ≡ n → T (rule_test n keys earlier l) → T (follows_test keys earlier l)
  unfolding follows_test
  at_rule n e h = subst (λ (m : ℕ). T (rule_test m keys earlier l)) (sym e) h

  with_second : (b : Bool) → l.second ≡ no_number → T b → T (unused l.second && b)
  unfolding unused
  with_second b e h = both (eqb l.second no_number) b (eqb_of _ _ e) h

  pub follows_test_lem : Follows labels keys earlier l → T (follows_test keys earlier l)
  unfolding rule_test unused is_empty Epsilon
  follows_test_lem (rule0 e s c) = at_rule 0 e (with_second _ s (of_premise keys l.first _ l.key c (eq_same_key l.key l.key refl)))
  follows_test_lem (rule1 e f s t) =
      at_rule 1 e (both (eqb l.first no_number) _ (eqb_of _ _ f) (with_second _ s (SameParts.is_empty_lem l.key.target t)))
  follows_test_lem (rule2 e s p c r) = at_rule 2 e (with_second _ s (of_premise earlier l.first _ p c (SameParts.of_prefix_epsilon p l.key r)))
  follows_test_lem (rule3 e s p c r) = at_rule 3 e (with_second _ s (of_premise earlier l.first _ p c (SameParts.of_superkey p l.key r)))
  follows_test_lem (rule4 e s p c r) = at_rule 4 e (with_second _ s (of_premise earlier l.first _ p c (Subnodes.of_subnodes labels proof_limits proof_limits p l.key (good _ p c) good_line r)))
  follows_test_lem (rule5 e s p c r) = at_rule 5 e (with_second _ s (of_premise earlier l.first _ p c (SameParts.of_context_path labels known proof_limits proof_limits p l.key (good _ p c) good_line r)))
  follows_test_lem (rule6 e s p c r) = at_rule 6 e (with_second _ s (of_premise earlier l.first _ p c (SameParts.of_target_path labels known proof_limits proof_limits p l.key (good _ p c) good_line r)))
  follows_test_lem (rule7 e s p c r) = at_rule 7 e (with_second _ s (of_premise earlier l.first _ p c (Cuts.of_context_target labels proof_limits proof_limits p l.key (good _ p c) good_line r)))
  follows_test_lem (rule8 e s p c r) = at_rule 8 e (with_second _ s (of_premise earlier l.first _ p c (Subnodes.of_subnodes_epsilon labels proof_limits proof_limits p l.key (good _ p c) good_line r)))
  follows_test_lem (rule9 e p r c d i) =
      at_rule 9 e
      (of_premise earlier l.first _ p c
      (of_premise earlier l.second _ r d
      (Interactions.of_interaction labels proof_limits proof_limits p r l.key (good _ p c) (good _ r d) i)))
