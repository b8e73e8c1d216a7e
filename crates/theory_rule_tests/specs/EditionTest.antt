-- Whether a line follows in an edition: the test of both editions, and beside it that of rule 10.
use Rattle.std.specs.Prelude.{ℕ, ◌≡◌, Bool, cond, ◌&&◌}
use Rattle.std.proofs.Math.Path.{refl, subst}
use Rattle.std.proofs.Common.{sym, eqb→eq}
use Rattle.std.proofs.Math.Bool.{true, false}
use mathlib.Core.List.{List, [], ◌∷◌}
use Rattle.std.proofs.Math.Dec.{T, eqb}
use borrow.Author.Tests.{eqb-true, eq-eqb}
use Rattle.meaning.specs.Limits.{KeyLimits, no_number}
use Rattle.meaning.specs.Lists.{Each}
use Rattle.meaning.specs.Paths.{Label}
use Rattle.meaning.specs.Keys.{Key}
use Rattle.meaning.specs.Rules.{Line, OneAttribute, FollowsIn, shared, rule10}
use Rattle.theory_lists.specs.Bools.{and_left, and_right, both, eqb_of}
use Rattle.theory_paths.specs.Good.{GoodLabels, GoodKey}
use Rattle.theory_rule_tests.specs.LineTest.{unused, rule_test, follows_test, test_follows, follows_test_lem}

-- "any key whose target is a single attribute label"
unfoldable pub one_attribute : (ℕ → Bool) → List ℕ → Bool
one_attribute single [] = false
one_attribute single (l ∷ []) = single l
one_attribute single (l ∷ m ∷ p) = false

unfoldable pub tenth_test : (ℕ → Bool) → Line → Bool
tenth_test single l = unused l.first && (unused l.second && one_attribute single l.key.target)

unfoldable pub follows_in_test : (ℕ → Bool) → List Key → List Key → Line → Bool
follows_in_test single keys earlier l = cond (eqb l.rule 10) (tenth_test single l) (follows_test keys earlier l)

one_says : (single : ℕ → Bool) (k : Key) (t : List ℕ) → k.target ≡ t → T (one_attribute single t) → OneAttribute single k
unfolding one_attribute
one_says single k [] e h = absurd h
one_says single k (l ∷ []) e h = record { label = l; is_single = h; target = e }
one_says single k (l ∷ m ∷ p) e h = absurd h

module _ (single : ℕ → Bool) (labels : List Label) (known : GoodLabels labels) (proof_limits : KeyLimits) (keys earlier : List Key)
    (good_earlier : Each (GoodKey labels proof_limits) earlier) (l : Line) (good_line : GoodKey labels proof_limits l.key) where
  pub test_follows_in : T (follows_in_test single keys earlier l) → FollowsIn single labels keys earlier l
  unfolding follows_in_test tenth_test unused
  test_follows_in h = go (eqb l.rule 10) refl h
    where
      go : (b : Bool) → eqb l.rule 10 ≡ b → T (cond b (tenth_test single l) (follows_test keys earlier l)) → FollowsIn single labels keys earlier l
      go true e t =
          let r = and_right (eqb l.first no_number) _ t in
          rule10 (eqb-true _ _ e) (eqb→eq _ _ (and_left (eqb l.first no_number) _ t)) (eqb→eq _ _ (and_left (eqb l.second no_number) _ r))
          (one_says single l.key l.key.target refl (and_right (eqb l.second no_number) _ r))
      go false e t = shared (test_follows labels known proof_limits keys earlier good_earlier l good_line t)

  -- no rule of both editions has the number 10
  not_ten : T (follows_test keys earlier l) → eqb l.rule 10 ≡ true → ⊥
  unfolding follows_test rule_test
  not_ten t e = let ten : l.rule ≡ 10 = eqb-true l.rule 10 e in subst (λ (n : ℕ). T (rule_test n keys earlier l)) ten t

  pub follows_in_test_lem : FollowsIn single labels keys earlier l → T (follows_in_test single keys earlier l)
  unfolding follows_in_test
  follows_in_test_lem (shared f) = go (eqb l.rule 10) refl
    where
      t : T (follows_test keys earlier l)
      t = follows_test_lem labels known proof_limits keys earlier good_earlier l good_line f

      go : (b : Bool) → eqb l.rule 10 ≡ b → T (cond b (tenth_test single l) (follows_test keys earlier l))
      go true e = absurd (not_ten t e)
      go false e = t
  follows_in_test_lem (rule10 r f s o) =
      subst (λ (b : Bool). T (cond b (tenth_test single l) (follows_test keys earlier l))) (sym (eq-eqb _ _ r))
      (unfold tenth_test unused in
      both (eqb l.first no_number) _ (eqb_of _ _ f)
      (both (eqb l.second no_number) _ (eqb_of _ _ s)
      (subst (λ (p : List ℕ). T (one_attribute single p)) (sym o.target) (unfold one_attribute in o.is_single))))
