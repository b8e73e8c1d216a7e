-- Rule 9 as a test.
use Rattle.std.specs.Prelude.{ℕ, ◌≡◌, refl, Bool, ◌&&◌, T}
use Rattle.std.proofs.Math.Path.{sym}
use Rattle.std.proofs.Common.{◌∙◌, ap₂}
use mathlib.Core.List.{List, [], ◌∷◌, ◌++◌, map, Memᴰ}
use Rattle.meaning.specs.Limits.{KeyLimits}
use Rattle.meaning.specs.Lists.{same}
use Rattle.meaning.specs.Paths.{Label, simple, join}
use Rattle.meaning.specs.Keys.{Key}
use Rattle.meaning.specs.Rules.{Interaction}
use Rattle.theory_lists.specs.Bools.{and_left, and_right, both, same_eq, eq_same}
use Rattle.theory_paths.specs.Simple.{join_simple, join_simples}
use Rattle.theory_paths.specs.Good
use Rattle.theory_paths.specs.Good.{GoodKey}
use Rattle.theory_rule_tests.specs.SameParts.{same_context, same_sets, sets-eq, eq_sets}

-- the premise's target in front of each key path
unfoldable pub prefixed : List ℕ → List (List ℕ) → List (List ℕ)
prefixed t set = map (λ (s : List ℕ). t ++ s) set

unfoldable pub interaction_test : Key → Key → Key → Bool
interaction_test p r k =
    simple r.target && (same_sets p.paths (prefixed r.target r.paths) && (same r.context (join p.context p.target)
    && (same_context p k && (same k.target (p.target ++ r.target) && same_sets k.paths r.paths))))

-- putting a simple path in front of simple paths is joining them
pub prefixed_is : (t : List ℕ) (set : List (List ℕ)) → T (simple t) → ((s : List ℕ) → Memᴰ s set → T (simple s)) → map (join t) set ≡ prefixed t set
unfolding prefixed
prefixed_is t [] h each = refl
prefixed_is t (s ∷ set) h each =
    ap₂ ◌∷◌ (join_simples t s h (each s (Memᴰ.head refl))) (prefixed_is t set h (λ q m. each q (Memᴰ.tail m)))

module _ (labels : List Label) (old other : KeyLimits) (p r k : Key) (good_old : GoodKey labels old p) (good_other : GoodKey labels other r) where
  paths_are : T (simple r.target) → map (join r.target) r.paths ≡ prefixed r.target r.paths
  paths_are h = prefixed_is r.target r.paths h (Good.key_path_simple labels other r good_other)

  target_is : T (simple r.target) → join p.target r.target ≡ p.target ++ r.target
  target_is h = join_simple p.target r.target (Good.target_normal labels old p good_old) h

  pub interaction_of : T (interaction_test p r k) → Interaction p r k
  unfolding interaction_test same_context
  interaction_of h =
      let s = and_left (simple r.target) _ h in
      let h₁ = and_right (simple r.target) _ h in
      let h₂ = and_right (same_sets p.paths (prefixed r.target r.paths)) _ h₁ in
      let h₃ = and_right (same r.context (join p.context p.target)) _ h₂ in
      let h₄ = and_right (same k.context p.context) _ h₃ in
      record {
        is_simple = s;
        first_paths = sets-eq _ _ (and_left (same_sets p.paths (prefixed r.target r.paths)) _ h₁) ∙ sym (paths_are s);
        second_context = same_eq _ _ (and_left (same r.context (join p.context p.target)) _ h₂);
        context = same_eq _ _ (and_left (same k.context p.context) _ h₃);
        target = same_eq _ _ (and_left (same k.target (p.target ++ r.target)) _ h₄) ∙ sym (target_is s);
        paths = sets-eq _ _ (and_right (same k.target (p.target ++ r.target)) _ h₄);
      }

  pub of_interaction : Interaction p r k → T (interaction_test p r k)
  unfolding interaction_test same_context
  of_interaction i =
      both (simple r.target) _ i.is_simple
      (both (same_sets p.paths (prefixed r.target r.paths)) _ (eq_sets _ _ (i.first_paths ∙ paths_are i.is_simple))
      (both (same r.context (join p.context p.target)) _ (eq_same _ _ i.second_context)
      (both (same k.context p.context) _ (eq_same _ _ i.context)
      (both (same k.target (p.target ++ r.target)) _ (eq_same _ _ (i.target ∙ target_is i.is_simple)) (eq_sets _ _ i.paths)))))
