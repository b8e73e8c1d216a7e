-- Rules 4 and 8 as tests: the premise's target goes on, by a simple path, behind the new target.
use Rattle.std.specs.Prelude.{ℕ, ◌-◌, ◌≡◌, refl, Bool, ◌&&◌, length, drop}
use Rattle.std.proofs.Math.Path.{sym, ap, ap₂}
use Rattle.std.proofs.Common.{◌∙◌, subst}
use mathlib.Core.List.{List, [], ◌∷◌, ◌++◌, Memᴰ}
use Rattle.std.proofs.Math.Dec.{T}
use Rattle.std.proofs.Math.ListN.{get_or}
use Rattle.std.proofs.Math.Seq.{drop-append_seam}
use Rattle.meaning.specs.Limits.{KeyLimits}
use Rattle.meaning.specs.Lists.{same}
use Rattle.meaning.specs.Paths.{Label, simple, join}
use Rattle.meaning.specs.Keys.{Key}
use Rattle.meaning.specs.Rules.{Subnodes, SubnodesEpsilon, with_empty}
use Rattle.theory_lists.specs.Bools.{and_left, and_right, both, same_eq, eq_same}
use Rattle.theory_paths.specs.Simple.{join_simple, join_simples}
use Rattle.theory_paths.specs.Good
use Rattle.theory_paths.specs.Good.{GoodKey}
use Rattle.theory_lists.specs.Lists.{with_empty_path, with_empty_last}
use Rattle.theory_rule_tests.specs.Beginnings.{begins, begins_split, begins_append}
use Rattle.theory_rule_tests.specs.SameParts.{same_context, same_sets, sets-eq, eq_sets}

-- P of T = X.P, where X is the new target
unfoldable pub further : Key → Key → List ℕ
further p k = drop (length k.target) p.target

unfoldable pub only_path : Key → List ℕ
only_path k = get_or k.paths 0 []

-- p of the set {empty, p}: its last path
unfoldable pub last_path : Key → List ℕ
last_path k = get_or k.paths (length k.paths - 1) []

-- the new target begins the old one, and what is left of it is simple
unfoldable pub goes_on : Key → Key → Bool
goes_on p k = begins k.target p.target && simple (further p k)

unfoldable pub subnodes_test : Key → Key → Bool
subnodes_test p k =
    same_context p k && (goes_on p k && (same_sets p.paths (only_path p ∷ []) && same_sets k.paths ((further p k ++ only_path p) ∷ [])))

unfoldable pub subnodes_epsilon_test : Key → Key → Bool
subnodes_epsilon_test p k =
    same_context p k && (goes_on p k && (same_sets p.paths (with_empty (last_path p)) && same_sets k.paths (with_empty (further p k ++ last_path p))))

module _ (labels : List Label) (old new : KeyLimits) (p k : Key) (good_old : GoodKey labels old p) (good_new : GoodKey labels new k) where
  simple_of : (s : List ℕ) (set : List (List ℕ)) → p.paths ≡ set → Memᴰ s set → T (simple s)
  simple_of s set e m = Good.key_path_simple labels old p good_old s (subst (λ (ps : List (List ℕ)). Memᴰ s ps) (sym e) m)

  goes_on_target : T (goes_on p k) → p.target ≡ join k.target (further p k)
  unfolding goes_on further
  goes_on_target h =
      begins_split k.target p.target (and_left (begins k.target p.target) _ h)
      ∙ sym (join_simple k.target _ (Good.target_normal labels new k good_new) (and_right (begins k.target p.target) _ h))

  goes_on_simple : T (goes_on p k) → T (simple (further p k))
  unfolding goes_on
  goes_on_simple h = and_right (begins k.target p.target) _ h

  further_is : (P : List ℕ) → T (simple P) → p.target ≡ join k.target P → further p k ≡ P
  unfolding further
  further_is P s e =
      ap (drop (length k.target)) (e ∙ join_simple k.target P (Good.target_normal labels new k good_new) s) ∙ drop-append_seam k.target P

  goes_on_of : (P : List ℕ) → T (simple P) → p.target ≡ join k.target P → T (goes_on p k)
  unfolding goes_on
  goes_on_of P s e =
      both (begins k.target p.target) _
      (subst (λ (q : List ℕ). T (begins k.target q)) (sym (e ∙ join_simple k.target P (Good.target_normal labels new k good_new) s))
      (begins_append k.target P))
      (subst (λ (q : List ℕ). T (simple q)) (sym (further_is P s e)) s)

  pub subnodes_of : T (subnodes_test p k) → Subnodes p k
  unfolding subnodes_test same_context
  subnodes_of h =
      let h₁ = and_right (same k.context p.context) _ h in
      let h₂ = and_right (goes_on p k) _ h₁ in
      let on = and_left (goes_on p k) _ h₁ in
      let e = sets-eq _ _ (and_left (same_sets p.paths (only_path p ∷ [])) _ h₂) in
      let s_p = goes_on_simple on in
      record {
        P = further p k;
        s = only_path p;
        is_simple = s_p;
        context = same_eq _ _ (and_left (same k.context p.context) _ h);
        target = goes_on_target on;
        old = e;
        new =
            sets-eq _ _ (and_right (same_sets p.paths (only_path p ∷ [])) _ h₂)
            ∙ ap (λ (q : List ℕ). q ∷ []) (sym (join_simples (further p k) (only_path p) s_p (simple_of (only_path p) _ e (Memᴰ.head refl))));
      }

  pub of_subnodes : Subnodes p k → T (subnodes_test p k)
  unfolding subnodes_test same_context only_path
  of_subnodes r =
      let f = further_is r.P r.is_simple r.target in
      let o : get_or p.paths 0 [] ≡ r.s = ap (λ (ps : List (List ℕ)). get_or ps 0 []) r.old in
      both (same k.context p.context) _ (eq_same _ _ r.context)
      (both (goes_on p k) _ (goes_on_of r.P r.is_simple r.target)
      (both (same_sets p.paths (get_or p.paths 0 [] ∷ [])) _ (eq_sets _ _ (r.old ∙ ap (λ (q : List ℕ). q ∷ []) (sym o)))
      (eq_sets _ _
      (r.new
      ∙ ap (λ (q : List ℕ). q ∷ []) (join_simples r.P r.s r.is_simple (simple_of r.s _ r.old (Memᴰ.head refl)) ∙ ap₂ ◌++◌ (sym f) (sym o))))))

  pub subnodes_epsilon_of : T (subnodes_epsilon_test p k) → SubnodesEpsilon p k
  unfolding subnodes_epsilon_test same_context
  subnodes_epsilon_of h =
      let h₁ = and_right (same k.context p.context) _ h in
      let h₂ = and_right (goes_on p k) _ h₁ in
      let on = and_left (goes_on p k) _ h₁ in
      let e = sets-eq _ _ (and_left (same_sets p.paths (with_empty (last_path p))) _ h₂) in
      let s_p = goes_on_simple on in
      record {
        P = further p k;
        s = last_path p;
        is_simple = s_p;
        context = same_eq _ _ (and_left (same k.context p.context) _ h);
        target = goes_on_target on;
        old = e;
        new =
            sets-eq _ _ (and_right (same_sets p.paths (with_empty (last_path p))) _ h₂)
            ∙ ap with_empty (sym (join_simples (further p k) (last_path p) s_p (simple_of (last_path p) _ e (with_empty_path (last_path p)))));
      }

  pub of_subnodes_epsilon : SubnodesEpsilon p k → T (subnodes_epsilon_test p k)
  unfolding subnodes_epsilon_test same_context last_path
  of_subnodes_epsilon r =
      let f = further_is r.P r.is_simple r.target in
      let o : get_or p.paths (length p.paths - 1) [] ≡ r.s =
      ap (λ (ps : List (List ℕ)). get_or ps (length ps - 1) []) r.old ∙ with_empty_last r.s in
      both (same k.context p.context) _ (eq_same _ _ r.context)
      (both (goes_on p k) _ (goes_on_of r.P r.is_simple r.target)
      (both (same_sets p.paths (with_empty (get_or p.paths (length p.paths - 1) []))) _ (eq_sets _ _ (r.old ∙ ap with_empty (sym o)))
      (eq_sets _ _
      (r.new
      ∙ ap with_empty (join_simples r.P r.s r.is_simple (simple_of r.s _ r.old (with_empty_path r.s)) ∙ ap₂ ◌++◌ (sym f) (sym o))))))
