-- Rule 7 as a test: "X and Y exist with X.Y = T; gives (C.X, (Y, S)). A single `_*` may split into two." Y is the new target, so it ends T,
-- and X is what stands before it, or that and the any-path with which Y begins.
use Rattle.std.specs.Prelude.{ℕ, zero, suc, ◌-◌, ◌≡◌, refl, ◌⊎◌, Bool, true, false, ◌&&◌, ◌||◌, leb, length, take, drop}
use Rattle.std.proofs.Math.Path.{sym, ap}
use Rattle.std.proofs.Common.{◌∙◌, ap₂, subst, inl, inr, arith, le→leb, take-append-drop, length-append}
use Rattle.std.proofs.Math.Logic.{⊎_elim}
use mathlib.Core.List.{List, [], ◌∷◌, ◌++◌}
use Rattle.std.proofs.Math.Dec.{T}
use Rattle.std.proofs.Math.Seq.{take-append_seam, drop-append_seam}
use Rattle.meaning.specs.Limits.{KeyLimits}
use Rattle.meaning.specs.Lists.{same}
use Rattle.meaning.specs.Paths.{Label, norm, normal, join}
use Rattle.meaning.specs.Keys.{Key}
use Rattle.meaning.specs.Rules.{ContextTarget}
use Rattle.theory_lists.specs.Bools.{and_left, and_right, both, or_cases, or_left, or_right, same_eq, eq_same}
use Rattle.theory_paths.specs.Normal.{norm_normal, norm_of_normal, norm_append_left, norm_append_right, norm_doubled}
use Rattle.theory_paths.specs.Good
use Rattle.theory_paths.specs.Good.{GoodKey}
use Rattle.theory_rule_tests.specs.SameParts.{same_sets, sets-eq, eq_sets}

-- what stands in T before as many symbols as Y has
unfoldable pub before_end : List ℕ → List ℕ → List ℕ
before_end t y = take (length t - length y) t

-- Y ends T
unfoldable pub ends_path : List ℕ → List ℕ → Bool
ends_path t y = leb (length y) (length t) && same (drop (length t - length y) t) y

unfoldable pub starts_any : List ℕ → Bool
starts_any [] = false
starts_any (zero ∷ y) = true
starts_any (suc a ∷ y) = false

unfoldable pub context_target_test : Key → Key → Bool
context_target_test p k =
    ends_path p.target k.target && (same_sets k.paths p.paths
    && (same k.context (join p.context (before_end p.target k.target))
    || starts_any k.target && same k.context (join p.context (before_end p.target k.target ++ (0 ∷ [])))))

-- Two normal paths side by side are normal, or an any-path ends the first and begins the second
pub record Meets (n y : List ℕ) : Type 0 where
  pub front : List ℕ
  pub back : List ℕ
  pub ends : n ≡ front ++ (0 ∷ [])
  pub begins : y ≡ 0 ∷ back
  pub once : T (normal (front ++ (0 ∷ back)))

pub side_by_side : (n y : List ℕ) → T (normal n) → T (normal y) → T (normal (n ++ y)) ⊎ Meets n y
unfolding normal
side_by_side [] y hn hy = inl hy
side_by_side (suc a ∷ n) y hn hy = ⊎_elim inl (λ m. inr (more (suc a) m m.once)) (side_by_side n y hn hy)
  where
    more : (s : ℕ) → (m : Meets n y) → T (normal (s ∷ m.front ++ (0 ∷ m.back))) → Meets (s ∷ n) y
    more s m h = record { front = s ∷ m.front; back = m.back; ends = ap (λ (l : List ℕ). s ∷ l) m.ends; begins = m.begins; once = h }
side_by_side (zero ∷ []) [] hn hy = inl tt
side_by_side (zero ∷ []) (zero ∷ z) hn hy = inr (record { front = []; back = z; ends = refl; begins = refl; once = hy })
side_by_side (zero ∷ []) (suc b ∷ z) hn hy = inl hy
side_by_side (zero ∷ zero ∷ n) y hn hy = absurd hn
side_by_side (zero ∷ suc a ∷ n) y hn hy = ⊎_elim inl (λ m. inr (more m)) (side_by_side n y hn hy)
  where
    more : Meets n y → Meets (zero ∷ suc a ∷ n) y
    more m =
        record {
          front = zero ∷ suc a ∷ m.front;
          back = m.back;
          ends = ap (λ (l : List ℕ). zero ∷ suc a ∷ l) m.ends;
          begins = m.begins;
          once = m.once;
        }

ends_split : (t y : List ℕ) → T (ends_path t y) → t ≡ before_end t y ++ y
unfolding ends_path before_end
ends_split t y h =
    sym (take-append-drop (length t - length y) t)
    ∙ ap (λ (l : List ℕ). take (length t - length y) t ++ l) (same_eq _ _ (and_right (leb (length y) (length t)) _ h))

seam : (x y : List ℕ) → length (x ++ y) - length y ≡ length x
seam x y = let e = length-append x y in omega arith

before_append : (x y : List ℕ) → before_end (x ++ y) y ≡ x
unfolding before_end
before_append x y = ap (λ (n : ℕ). take n (x ++ y)) (seam x y) ∙ take-append_seam x y

ends_append : (x y : List ℕ) → T (ends_path (x ++ y) y)
unfolding ends_path
ends_append x y =
    both (leb (length y) (length (x ++ y))) _ (le→leb (length y) (length (x ++ y)) (let e = length-append x y in omega arith))
    (eq_same _ _ (ap (λ (n : ℕ). drop n (x ++ y)) (seam x y) ∙ drop-append_seam x y))

starts_is : (y : List ℕ) → T (starts_any y) → (z : List ℕ) × (y ≡ 0 ∷ z)
unfolding starts_any
starts_is [] h = absurd h
starts_is (zero ∷ y) h = (y, refl)
starts_is (suc a ∷ y) h = absurd h

is_starts : (y z : List ℕ) → y ≡ 0 ∷ z → T (starts_any y)
unfolding starts_any
is_starts y z e = subst (λ (l : List ℕ). T (starts_any l)) (sym e) tt

module _ (labels : List Label) (old new : KeyLimits) (p k : Key) (good_old : GoodKey labels old p) (good_new : GoodKey labels new k) where
  old_normal : norm p.target ≡ p.target
  old_normal = norm_of_normal p.target (Good.target_normal labels old p good_old)

  pub context_target_of : T (context_target_test p k) → ContextTarget p k
  unfolding context_target_test join
  context_target_of h =
      let h₁ = and_right (ends_path p.target k.target) _ h in
      let e = ends_split p.target k.target (and_left (ends_path p.target k.target) _ h) in
      let s = sets-eq _ _ (and_left (same_sets k.paths p.paths) _ h₁) in
      ⊎_elim
      (λ c. record {
        X = before_end p.target k.target;
        target = ap norm (sym e) ∙ old_normal;
        context = same_eq _ _ c;
        paths = s;
      })
      (λ c.
      let y = starts_is k.target (and_left (starts_any k.target) _ c) in
      let f = ap (λ (l : List ℕ). before_end p.target k.target ++ l) y.1 in
      record {
        X = before_end p.target k.target ++ (0 ∷ []);
        target =
            ap (λ (l : List ℕ). norm ((before_end p.target k.target ++ (0 ∷ [])) ++ l)) y.1 ∙ norm_doubled (before_end p.target k.target) y.0
            ∙ ap norm (sym f ∙ sym e) ∙ old_normal;
        context = same_eq _ _ (and_right (starts_any k.target) _ c);
        paths = s;
      })
      (or_cases (same k.context (norm (p.context ++ before_end p.target k.target))) _ (and_right (same_sets k.paths p.paths) _ h₁))

  -- T = X.Y side by side
  test_first : (x : List ℕ) → p.target ≡ x ++ k.target → k.context ≡ join p.context x → k.paths ≡ p.paths → T (context_target_test p k)
  unfolding context_target_test
  test_first x e c s =
      let b : before_end p.target k.target ≡ x = ap (λ (l : List ℕ). before_end l k.target) e ∙ before_append x k.target in
      both (ends_path p.target k.target) _ (subst (λ (l : List ℕ). T (ends_path l k.target)) (sym e) (ends_append x k.target))
      (both (same_sets k.paths p.paths) _ (eq_sets _ _ s)
      (or_left (same k.context (join p.context (before_end p.target k.target))) _
      (eq_same _ _ (c ∙ ap (join p.context) (sym b)))))

  -- an any-path of T ends X and begins Y
  test_second : (x z : List ℕ) → k.target ≡ 0 ∷ z → p.target ≡ x ++ k.target → k.context ≡ join p.context (x ++ (0 ∷ []))
      → k.paths ≡ p.paths → T (context_target_test p k)
  unfolding context_target_test
  test_second x z y e c s =
      let b : before_end p.target k.target ≡ x = ap (λ (l : List ℕ). before_end l k.target) e ∙ before_append x k.target in
      both (ends_path p.target k.target) _ (subst (λ (l : List ℕ). T (ends_path l k.target)) (sym e) (ends_append x k.target))
      (both (same_sets k.paths p.paths) _ (eq_sets _ _ s)
      (or_right (same k.context (join p.context (before_end p.target k.target))) _
      (both (starts_any k.target) _ (is_starts k.target z y)
      (eq_same _ _ (c ∙ ap (λ (l : List ℕ). join p.context (l ++ (0 ∷ []))) (sym b))))))

  pub of_context_target : ContextTarget p k → T (context_target_test p k)
  unfolding join
  of_context_target r =
      ⊎_elim beside meeting
      (side_by_side (norm r.X) k.target (norm_normal r.X) (Good.target_normal labels new k good_new))
    where
      whole : norm (norm r.X ++ k.target) ≡ p.target
      whole = norm_append_left r.X k.target ∙ r.target

      into : k.context ≡ norm (p.context ++ norm r.X)
      into = r.context ∙ sym (norm_append_right p.context r.X)

      beside : T (normal (norm r.X ++ k.target)) → T (context_target_test p k)
      beside n = test_first (norm r.X) (sym whole ∙ norm_of_normal _ n) into r.paths

      meeting : Meets (norm r.X) k.target → T (context_target_test p k)
      meeting m = test_second m.front m.back m.begins split (into ∙ ap (λ (l : List ℕ). norm (p.context ++ l)) m.ends) r.paths
        where
          split : p.target ≡ m.front ++ k.target
          split =
              sym whole ∙ ap₂ (λ (a b : List ℕ). norm (a ++ b)) m.ends m.begins ∙ norm_doubled m.front m.back ∙ norm_of_normal _ m.once
              ∙ ap (λ (l : List ℕ). m.front ++ l) (sym m.begins)
