-- Rules 2, 3, 5 and 6 as tests.
use Rattle.std.specs.Prelude.{ℕ, ◌≡◌, refl, Bool, true, false, ◌&&◌, T, length, drop}
use Rattle.std.proofs.Common.{sym, ap₂, subst}
use mathlib.Core.List.Memᴰ
use mathlib.Core.List.{List, [], ◌∷◌, ◌++◌, Memᴰ}
use Rattle.meaning.specs.Limits.{KeyLimits}
use Rattle.meaning.specs.Lists.{every, any, is_empty, same}
use Rattle.meaning.specs.Paths.{Label, member, Included}
use Rattle.meaning.specs.Keys.{Key}
use Rattle.meaning.specs.Rules.{BeginsSome, PrefixEpsilon, Superkey, ContextPath, TargetPath}
use Rattle.theory_lists.specs.Bools.{and_left, and_right, both, every_each, each_every, any_some, some_any, Each-at, Each-of, same_eq, eq_same}
use Rattle.theory_paths.specs.Good
use Rattle.theory_paths.specs.Good.{GoodLabels, GoodKey, included_good}
use Rattle.theory_lists.specs.Lists.{is_empty_nil}
use Rattle.theory_rule_tests.specs.Beginnings.{begins, begins_split, begins_append}

unfoldable pub same_context : Key → Key → Bool
same_context p k = same k.context p.context

unfoldable pub same_target : Key → Key → Bool
same_target p k = same k.target p.target

unfoldable pub holds_empty : Key → Bool
holds_empty k = any is_empty k.paths

-- each path of S begins some path of the new set
unfoldable pub all_begin : Key → Key → Bool
all_begin p k = every (λ (s : List ℕ). any (begins s) k.paths) p.paths

-- each path of S is in the new set
unfoldable pub all_among : Key → Key → Bool
all_among p k = every (λ (s : List ℕ). any (same s) k.paths) p.paths

unfoldable pub prefix_epsilon_test : Key → Key → Bool
prefix_epsilon_test p k = same_context p k && (same_target p k && (holds_empty p && (holds_empty k && all_begin p k)))

unfoldable pub superkey_test : Key → Key → Bool
superkey_test p k = same_context p k && (same_target p k && all_among p k)

pub is_empty_lem : (p : List ℕ) → p ≡ [] → T (is_empty p)
unfolding is_empty
is_empty_lem p e = subst (λ (q : List ℕ). T (is_empty q)) (sym e) tt

pub empty_among : (ps : List (List ℕ)) → T (any is_empty ps) → Memᴰ [] ps
empty_among ps h = let s = any_some is_empty ps h in Memᴰ.cast (sym (is_empty_nil s.0 s.2)) s.1

pub among_empty : (ps : List (List ℕ)) → Memᴰ [] ps → T (any is_empty ps)
unfolding is_empty
among_empty ps m = some_any is_empty [] m tt

begins_of : (set : List (List ℕ)) (s : List ℕ) → T (any (begins s) set) → BeginsSome set s
begins_of set s h =
    let f = any_some (begins s) set h in
    record { rest = drop (length s) f.0; among = Memᴰ.cast (sym (begins_split s f.0 f.2)) f.1 }

of_begins : (set : List (List ℕ)) (s : List ℕ) → BeginsSome set s → T (any (begins s) set)
of_begins set s b = some_any (begins s) (s ++ b.rest) b.among (begins_append s b.rest)

pub prefix_epsilon_of : (p k : Key) → T (prefix_epsilon_test p k) → PrefixEpsilon p k
unfolding prefix_epsilon_test same_context same_target holds_empty all_begin
prefix_epsilon_of p k h =
    let h₁ = and_right (same k.context p.context) _ h in
    let h₂ = and_right (same k.target p.target) _ h₁ in
    let h₃ = and_right (any is_empty p.paths) _ h₂ in
    record {
      context = same_eq _ _ (and_left (same k.context p.context) _ h);
      target = same_eq _ _ (and_left (same k.target p.target) _ h₁);
      old_empty = empty_among _ (and_left (any is_empty p.paths) _ h₂);
      new_empty = empty_among _ (and_left (any is_empty k.paths) _ h₃);
      begins = Each-of p.paths (λ s m. begins_of k.paths s (every_each _ p.paths (and_right (any is_empty k.paths) _ h₃) s m));
    }

pub of_prefix_epsilon : (p k : Key) → PrefixEpsilon p k → T (prefix_epsilon_test p k)
unfolding prefix_epsilon_test same_context same_target holds_empty all_begin
of_prefix_epsilon p k r =
    both (same k.context p.context) _ (eq_same _ _ r.context)
    (both (same k.target p.target) _ (eq_same _ _ r.target)
    (both (any is_empty p.paths) _ (among_empty _ r.old_empty)
    (both (any is_empty k.paths) _ (among_empty _ r.new_empty)
    (each_every _ p.paths (λ s m. of_begins k.paths s (Each-at r.begins s m))))))

pub superkey_of : (p k : Key) → T (superkey_test p k) → Superkey p k
unfolding superkey_test same_context same_target all_among
superkey_of p k h =
    let h₁ = and_right (same k.context p.context) _ h in
    record {
      context = same_eq _ _ (and_left (same k.context p.context) _ h);
      target = same_eq _ _ (and_left (same k.target p.target) _ h₁);
      includes =
          Each-of p.paths
          (λ s m. let f = any_some (same s) k.paths (every_each _ p.paths (and_right (same k.target p.target) _ h₁) s m) in
          Memᴰ.cast (same_eq s f.0 f.2) f.1);
    }

pub of_superkey : (p k : Key) → Superkey p k → T (superkey_test p k)
unfolding superkey_test same_context same_target all_among
of_superkey p k r =
    both (same k.context p.context) _ (eq_same _ _ r.context)
    (both (same k.target p.target) _ (eq_same _ _ r.target)
    (each_every _ p.paths (λ s m. some_any (same s) s (Each-at r.includes s m) (eq_same s s refl))))

-- two sets in record order are the same
unfoldable pub same_sets : List (List ℕ) → List (List ℕ) → Bool
same_sets [] [] = true
same_sets [] (q ∷ qs) = false
same_sets (p ∷ ps) [] = false
same_sets (p ∷ ps) (q ∷ qs) = same p q && same_sets ps qs

pub sets-eq : (ps qs : List (List ℕ)) → T (same_sets ps qs) → ps ≡ qs
unfolding same_sets
sets-eq [] [] h = refl
sets-eq [] (q ∷ qs) h = absurd h
sets-eq (p ∷ ps) [] h = absurd h
sets-eq (p ∷ ps) (q ∷ qs) h = ap₂ ◌∷◌ (same_eq p q (and_left (same p q) _ h)) (sets-eq ps qs (and_right (same p q) _ h))

sets_refl : (ps : List (List ℕ)) → T (same_sets ps ps)
unfolding same_sets
sets_refl [] = tt
sets_refl (p ∷ ps) = both (same p p) _ (eq_same p p refl) (sets_refl ps)

pub eq_sets : (ps qs : List (List ℕ)) → ps ≡ qs → T (same_sets ps qs)
eq_sets ps qs e = subst (λ (r : List (List ℕ)). T (same_sets ps r)) e (sets_refl ps)

unfoldable pub context_path_test : Key → Key → Bool
context_path_test p k = member p.context k.context && (same_target p k && same_sets k.paths p.paths)

unfoldable pub target_path_test : Key → Key → Bool
target_path_test p k = same_context p k && (member p.target k.target && same_sets k.paths p.paths)

module _ (labels : List Label) (known : GoodLabels labels) (old new : KeyLimits) (p k : Key) (good_old : GoodKey labels old p) (good_new : GoodKey labels new k) where
  context_included : (Included labels k.context p.context → T (member p.context k.context))
      × (T (member p.context k.context) → Included labels k.context p.context)
  context_included =
      included_good labels known k.context p.context (Good.context_symbols labels new k good_new) (Good.context_symbols labels old p good_old)
      (Good.valid_context labels new k good_new)

  target_included : (Included labels k.target p.target → T (member p.target k.target))
      × (T (member p.target k.target) → Included labels k.target p.target)
  target_included =
      included_good labels known k.target p.target (Good.target_symbols labels new k good_new) (Good.target_symbols labels old p good_old)
      (Good.valid_target labels new k good_new)

  pub context_path_of : T (context_path_test p k) → ContextPath labels p k
  unfolding context_path_test same_target
  context_path_of h =
      let h₁ = and_right (member p.context k.context) _ h in
      record {
        context = context_included.1 (and_left (member p.context k.context) _ h);
        target = same_eq _ _ (and_left (same k.target p.target) _ h₁);
        paths = sets-eq _ _ (and_right (same k.target p.target) _ h₁);
      }

  pub of_context_path : ContextPath labels p k → T (context_path_test p k)
  unfolding context_path_test same_target
  of_context_path r =
      both (member p.context k.context) _ (context_included.0 r.context)
      (both (same k.target p.target) _ (eq_same _ _ r.target) (eq_sets _ _ r.paths))

  pub target_path_of : T (target_path_test p k) → TargetPath labels p k
  unfolding target_path_test same_context
  target_path_of h =
      let h₁ = and_right (same k.context p.context) _ h in
      record {
        context = same_eq _ _ (and_left (same k.context p.context) _ h);
        target = target_included.1 (and_left (member p.target k.target) _ h₁);
        paths = sets-eq _ _ (and_right (member p.target k.target) _ h₁);
      }

  pub of_target_path : TargetPath labels p k → T (target_path_test p k)
  unfolding target_path_test same_context
  of_target_path r =
      both (same k.context p.context) _ (eq_same _ _ r.context)
      (both (member p.target k.target) _ (target_included.0 r.target) (eq_sets _ _ r.paths))
