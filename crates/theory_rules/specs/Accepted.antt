-- An accepted proof is true of every tree: each line's key is kept by a tree that keeps the profile.
use Prim.Native.Nat.{ℕ, zero, suc, ◌-◌}
use Rattle.std.specs.Prelude.{◌≡◌, length, take, Bool}
use Rattle.std.proofs.Common.{sym, ◌∙◌, ap, arith}
use Rattle.std.proofs.Math.Path.{subst}
use mathlib.Core.List.{List, [], ◌∷◌, ◌++◌, map}
use Rattle.std.proofs.Math.Option.{some, some-injective, none-ne-some}
use Rattle.std.proofs.Math.ListN.{get_elem?}
use Rattle.std.proofs.Math.Seq.{take-length}
use Rattle.meaning.specs.Limits.{in_proof}
use Rattle.meaning.specs.Lists.{Each}
use Rattle.meaning.specs.Lists.Each.{end, also}
use Rattle.meaning.specs.Paths.{Class, Label, Included, class_of, singles, Agrees}
use Rattle.meaning.specs.Trees.{Table, IsTree, Once}
use Rattle.meaning.specs.Keys.{Key, Keeps, Implied}
use Rattle.meaning.specs.Rules.{Line, Follows, rule0, rule1, rule2, rule3, rule4, rule5, rule6, rule7, rule8, rule9, FollowsIn, shared, rule10, line_keys, FollowsBelow, EndsWith, Accepted}
use Rattle.theory_paths.specs.Words.{Word, member→word}
use Rattle.theory_paths.specs.Good.{GoodLabels, GoodKey, included_good, context_symbols, target_symbols, valid_context, valid_target}
use Rattle.theory_lists.specs.Lists.{map_append, each_append}
use Rattle.theory_rules.specs.Single.{single_kept}
use Rattle.theory_rules.specs.Rules.{epsilon_kept, superkey_kept, context_kept, target_kept, context_target_kept, subnodes_kept, interaction_kept, prefix_epsilon_kept, subnodes_epsilon_kept}

-- what holds of each member holds of the one that stands at a number
pub each_number : {A : Type 0} {Q : A → Type 0} {xs : List A} → Each Q xs → (n : ℕ) {x : A} → get_elem? xs n ≡ some x → Q x
each_number {Q = Q} (also h r) zero {x} e = subst Q (some-injective _ x e) h
each_number (also h r) (suc n) e = each_number r n e
each_number end n {x} e = absurd (none-ne-some x e)

-- the lines before number n + 1 are those before n, and line n
pub take_next : {A : Type 0} (xs : List A) (n : ℕ) (x : A) → get_elem? xs n ≡ some x → take (suc n) xs ≡ take n xs ++ (x ∷ [])
take_next [] n x e = absurd (none-ne-some x e)
take_next (y ∷ ys) zero x e = ap (λ z. z ∷ []) (some-injective y x e)
take_next (y ∷ ys) (suc n) x e = ap (λ zs. y ∷ zs) (take_next ys n x e)

module _ (labels : List Label) (good : GoodLabels labels) where
  -- inclusion of the contexts, and of the targets, of two well-formed keys
  context_word : (p k : Key) → GoodKey labels in_proof p → GoodKey labels in_proof k → Included labels k.context p.context
      → Word p.context k.context
  context_word p k gp gk h =
      member→word p.context k.context
      ((included_good labels good k.context p.context (context_symbols labels in_proof k gk) (context_symbols labels in_proof p gp)
      (valid_context labels in_proof k gk)).0 h)

  target_word : (p k : Key) → GoodKey labels in_proof p → GoodKey labels in_proof k → Included labels k.target p.target
      → Word p.target k.target
  target_word p k gp gk h =
      member→word p.target k.target
      ((included_good labels good k.target p.target (target_symbols labels in_proof k gk) (target_symbols labels in_proof p gp)
      (valid_target labels in_proof k gk)).0 h)

-- A key that is well formed as a line's and kept by the tree
pub record Sound (labels : List Label) (κ : ℕ → Class) (t : Table) (k : Key) : Type 0 where
  pub good : GoodKey labels in_proof k
  pub kept : Keeps κ t k

module _ (second : Bool) (labels : List Label) (good : GoodLabels labels) (κ : ℕ → Class) (agrees : Agrees labels κ) (t : Table) (tree : IsTree κ t)
    (once : Once (singles second κ) t) (keys : List Key) (keeps : Each (Keeps κ t) keys) where
  abbrev Single : ℕ → Bool
  Single = singles second (class_of labels)

  -- one line that follows
  pub line_kept : (earlier : List Key) (line : Line) → Each (Sound labels κ t) earlier → GoodKey labels in_proof line.key
      → Follows labels keys earlier line → Keeps κ t line.key
  line_kept earlier line before gk (rule0 r s e) = each_number keeps line.first e
  line_kept earlier line before gk (rule1 r f s h) = epsilon_kept κ t line.key h
  line_kept earlier line before gk (rule2 r s p e h) =
      prefix_epsilon_kept κ t tree p line.key h (each_number before line.first e).kept
  line_kept earlier line before gk (rule3 r s p e h) = superkey_kept κ t p line.key h (each_number before line.first e).kept
  line_kept earlier line before gk (rule4 r s p e h) = subnodes_kept κ t p line.key h (each_number before line.first e).kept
  line_kept earlier line before gk (rule5 r s p e h) =
      let old = each_number before line.first e in
      context_kept κ t p line.key (context_word labels good p line.key old.good gk h.context) h.target h.paths old.kept
  line_kept earlier line before gk (rule6 r s p e h) =
      let old = each_number before line.first e in
      target_kept κ t p line.key h.context (target_word labels good p line.key old.good gk h.target) h.paths old.kept
  line_kept earlier line before gk (rule7 r s p e h) = context_target_kept κ t p line.key h (each_number before line.first e).kept
  line_kept earlier line before gk (rule8 r s p e h) =
      subnodes_epsilon_kept κ t tree p line.key h (each_number before line.first e).kept
  line_kept earlier line before gk (rule9 r p q e f h) =
      interaction_kept κ t p q line.key h (each_number before line.first e).kept (each_number before line.second f).kept

  -- .. in the edition
  line_kept_in : (earlier : List Key) (line : Line) → Each (Sound labels κ t) earlier → GoodKey labels in_proof line.key
      → FollowsIn Single labels keys earlier line → Keeps κ t line.key
  line_kept_in earlier line before gk (shared f) = line_kept earlier line before gk f
  line_kept_in earlier line before gk (rule10 r f s h) = single_kept second labels good κ agrees t once line.key h

  -- every line before number n
  pub lines_kept : (lines : List Line) → Each (λ (l : Line). GoodKey labels in_proof l.key) lines → (n : ℕ) → FollowsBelow Single labels keys lines n
      → Each (Sound labels κ t) (line_keys (take n lines))
  unfolding FollowsBelow line_keys
  lines_kept lines well zero follows = end
  lines_kept lines well (suc n) follows =
      let before = lines_kept lines well n (λ i h. follows i (omega arith)) in
      let here = follows n (omega arith) in
      let gk = each_number well n here.stands in
      subst (λ (ks : List Key). Each (Sound labels κ t) ks)
      (sym (ap (λ (ls : List Line). map (λ (l : Line). l.key) ls) (take_next lines n here.line here.stands)
      ∙ map_append (λ (l : Line). l.key) (take n lines) (here.line ∷ [])))
      (each_append (here.line.key ∷ []) before
      (also (record { good = gk; kept = line_kept_in (line_keys (take n lines)) here.line before gk here.follows }) end))

-- What an accepted proof ends with is implied (ARGUMENT 3 and 7)
pub accepted_implied : (second : Bool) (labels : List Label) (keys : List Key) (question : Key) (lines : List Line) → GoodLabels labels
    → Each (λ (l : Line). GoodKey labels in_proof l.key) lines → Accepted (singles second (class_of labels)) labels keys question lines
    → Implied second labels keys question
unfolding Implied EndsWith line_keys
accepted_implied second labels keys question lines good well accepted κ agrees t tree once keeps =
    let all = lines_kept second labels good κ agrees t tree once keys keeps lines well (length lines) accepted.each in
    (each_number
    (subst (λ (ls : List Line). Each (Sound labels κ t) (map (λ (l : Line). l.key) ls)) (take-length lines) all)
    (length lines - 1) accepted.last).kept
