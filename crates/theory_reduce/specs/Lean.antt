-- 02, request 3: "no kept key is implied by the other kept ones", "old and new profile are kept by the same trees"; there is one reduction.
use Prim.Native.Nat.{ℕ, zero, suc}
use Rattle.std.specs.Prelude.{◌≡◌, refl, Bool, true, false, set}
use Rattle.std.proofs.Common.{sym, ap, subst}
use Rattle.std.proofs.Math.Bool.{true≢false}
use mathlib.Core.List.{List, [], ◌∷◌, ◌++◌, append_assoc}
use Rattle.std.proofs.Math.Option.{some, some-injective, none-ne-some}
use Rattle.std.proofs.Math.ListN.{get_elem?}
use Rattle.meaning.specs.Lists.{Each, end, also}
use Rattle.meaning.specs.Paths.{Class, Label, Agrees, singles}
use Rattle.meaning.specs.Trees.{Table, IsTree, Once}
use Rattle.meaning.specs.Keys.{Key, Keeps, Implied}
use Rattle.meaning.specs.Reduction.{staying, Reduction, none_left, drops, keeps}
use Rattle.theory_lists.specs.Lists.{each_append}

each_left : {A : Type 0} {Q : A → Type 0} (xs ys : List A) → Each Q (xs ++ ys) → Each Q xs
each_left [] ys e = end
each_left (x ∷ xs) ys (also q qs) = also q (each_left xs ys qs)

each_right : {A : Type 0} {Q : A → Type 0} (xs ys : List A) → Each Q (xs ++ ys) → Each Q ys
each_right [] ys e = e
each_right (x ∷ xs) ys (also q qs) = each_right xs ys qs

-- every tree that keeps these keys keeps those
unfoldable pub Covers : Bool → List Label → List Key → List Key → Type 0
Covers second labels these those =
    (κ : ℕ → Class) → Agrees labels κ → (t : Table) → IsTree κ t → Once (singles second κ) t → Each (Keeps κ t) these → Each (Keeps κ t) those

module _ (second : Bool) (labels : List Label) where
  -- one key more in the middle, which the others imply
  with_implied : (before behind : List Key) (k : Key) → Implied second labels (before ++ behind) k → Covers second labels (before ++ behind) (before ++ (k ∷ behind))
  unfolding Covers Implied
  with_implied before behind k i κ a t tree o e =
      each_append _ (each_left before behind e) (also (i κ a t tree o e) (each_right before behind e))

  pub covers_trans : (a b c : List Key) → Covers second labels a b → Covers second labels b c → Covers second labels a c
  unfolding Covers
  covers_trans a b c f g κ h t tree o e = g κ h t tree o (f κ h t tree o e)

  -- the key before the rest, or at the end of what stands before
  moved : (before : List Key) (k : Key) (x y : List Key) → Covers second labels ((before ++ (k ∷ [])) ++ x) ((before ++ (k ∷ [])) ++ y)
      → Covers second labels (before ++ (k ∷ x)) (before ++ (k ∷ y))
  moved before k x y c =
      subst (λ (l : List Key). Covers second labels l (before ++ (k ∷ y))) (append_assoc before (k ∷ []) x)
      (subst (Covers second labels ((before ++ (k ∷ [])) ++ x)) (append_assoc before (k ∷ []) y) c)

  -- "old and new profile are kept by the same trees": what stays covers all
  pub kept_covers : {before keys : List Key} {stays : List Bool} → Reduction second labels before keys stays
      → Covers second labels (before ++ staying stays keys) (before ++ keys)
  unfolding staying Covers
  kept_covers none_left κ a t tree o e = e
  kept_covers {before} (drops {keys = keys} {stays = stays} {k = k} i r) κ a t tree o e =
      moved before k (staying stays keys) keys (kept_covers r) κ a t tree o (with_implied before (staying stays keys) k i κ a t tree o e)
  kept_covers {before} (keeps {keys = keys} {stays = stays} {k = k} i r) κ a t tree o e =
      moved before k (staying stays keys) keys (kept_covers r) κ a t tree o e

  -- .. and all covers what stays
  pub all_covers : (stays : List Bool) (keys : List Key) → Covers second labels keys (staying stays keys)
  unfolding Covers staying
  all_covers [] keys κ a t tree o e = end
  all_covers (s ∷ stays) [] κ a t tree o e = end
  all_covers (true ∷ stays) (k ∷ keys) κ a t tree o (also q qs) = also q (all_covers stays keys κ a t tree o qs)
  all_covers (false ∷ stays) (k ∷ keys) κ a t tree o (also q qs) = all_covers stays keys κ a t tree o qs

  each_at : {Q : Key → Type 0} {keys : List Key} {k : Key} (n : ℕ) → Each Q keys → get_elem? keys n ≡ some k → Q k
  each_at n end e = absurd (none-ne-some _ e)
  each_at {Q} zero (also q qs) e = subst Q (some-injective _ _ e) q
  each_at (suc n) (also q qs) e = each_at n qs e

  -- every key of the old profile, so each dropped one, is implied by the final keys
  pub final_implies : {keys : List Key} {stays : List Bool} → Reduction second labels [] keys stays → {k : Key} (n : ℕ) → get_elem? keys n ≡ some k
      → Implied second labels (staying stays keys) k
  unfolding Implied Covers
  final_implies r n e κ a t tree o kept = each_at n (kept_covers r κ a t tree o kept) e

  pub implied_more : (these those : List Key) (k : Key) → Covers second labels these those → Implied second labels those k → Implied second labels these k
  unfolding Implied Covers
  implied_more these those k c i κ a t tree o e = i κ a t tree o (c κ a t tree o e)

  pub covers_both : (b before rest : List Key) → Covers second labels before b → Covers second labels (before ++ rest) (b ++ rest)
  unfolding Covers
  covers_both b before rest c κ a t tree o e = each_append _ (c κ a t tree o (each_left before rest e)) (each_right before rest e)

  pub covers_left : (before rest : List Key) → Covers second labels (before ++ rest) before
  unfolding Covers
  covers_left before rest κ a t tree o e = each_left before rest e

  -- "no kept key is implied by the other kept ones"; b is what stays of the keys before
  pub others_do_not : {before keys : List Key} {stays : List Bool} → Reduction second labels before keys stays → (b : List Key) → Covers second labels before b
      → {m : Key} (n : ℕ) → get_elem? keys n ≡ some m → get_elem? stays n ≡ some true
      → Implied second labels (b ++ staying (set stays n false) keys) m → ⊥
  unfolding staying
  others_do_not none_left b c n e s i = absurd (none-ne-some _ e)
  others_do_not (drops d r) b c zero e s i = true≢false (sym (some-injective _ _ s))
  others_do_not {before} (drops {keys = keys} {stays = stays} {k = k} d r) b c (suc n) e s i =
      others_do_not r b (covers_trans (before ++ (k ∷ [])) before b (covers_left before (k ∷ [])) c) n e s i
  others_do_not {before} (keeps {keys = keys} {stays = stays} {k = k} d r) b c {m} zero e s i =
      d (subst (Implied second labels (before ++ staying stays keys)) (sym (some-injective _ _ e))
      (implied_more (before ++ staying stays keys) (b ++ staying stays keys) m (covers_both b before (staying stays keys) c) i))
  others_do_not {before} (keeps {keys = keys} {stays = stays} {k = k} d r) b c {m} (suc n) e s i =
      others_do_not r (b ++ (k ∷ [])) (covers_both b before (k ∷ []) c) n e s
      (subst (λ (l : List Key). Implied second labels l m) (sym (append_assoc b (k ∷ []) (staying (set stays n false) keys))) i)

  -- There is one reduction
  pub reduction_unique : {before keys : List Key} {stays others : List Bool} → Reduction second labels before keys stays → Reduction second labels before keys others
      → stays ≡ others
  reduction_unique none_left none_left = refl
  reduction_unique (drops i r) (drops j q) = ap (λ (l : List Bool). false ∷ l) (reduction_unique r q)
  reduction_unique (keeps i r) (keeps j q) = ap (λ (l : List Bool). true ∷ l) (reduction_unique r q)
  reduction_unique {before} (drops {keys = keys} {k = k} i r) (keeps j q) =
      absurd (j (subst (λ (l : List Bool). Implied second labels (before ++ staying l keys) k) (reduction_unique r q) i))
  reduction_unique {before} (keeps {keys = keys} {k = k} i r) (drops j q) =
      absurd (i (subst (λ (l : List Bool). Implied second labels (before ++ staying l keys) k) (sym (reduction_unique r q)) j))
