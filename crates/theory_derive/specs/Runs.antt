-- Lines that follow one after the other. A part of a proof is proved behind what stands before it, and parts are put together.
use Prim.Native.Nat.{ℕ, zero, suc, ◌≤◌, ◌<◌}
use Rattle.std.specs.Prelude.{◌≡◌, List, [], ◌∷◌, ◌++◌, Bool, length, take}
use Rattle.std.proofs.Math.Path.{refl, subst}
use Rattle.std.proofs.Common.{sym, append_assoc, append-nil, arith}
use Rattle.std.proofs.Math.Option.{some}
use Rattle.std.proofs.Math.ListN.{get_elem?}
use Rattle.meaning.specs.Limits.{in_proof}
use Rattle.meaning.specs.Lists.{Each, end, also}
use Rattle.meaning.specs.Paths.{Label}
use Rattle.meaning.specs.Keys.{Key}
use Rattle.meaning.specs.Rules.{Line, Follows, FollowsIn, shared, FollowsBelow, line_keys}
use Rattle.theory_paths.specs.Good.{GoodKey}

-- A line of the written proof: its key is well formed and has at most 8 key paths
pub record FineLine (labels : List Label) (l : Line) : Type 0 where
  pub good : GoodKey labels in_proof l.key
  pub few : length l.key.paths ≤ 8

-- The lines follow, each from those of `earlier`, those of `written` and the ones before it here
pub data Runs (labels : List Label) (keys earlier : List Key) : List Key → List Line → Type 0 where
  done : {written : List Key} → Runs labels keys earlier written []
  next : {written : List Key} {l : Line} {ls : List Line} → Follows labels keys (earlier ++ written) l → FineLine labels l
      → Runs labels keys earlier (written ++ (l.key ∷ [])) ls → Runs labels keys earlier written (l ∷ ls)

module _ {labels : List Label} {keys : List Key} where
  pub runs_append : {earlier written : List Key} {xs : List Line} (ys : List Line) → Runs labels keys earlier written xs
      → Runs labels keys earlier (written ++ line_keys xs) ys → Runs labels keys earlier written (xs ++ ys)
  unfolding line_keys
  runs_append {earlier} {written} ys done r = subst (λ w. Runs labels keys earlier w ys) (append-nil written) r
  runs_append {earlier} {written} ys (next {l} {ls} f g q) r =
      next f g (runs_append ys q (subst (λ w. Runs labels keys earlier w ys) (sym (append_assoc written (l.key ∷ []) (line_keys ls))) r))

  -- what is written counts as earlier
  pub runs_shift : (earlier first : List Key) {second : List Key} {xs : List Line} → Runs labels keys (earlier ++ first) second xs
      → Runs labels keys earlier (first ++ second) xs
  runs_shift earlier first done = done
  runs_shift earlier first {second} (next {l} {ls} f g q) =
      next (subst (λ e. Follows labels keys e l) (append_assoc earlier first second) f) g
      (subst (λ w. Runs labels keys earlier w ls) (sym (append_assoc first second (l.key ∷ []))) (runs_shift earlier first q))

  pub runs_fine : {earlier written : List Key} {xs : List Line} → Runs labels keys earlier written xs → Each (FineLine labels) xs
  runs_fine done = end
  runs_fine (next f g q) = also g (runs_fine q)

  -- by line numbers, as 01's acceptance says it
  runs_at : {earlier written : List Key} {xs : List Line} (n : ℕ) → Runs labels keys earlier written xs → n < length xs
      → (l : Line) × (get_elem? xs n ≡ some l) × Follows labels keys (earlier ++ (written ++ line_keys (take n xs))) l
  unfolding line_keys
  runs_at n done h = absurd (let z : n < 0 = h in omega arith)
  runs_at {earlier} {written} zero (next {l} f g q) h = (l, refl, subst (λ w. Follows labels keys (earlier ++ w) l) (sym (append-nil written)) f)
  runs_at {earlier} {written} (suc n) (next {l} {ls} f g q) h =
      let r = runs_at n q (let z : suc n < suc (length ls) = h in omega arith) in
      (r.0, r.1, subst (λ w. Follows labels keys (earlier ++ w) r.0) (append_assoc written (l.key ∷ []) (line_keys (take n ls))) r.2)

  -- a first line that follows in the edition, and what follows from it by the rules of both
  pub first_follow : (single : ℕ → Bool) (first : Line) (xs : List Line) → FollowsIn single labels keys [] first
      → Runs labels keys (first.key ∷ []) [] xs → FollowsBelow single labels keys (first ∷ xs) (length (first ∷ xs))
  unfolding FollowsBelow line_keys
  first_follow single first xs f r zero h = record { line = first; stands = refl; follows = f }
  first_follow single first xs f r (suc n) h =
      let a = runs_at n r (let z : suc n < suc (length xs) = h in omega arith) in
      record { line = a.0; stands = a.1; follows = shared a.2 }
