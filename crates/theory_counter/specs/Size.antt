-- How many nodes the written tree has: at most 178 (request 8).
use Rattle.std.specs.Prelude.{ℕ, zero, suc, ◌+◌, ◌-◌, ◌*◌, ◌≤◌, ◌<◌, ◌≡◌, refl, Bool, true, false, length}
use Rattle.std.proofs.Common.{ap, subst, arith}
use mathlib.Core.List.{List, [], ◌∷◌, Memᴰ}
use Rattle.meaning.specs.Limits.{in_profile}
use Rattle.meaning.specs.Paths.{Class, Label, is_element}
use Rattle.meaning.specs.Trees.{Table, table_of}
use Rattle.meaning.specs.Keys.{Key}
use Rattle.meaning.specs.Pattern.{q_of, t_of, pattern_nodes, pattern, place_of, written_nodes}
use Rattle.theory_paths.specs.Good.{GoodKey, context_length, target_length, key_path_length, paths_within}
use Rattle.theory_counter.specs.Places.{bit, Placing}
use Rattle.theory_pattern.specs.Branches.{total}
use Rattle.theory_counter.specs.PatternLaws.{pattern_length}
use Rattle.theory_counter.specs.WrittenLaws.{placing, written_length}

bit_most : (b : Bool) → bit b ≤ 1
unfolding bit
bit_most false = omega arith
bit_most true = omega arith

-- each node takes at most two numbers
module _ {κ : ℕ → Class} {p : Table} {u : ℕ} {place : ℕ → ℕ} {cut gap : ℕ} (P : Placing κ p u place cut gap) where
  twice_most : (more x : ℕ) → x + more ≤ p.size → place (x + more) ≤ place x + 2 * more
  twice_most zero x h = let e : x + zero ≡ x = omega arith in let q = ap place e in omega arith
  twice_most (suc more) x h =
      let e : x + suc more ≡ suc x + more = omega arith in
      let q = ap place e in
      let r = twice_most more (suc x) (omega arith) in
      let s = P.steps x (omega arith) in
      let b = bit_most (is_element (κ (p.label x))) in
      omega arith

-- the symbols of the key paths
total_most : (most : ℕ) (S : List (List ℕ)) → ((P : List ℕ) → Memᴰ P S → length P ≤ 8) → length S ≤ most → total S ≤ 8 * most
unfolding total
total_most most [] h l = omega arith
total_most zero (p ∷ S) h l = absurd (omega arith)
total_most (suc most) (p ∷ S) h l =
    let a = h p (Memᴰ.head refl) in
    let r = total_most most S (λ P m. h P (Memᴰ.tail m)) (omega arith) in
    omega arith

pub written_most : (κ : ℕ → Class) (labels : List Label) (asked : Key) → GoodKey labels in_profile asked → (u : ℕ) → q_of asked ≤ u → u ≤ t_of asked
    → length (written_nodes κ asked u) ≤ 178
unfolding q_of t_of pattern table_of
written_most κ labels asked g u q h =
    let n = pattern_length asked in
    let inside : u < length (pattern_nodes asked) = omega arith in
    let P = placing κ asked u inside in
    let w = written_length κ asked u inside in
    let c = context_length labels in_profile asked g in
    let t = target_length labels in_profile asked g in
    let s = total_most 4 asked.paths (key_path_length labels in_profile asked g) (paths_within labels in_profile asked g) in
    let start = P.start in
    let all = P.all in
    let e : 0 + suc u ≡ suc u = omega arith in
    let trunk : place_of κ asked (suc u) ≤ place_of κ asked 0 + 2 * suc u = subst (λ (k : ℕ). place_of κ asked k ≤ place_of κ asked 0 + 2 * suc u) e (twice_most P (suc u) 0 (omega arith)) in
    let left : ℕ = length (pattern_nodes asked) - suc u in
    let e' : suc u + left ≡ length (pattern_nodes asked) = omega arith in
    let below : place_of κ asked (length (pattern_nodes asked)) ≤ place_of κ asked (suc u) + 2 * left = subst (λ (k : ℕ). place_of κ asked k ≤ place_of κ asked (suc u) + 2 * left) e' (twice_most P left (suc u) (omega arith)) in
    omega arith
