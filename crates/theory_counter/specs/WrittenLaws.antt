-- The written nodes, read at their numbers: label, parent and value of each node of the trunk and of both copies.
use Prim.Native.Nat.{ℕ, suc, ◌+◌, ◌-◌, ◌≤◌, ◌<◌}
use Rattle.std.specs.Prelude.{◌≡◌, Bool, true, false}
use Rattle.std.proofs.Math.Path.{refl, ap, ap₂}
use Rattle.std.proofs.Common.{sym, ◌∙◌}
use mathlib.Core.List.{List, ◌++◌, map}
use native.Mathlib.Omega.{arith}
use Rattle.std.proofs.Math.Decide.{dec_lt}
use Rattle.std.proofs.Math.ListN.{length, get_or, length-append, length-map, get_or-append}
use Rattle.std.proofs.Math.Seq.{get_or-append-add}
use Rattle.meaning.specs.Lists.{numbers}
use Rattle.meaning.specs.Paths.{Class}
use Rattle.meaning.specs.Trees.{Node, no_node, table_of}
use Rattle.meaning.specs.Keys.{Key}
use Rattle.meaning.specs.Pattern.{pattern_nodes, pattern, place_of, dressed_nodes, written_node, written_nodes}
use Rattle.theory_counter.specs.Doubled.{Stands}
use Rattle.theory_counter.specs.Places.{bit, shift, number_of, shift_trunk, shift_below, Placing, place_below, place_within}
use Rattle.theory_counter.specs.Doubling.{number_trunk, number_first, number_second}
use Rattle.theory_counter.specs.Flattened.{map_numbers_at}
use Rattle.theory_counter.specs.Dressing.{dressed_all, dressed_placing}
use Rattle.theory_lists.specs.Lists.{numbers_length}

-- the length of one copy
unfoldable pub gap_of : (ℕ → Class) → Key → ℕ → ℕ
gap_of κ asked u = length (dressed_nodes κ asked) - place_of κ asked (suc u)

-- a node's number in the written tree
unfoldable pub number_in : (ℕ → Class) → Key → ℕ → Bool → ℕ → Bool → ℕ
number_in κ asked u = number_of (place_of κ asked) u (gap_of κ asked u)

module _ (κ : ℕ → Class) (asked : Key) (u : ℕ) (hu : u < length (pattern_nodes asked)) where
  pub placing : Placing κ (pattern asked) u (place_of κ asked) (place_of κ asked (suc u)) (gap_of κ asked u)
  unfolding gap_of
  placing = dressed_placing κ asked u hu

  pub all_nodes : length (dressed_nodes κ asked) ≡ place_of κ asked (suc u) + gap_of κ asked u
  unfolding pattern table_of
  all_nodes = dressed_all κ asked ∙ placing.all

  firsts : List Node
  firsts = map (written_node κ asked (place_of κ asked (suc u)) 0) (numbers (length (dressed_nodes κ asked)) 0)

  seconds : List Node
  seconds = map (written_node κ asked (place_of κ asked (suc u)) (gap_of κ asked u)) (numbers (gap_of κ asked u) (place_of κ asked (suc u)))

  two_parts : written_nodes κ asked u ≡ firsts ++ seconds
  unfolding written_nodes gap_of firsts seconds
  two_parts = refl

  firsts_length : length firsts ≡ length (dressed_nodes κ asked)
  unfolding firsts
  firsts_length = length-map (numbers (length (dressed_nodes κ asked)) 0) _ ∙ numbers_length (length (dressed_nodes κ asked)) 0

  pub written_length : length (written_nodes κ asked u) ≡ place_of κ asked (suc u) + gap_of κ asked u + gap_of κ asked u
  unfolding seconds
  written_length =
      let a = ap length two_parts ∙ length-append firsts seconds in
      let b = firsts_length in
      let c = length-map (numbers (gap_of κ asked u) (place_of κ asked (suc u))) (written_node κ asked (place_of κ asked (suc u)) (gap_of κ asked u))
      ∙ numbers_length (gap_of κ asked u) (place_of κ asked (suc u)) in
      let d = all_nodes in
      omega arith

  written_first : (y : ℕ) → y < length (dressed_nodes κ asked)
      → get_or (written_nodes κ asked u) y no_node ≡ written_node κ asked (place_of κ asked (suc u)) 0 y
  unfolding firsts
  written_first y h =
      let e : y ≡ 0 + y = omega arith in
      let l = firsts_length in
      ap (λ (k : List Node). get_or k y no_node) two_parts ∙ get_or-append firsts seconds no_node y (omega arith)
      ∙ map_numbers_at (written_node κ asked (place_of κ asked (suc u)) 0) (length (dressed_nodes κ asked)) 0 y y no_node h e

  written_second : (y : ℕ) → place_of κ asked (suc u) ≤ y → y < length (dressed_nodes κ asked)
      → get_or (written_nodes κ asked u) (y + gap_of κ asked u) no_node
      ≡ written_node κ asked (place_of κ asked (suc u)) (gap_of κ asked u) y
  unfolding seconds
  written_second y l h =
      let cut = place_of κ asked (suc u) in
      let gap = gap_of κ asked u in
      let a = all_nodes in
      let b = firsts_length in
      let i : y + gap ≡ length firsts + (y - cut) = omega arith in
      ap₂ (λ (k : List Node) (n : ℕ). get_or k n no_node) two_parts i ∙ get_or-append-add firsts seconds (y - cut) no_node
      ∙ map_numbers_at (written_node κ asked cut gap) gap cut (y - cut) y no_node (omega arith) (omega arith)

  -- each node under its number
  pub written_at : (s : Bool) (x : ℕ) (f : Bool) → Stands κ (pattern asked) x f
      → get_or (written_nodes κ asked u) (number_in κ asked u s x f) no_node
      ≡ written_node κ asked (place_of κ asked (suc u)) (shift u (gap_of κ asked u) s x) (place_of κ asked x + bit f)
  unfolding number_in pattern table_of
  written_at s x f st = go s (dec_lt u x)
    where
      cut : ℕ
      cut = place_of κ asked (suc u)

      gap : ℕ
      gap = gap_of κ asked u

      y : ℕ
      y = place_of κ asked x + bit f

      within : y < length (dressed_nodes κ asked)
      within = let a = all_nodes in let b = place_within placing st in omega arith

      once : (s : Bool) → number_of (place_of κ asked) u gap s x f ≡ y → shift u gap s x ≡ 0
          → get_or (written_nodes κ asked u) (number_of (place_of κ asked) u gap s x f) no_node ≡ written_node κ asked cut (shift u gap s x) y
      once s e q =
          ap (λ (k : ℕ). get_or (written_nodes κ asked u) k no_node) e ∙ written_first y within
          ∙ ap (λ (k : ℕ). written_node κ asked cut k y) (sym q)

      go : (s : Bool) → Dec (u < x)
          → get_or (written_nodes κ asked u) (number_of (place_of κ asked) u gap s x f) no_node ≡ written_node κ asked cut (shift u gap s x) y
      go s (no h) = once s (number_trunk placing s x f (omega arith)) (shift_trunk u gap s x (omega arith))
      go false (yes h) = once false (number_first placing x f) (shift_below u gap false x h)
      go true (yes h) =
          ap (λ (k : ℕ). get_or (written_nodes κ asked u) k no_node) (number_second placing x f h)
          ∙ written_second y (let c = place_below placing x h st.inside in omega arith) within
          ∙ ap (λ (k : ℕ). written_node κ asked cut k y) (sym (shift_below u gap true x h))
