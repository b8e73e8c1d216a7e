-- Trunk, way on to t and branches, one after another: the whole dressed pattern.
use Prim.Native.Nat.{ℕ, suc, ◌+◌, ◌-◌, ◌≤◌, ◌<◌}
use Rattle.std.specs.Prelude.{◌≡◌, Bool, take, drop}
use Rattle.std.proofs.Math.Path.{refl, ap, subst, subst₂}
use Rattle.std.proofs.Common.{sym, ◌∙◌, take-append-drop}
use Rattle.std.proofs.Math.Bool.{false}
use mathlib.Core.List.{List, [], ◌∷◌, ◌++◌, append_assoc, append-nil}
use native.Mathlib.Omega.{arith}
use Rattle.std.proofs.Math.ListN.{length, length-append, length-drop}
use Rattle.std.proofs.Math.Seq.{length-take-le}
use Rattle.meaning.specs.Limits.{root_label}
use Rattle.meaning.specs.Lists.{any, is_empty}
use Rattle.meaning.specs.Paths.{Class}
use Rattle.meaning.specs.Keys.{Key}
use Rattle.meaning.specs.Pattern.{Dressed, run, q_of, t_of, pattern_nodes, marked, place_of, dressed_node, dressed_nodes}
use Rattle.theory_pattern.specs.Numbered.{Numbered, Is, numbered_left, numbered_right}
use Rattle.theory_pattern.specs.Branches.{last, run_append, last_chain}
use Rattle.theory_counter.specs.PatternLaws.{chain, twigs, chain_here, twigs_here, pattern_length}
use Rattle.write_pattern.specs.Sketch.{Sketch, draw_run, draw_branches, draw_trunk, draw_down, draw_twigs, draw_below}
use Rattle.write_tree.specs.Marks.{MarksOf, unmarked_above, marks_trunk, marks_down, branch_marks}
use Rattle.write_tree.specs.Standing.{firsts, Standing, standing_root, standing_run, standing_branches}
use Rattle.theory_pattern.specs.Numbers.{run_length}

-- What is drawn is the dressed pattern, but for the root's parent, which has no number
pub record IsDrawn (κ : ℕ → Class) (asked : Key) (s : Sketch) : Type 0 where
  pub rest : List Dressed
  pub drew : s.entries ≡ record { parent = 0; label = root_label; mark = false } ∷ rest
  pub are : dressed_nodes κ asked ≡ dressed_node κ asked 0 ∷ rest

module _ (κ : ℕ → Class) (asked : Key) where
  -- the nodes of a part of the way C ++ T
  chain_part : (p q r : List ℕ) → asked.context ++ asked.target ≡ p ++ (q ++ r)
      → Numbered (Is (pattern_nodes asked)) (suc (length p)) (run (length p) (suc (length p)) q)
  unfolding chain
  chain_part p q r e =
      subst₂ (λ (a n : ℕ). Numbered (Is (pattern_nodes asked)) n (run a n q)) above number
      (numbered_left (run (last 0 1 p) (1 + length p) q) (run (last (last 0 1 p) (1 + length p) q) (1 + length p + length q) r)
      (subst (Numbered (Is (pattern_nodes asked)) (1 + length p)) (run_append (last 0 1 p) (1 + length p) q r)
      (numbered_right (1 + length p) (run 0 1 p) (run (last 0 1 p) (1 + length p) (q ++ r)) (ap (λ (k : ℕ). 1 + k) (sym (run_length 0 1 p)))
      (subst (Numbered (Is (pattern_nodes asked)) 1) (ap (run 0 1) e ∙ run_append 0 1 p (q ++ r)) (chain_here asked)))))
    where
      number : 1 + length p ≡ suc (length p)
      number = omega arith

      above : last 0 1 p ≡ length p
      above = let l = last_chain 0 1 p refl in omega arith

  -- so far on the way, node a is the last
  way : (every mark : Bool) (p q r : List ℕ) → asked.context ++ asked.target ≡ p ++ (q ++ r) → {s : Sketch} → Standing κ asked (suc (length p)) (length p) s
      → MarksOf asked every mark (suc (length p)) q → (a : ℕ) → a ≡ length p + length q → Standing κ asked (suc a) a (draw_run κ every mark s q)
  unfolding t_of
  way every mark p q r e {s} st m a f =
      subst (λ (k : ℕ). Standing κ asked (suc a) k (draw_run κ every mark s q))
      (let l = last_chain (length p) (suc (length p)) q refl in omega arith)
      (standing_run κ asked every mark q st (chain_part p q r e)
      (let n = pattern_length asked in
      let l = ap length e ∙ length-append p (q ++ r) in
      let k = length-append q r in
      let j = length-append asked.context asked.target in
      omega arith)
      m (suc a) (omega arith))

  module _ (u : ℕ) (from_q : q_of asked ≤ u) (above_t : u < t_of asked) where
    upper : List ℕ
    upper = take (u - q_of asked) asked.target

    lower : List ℕ
    lower = drop (u - q_of asked) asked.target

    upper_length : length upper ≡ u - q_of asked
    unfolding upper q_of t_of
    upper_length = length-take-le (u - length asked.context) asked.target (omega arith)

    lower_length : length lower ≡ length asked.target - (u - q_of asked)
    unfolding lower
    lower_length = length-drop (u - q_of asked) asked.target

    two_parts : asked.context ++ asked.target ≡ [] ++ (asked.context ++ asked.target)
    two_parts = refl

    three_parts : asked.context ++ asked.target ≡ asked.context ++ (upper ++ lower)
    unfolding upper lower
    three_parts = ap (λ (l : List ℕ). asked.context ++ l) (sym (take-append-drop (u - q_of asked) asked.target))

    last_part : asked.context ++ asked.target ≡ (asked.context ++ upper) ++ (lower ++ [])
    last_part =
        three_parts ∙ ap (λ (l : List ℕ). asked.context ++ (upper ++ l)) (sym (append-nil lower)) ∙ sym (append_assoc asked.context upper (lower ++ []))

    pub trunk_stands : Standing κ asked (suc u) u (draw_trunk κ asked u)
    unfolding draw_trunk upper q_of t_of
    trunk_stands =
        way false false asked.context upper lower three_parts
        (way false false [] asked.context asked.target two_parts
        (standing_root κ asked (unmarked_above asked 0 (omega arith)))
        (marks_trunk asked 1 asked.context (omega arith)) (length asked.context) (omega arith))
        (marks_trunk asked (suc (length asked.context)) upper (let l = upper_length in omega arith)) u (let l = upper_length in omega arith)

    down_stands : Standing κ asked (suc (t_of asked)) (t_of asked) (draw_down κ asked u (draw_trunk κ asked u))
    unfolding draw_down lower q_of t_of
    down_stands =
        way false (any is_empty asked.paths) (asked.context ++ upper) lower [] last_part
        (subst (λ (k : ℕ). Standing κ asked (suc k) k (draw_trunk κ asked u)) so_far trunk_stands)
        (marks_down asked (suc (length (asked.context ++ upper))) lower (let l = so_far in let k = lower_length in omega arith)) (t_of asked)
        (let l = so_far in let k = lower_length in omega arith)
      where
        so_far : u ≡ length (asked.context ++ upper)
        so_far = let l = length-append asked.context upper in let k = upper_length in omega arith

    whole_stands : (end : ℕ) × Standing κ asked (length (pattern_nodes asked)) end (draw_below κ asked u (draw_trunk κ asked u))
    unfolding draw_below draw_twigs twigs
    whole_stands =
        subst (λ (a : ℕ). (end : ℕ) × Standing κ asked (length (pattern_nodes asked)) end
        (draw_branches κ (any is_empty asked.paths) a (draw_down κ asked u (draw_trunk κ asked u)) asked.paths)) (sym down_stands.hangs)
        (standing_branches κ asked (any is_empty asked.paths) (t_of asked) asked.paths down_stands (twigs_here asked)
        (let n = pattern_length asked in omega arith) (branch_marks asked) (length (pattern_nodes asked)) (let n = pattern_length asked in omega arith))

    pub whole_drawn : IsDrawn κ asked (draw_below κ asked u (draw_trunk κ asked u))
    unfolding firsts dressed_nodes
    whole_drawn = let w = whole_stands.1 in record { rest = w.rest; drew = w.drew; are = w.are }

    -- where the trunk ends
    pub trunk_long : length (draw_trunk κ asked u).entries ≡ place_of κ asked (suc u)
    trunk_long = trunk_stands.long

    pub root_unmarked : marked asked 0 ≡ false
    root_unmarked = unmarked_above asked 0 (omega arith)
