-- The pattern of an accepted question is drawn as ARGUMENT §6 asks, and along C, T and the key paths it reaches q, t and marks.
use Prim.Native.Nat.{ℕ, zero, suc, ◌+◌, ◌≤◌, ◌<◌}
use Rattle.std.specs.Prelude.{◌≡◌, ◌≢◌, get_or}
use Rattle.std.proofs.Math.Path.{refl, ap₂, subst}
use Rattle.std.proofs.Common.{◌∙◌}
use mathlib.Core.List.{List, ◌++◌, map}
use native.Mathlib.Omega.{arith}
use Rattle.std.proofs.Math.ListN.{length}
use Rattle.meaning.specs.Limits.{KeyLimits, filler_attribute}
use Rattle.meaning.specs.Lists.{Each}
use Rattle.meaning.specs.Paths.{Label, class_of}
use Rattle.meaning.specs.Trees.{Node, no_node, table_of, Down, Reached}
use Rattle.meaning.specs.Keys.{Key}
use Rattle.meaning.specs.Pattern.{drawn, run, q_of, t_of, pattern_nodes, pattern, marked}
use Rattle.theory_paths.specs.Good.{GoodLabels, GoodKey, class_filler_attribute}
use Rattle.theory_counter.specs.Doubled.{Drawn}
use Rattle.theory_counter.specs.Crossing.{Marks}
use Rattle.theory_counter.specs.Breaking.{InPattern}
use Rattle.theory_pattern.specs.Numbered.{Numbered, Is, numbered_left, numbered_right}
use Rattle.theory_pattern.specs.Branches.{last, run_append, last_chain, run_down}
use Rattle.theory_pattern.specs.Drawing.{drawn_member, Inside}
use Rattle.theory_counter.specs.PatternLaws.{
  chain,
  twigs,
  chain_here,
  twigs_here,
  pattern_length,
  pattern_hangs,
  pattern_known,
  pattern_inside,
  branches_marks,
  end_marked,
  marks_closed,
}
use Rattle.theory_pattern.specs.Numbers.{run_length}

module _ (labels : List Label) (good : GoodLabels labels) (limits : KeyLimits) (asked : Key) (g : GoodKey labels limits asked) (u : ℕ) (h : u < t_of asked) where
  no_filler : (x : ℕ) → x < length (pattern_nodes asked) → (get_or (pattern_nodes asked) x no_node).label ≢ filler_attribute
  unfolding pattern_nodes
  no_filler zero l e = omega arith
  no_filler (suc x) l e =
      let k = (pattern_known labels good limits asked g (suc x) (omega arith) l).small in
      omega arith

  pub pattern_drawn : Drawn (class_of labels) (pattern asked) (marked asked) u
  unfolding pattern table_of Inside
  pattern_drawn =
      record {
        trunk = let l = pattern_length asked in omega arith;
        root = unfold pattern_nodes in refl;
        above = λ x p l. (pattern_hangs asked x p l).above;
        inside = pattern_inside labels good limits asked g;
        no_filler = no_filler;
        no_root = λ x p l e. let k = (pattern_known labels good limits asked g x p l).small in omega arith;
        closed = marks_closed asked;
        filler = class_filler_attribute labels good;
      }

module _ (asked : Key) where
  -- "from the root along C to q, on along T to t"
  parts : run 0 1 (asked.context ++ asked.target) ≡ run 0 1 asked.context ++ run (q_of asked) (suc (q_of asked)) asked.target
  unfolding q_of
  parts =
      let e : last 0 1 asked.context ≡ length asked.context = let r = last_chain 0 1 asked.context refl in omega arith in
      let e' : 1 + length asked.context ≡ suc (length asked.context) = omega arith in
      run_append 0 1 asked.context asked.target
      ∙ ap₂ (λ (a n : ℕ). run 0 1 asked.context ++ run a n asked.target) e e'

  chain_parts : Numbered (Is (pattern_nodes asked)) 1 (run 0 1 asked.context ++ run (q_of asked) (suc (q_of asked)) asked.target)
  unfolding chain
  chain_parts = subst (λ (l : List Node). Numbered (Is (pattern_nodes asked)) 1 l) parts (chain_here asked)

  reach_q : Reached (pattern asked) 0 asked.context (q_of asked)
  unfolding pattern q_of t_of
  reach_q =
      let e : last 0 1 asked.context ≡ length asked.context = let r = last_chain 0 1 asked.context refl in omega arith in
      let l = pattern_length asked in
      record {
        run = map drawn asked.context;
        down =
            subst (λ (n : ℕ). Down (table_of (pattern_nodes asked)) 0 (map drawn asked.context) n) e
            (run_down (pattern_nodes asked) 0 1 asked.context
            (numbered_left (run 0 1 asked.context) (run (q_of asked) (suc (q_of asked)) asked.target) chain_parts) (omega arith) (omega arith));
        word = drawn_member asked.context;
      }

  reach_t : Reached (pattern asked) (q_of asked) asked.target (t_of asked)
  unfolding pattern q_of t_of
  reach_t =
      let q : ℕ = length asked.context in
      let e : last q (suc q) asked.target ≡ q + length asked.target = last_chain q (suc q) asked.target refl in
      let s : suc q ≡ 1 + length (run 0 1 asked.context) = let r = run_length 0 1 asked.context in omega arith in
      let l = pattern_length asked in
      record {
        run = map drawn asked.target;
        down =
            subst (λ (n : ℕ). Down (table_of (pattern_nodes asked)) q (map drawn asked.target) n) e
            (run_down (pattern_nodes asked) q (suc q) asked.target
            (numbered_right (suc q) (run 0 1 asked.context) (run q (suc q) asked.target) s chain_parts) (omega arith) (omega arith));
        word = drawn_member asked.target;
      }

  reach_ends : Each (Marks (pattern asked) (marked asked) (t_of asked)) asked.paths
  unfolding pattern twigs
  reach_ends =
      let l = pattern_length asked in
      branches_marks (pattern_nodes asked) (marked asked) (t_of asked) (suc (t_of asked)) asked.paths (twigs_here asked) (omega arith)
      (omega arith) (end_marked asked)

  pub pattern_asked : (u : ℕ) → q_of asked ≤ u → u < t_of asked → InPattern (pattern asked) (marked asked) u asked
  pattern_asked u a b =
      record {
        q = q_of asked;
        t = t_of asked;
        in_trunk = a;
        below_trunk = b;
        inside = unfold pattern table_of in let l = pattern_length asked in omega arith;
        context = reach_q;
        target = reach_t;
        ends = reach_ends;
      }
