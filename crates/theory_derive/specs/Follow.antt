-- ARGUMENT 5: the lines of one step follow from what stands before them, and each is well formed.
use Rattle.std.specs.Prelude.{ℕ, ◌+◌, ◌-◌, ◌≤◌, ◌<◌, ◌≡◌, Bool, cond, length, drop}
use Rattle.std.proofs.Math.Path.{refl, sym, ap, subst}
use Rattle.std.proofs.Common.{◌∙◌, take-append-drop}
use Rattle.std.proofs.Math.Bool.{true, false}
use mathlib.Core.List.{List, [], ◌∷◌, ◌++◌, map, append_assoc, Memᴰ}
use Rattle.std.proofs.Math.Option.{some}
use native.Mathlib.Omega.{arith}
use Rattle.std.proofs.Math.Dec.{T}
use Rattle.std.proofs.Math.ListN.{take, get_elem?, length-map, length-take, length-drop}
use Rattle.meaning.specs.Limits.{in_profile, in_proof}
use Rattle.meaning.specs.Lists.{Each, every, ascending}
use Rattle.meaning.specs.Refusals.{is_symbol}
use Rattle.meaning.specs.Paths.{Label, class_of, norm, simple, valid, Included}
use Rattle.meaning.specs.Keys.{Key}
use Rattle.meaning.specs.Rules.{rule0, rule2, rule3, rule5, rule6, rule7, rule9, Superkey, ContextTarget, Interaction}
use Rattle.meaning.specs.Pattern.{t_of}
use Rattle.theory_lists.specs.Bools.{Each-of, every_left}
use Rattle.theory_paths.specs.Words.{Word, member→word}
use Rattle.theory_paths.specs.Valid.{may_step, valid_norm, valid_append}
use Rattle.theory_paths.specs.Normal.{run_norm←, norm_of_normal, norm_normal, join_three}
use Rattle.theory_paths.specs.Inclusion.{included_of_word}
use Rattle.theory_paths.specs.Simple.{simple_normal}
use Rattle.theory_paths.specs.Good.{GoodKey, target_symbols, target_normal, target_length, key_path_symbols, key_path_simple, key_path_length, valid_below, paths_some, paths_within, paths_ascending}
use Rattle.theory_lists.specs.Logic.{found_later, found_before}
use Rattle.theory_pattern.specs.RowParts.{take_part, part_drop, join_norms, every_norm, norm_length}
use Rattle.theory_derive.specs.Sets.{ascending_front}
use Rattle.theory_pattern.specs.Spots.{chain_of, branch_of, row_of, part, holds_empty, FiresBy}
use Rattle.theory_derive.specs.Written.{key_of, key_at, one_line, two_line, above, to_spot, to_t, narrowed, at_spot, united, opening, chain_lines}
use Rattle.theory_derive.specs.Lines.{ReadOff, good_make, good_read, begins_read, among_begins, good_at, good_wider}
use Rattle.theory_pattern.specs.Rows.{before_steps, chain_symbols, chain_short, chain_length, row_length, branch_among}
use Rattle.theory_derive.specs.Runs.{FineLine, Runs, done, next}
use Rattle.theory_derive.specs.Step
use Rattle.theory_derive.specs.Branch

-- ---- each rule, of the parts of a line

-- rule 7 from K h: (norm (C++T)[0..k], (F, S)), for h ≤ k
pub context_target : (asked : Key) (h k : ℕ) → h ≤ k → ContextTarget (key_at asked h) (key_of (above asked k) (to_t asked k) asked.paths)
unfolding key_at key_of above to_t
context_target asked h k l =
    record {
      X = norm (part h k (chain_of asked));
      target = join_norms (part h k (chain_of asked)) (drop k (chain_of asked)) ∙ ap norm (part_drop h k (chain_of asked) l);
      context = sym (join_norms (take h (chain_of asked)) (part h k (chain_of asked)) ∙ ap norm (take_part h k (chain_of asked) l));
      paths = refl;
    }

-- rule 3, of keys with one context and one target
pub superkey : (C X : List ℕ) (S U : List (List ℕ)) → Each (λ p. Memᴰ p U) S → Superkey (key_of C X S) (key_of C X U)
unfolding key_of
superkey C X S U e = record { context = refl; target = refl; includes = e }

module _ (labels : List Label) (keys : List Key) (asked s : Key) (number i j k : ℕ) (g : GoodKey labels in_profile asked)
    (gs : GoodKey labels in_profile s) (f : FiresBy asked s i j k) (earlier : List Key) (at : ℕ) (e : length earlier ≡ at) where
  -- a premise among the lines of this step
  pub later : (first m : ℕ) → first ≡ at + m → (written : List Key) (p : Key) → get_elem? written m ≡ some p → get_elem? (earlier ++ written) first ≡ some p
  later first m here written p q = found_later earlier written first m (omega arith) ∙ q

  pub above_short : (h : ℕ) → length (above asked h) ≤ 32
  unfolding above
  above_short h = omega (arith, length-take h (chain_of asked), chain_short labels asked g)

  pub to_t_short : (h : ℕ) → length (to_t asked h) ≤ 32
  unfolding to_t
  to_t_short h = omega (arith, length-drop h (chain_of asked), chain_short labels asked g)

  pub to_spot_short : length (to_spot asked i j k) ≤ 32
  unfolding to_spot part
  to_spot_short =
      omega (
        arith,
        length-drop i (take k (row_of asked j)),
        length-take k (row_of asked j),
        row_length asked j,
        chain_short labels asked g,
        chain_length asked,
        key_path_length labels in_profile asked g (branch_of asked j) (branch_among asked j f.is_branch),
      )

  -- a key whose parts are read off the lines, as a line
  pub read_line : (rule first second : ℕ) (C X : List ℕ) (S : List (List ℕ)) → length C ≤ 32 → length X ≤ 32 → 1 ≤ length S → length S ≤ 8
      → T (ascending S) → Each (ReadOff asked (C ++ X)) S → FineLine labels (two_line rule first second (key_of C X S))
  unfolding two_line key_of
  read_line rule first second C X S c x any few asc r = record { good = good_read labels asked g C X S c x any (omega arith) asc r; few = few }

  good1 : i < k → GoodKey labels in_proof (narrowed asked s i)
  unfolding narrowed above
  good1 l =
      let κ = class_of labels in
      let A = take i (chain_of asked) in
      let steps = every_norm (may_step κ) A (subst (λ r. T (every (may_step κ) r)) (above_line') (before_steps labels asked g i j f.is_branch (omega (arith, f.on_row)))) in
      good_make labels in_proof (narrowed asked s i)
      (every_norm (is_symbol labels) A (every_left (is_symbol labels) A (drop i (chain_of asked)) (subst (λ r. T (every (is_symbol labels) r)) (sym (take-append-drop i (chain_of asked))) (chain_symbols labels asked g))))
      (norm_normal A) (omega (arith, norm_length A, length-take i (chain_of asked), chain_short labels asked g))
      (target_symbols labels in_profile s gs) (target_normal labels in_profile s gs) (omega (arith, target_length labels in_profile s gs))
      (Each-of s.paths (λ p m. (key_path_symbols labels in_profile s gs p m, key_path_simple labels in_profile s gs p m, omega (arith, key_path_length labels in_profile s gs p m))))
      (paths_some labels in_profile s gs) (omega (arith, paths_within labels in_profile s gs)) (paths_ascending labels in_profile s gs)
      (Each-of s.paths (λ p m.
      subst (λ r. T (valid κ r)) (sym (join_three (norm A) s.target p))
      (subst T (sym (valid_norm κ (norm A ++ s.target ++ p)))
      (subst (λ r. T (valid κ r)) (sym (append_assoc (norm A) s.target p))
      (valid_append κ (norm A) (s.target ++ p) steps (valid_below labels in_profile s gs p m))))))
    where
      above_line' : take i (row_of asked j) ≡ take i (chain_of asked)
      above_line' = Step.above_line asked s i j k f

  -- "rule 0: s · rule 5 · rule 6"
  pub opening_runs : i < k → get_elem? keys number ≡ some s → Runs labels keys earlier [] (opening asked s number i j k at)
  unfolding opening one_line narrowed at_spot key_of to_spot
  opening_runs l cited =
      next (rule0 refl refl cited) (record { good = good_wider labels s gs; few = omega (arith, paths_within labels in_profile s gs) })
      (next
      (rule5 refl refl s (later at 0 (omega arith) (s ∷ []) s refl)
      (record { context = in_c; target = refl; paths = refl }))
      (record { good = good1 l; few = omega (arith, paths_within labels in_profile s gs) })
      (next
      (rule6 refl refl (narrowed asked s i) (later (at + 1) 1 refl (s ∷ narrowed asked s i ∷ []) (narrowed asked s i) refl)
      (record { context = refl; target = in_t; paths = refl }))
      (record { good = good2; few = omega (arith, paths_within labels in_profile s gs) }) done))
    where
      in_c : Included labels (norm (above asked i)) s.context
      in_c =
          included_of_word labels (norm (above asked i)) s.context
          (run_norm← s.context (above asked i)
          (subst (Word s.context) (Step.above_line asked s i j k f) (member→word s.context (take i (row_of asked j)) f.context)))

      spot_word : Word s.target (to_spot asked i j k)
      spot_word = member→word s.target (part i k (row_of asked j)) f.target

      in_t : Included labels (norm (to_spot asked i j k)) s.target
      in_t = included_of_word labels (norm (to_spot asked i j k)) s.target (run_norm← s.target (to_spot asked i j k) spot_word)

      good2 : GoodKey labels in_proof (key_of (above asked i) (to_spot asked i j k) s.paths)
      good2 =
          good_read labels asked g (above asked i) (to_spot asked i j k) s.paths (above_short i) to_spot_short (paths_some labels in_profile s gs)
          (omega (arith, paths_within labels in_profile s gs)) (paths_ascending labels in_profile s gs) (Branch.spot_read labels asked s i j k g gs f)

  -- "k ≤ n": from K h by rule 7, then rule 9 of the two
  module _ (h : ℕ) (hk : h ≤ k) (kn : k ≤ t_of asked) (before : get_elem? earlier (at - 1) ≡ some (key_at asked h)) where
    U : List (List ℕ)
    U = united asked s k

    K3 : Key
    K3 = key_of (above asked i) (to_spot asked i j k) (map (λ (p : List ℕ). to_t asked k ++ p) U)

    K4 : Key
    K4 = key_of (above asked k) (to_t asked k) asked.paths

    K5 : Key
    K5 = key_of (above asked k) (to_t asked k) U

    K6 : Key
    K6 = key_of (above asked i) (to_t asked i) U

    interaction : Interaction K3 K5 K6
    unfolding K3 K5 K6 U key_of
    interaction =
        record {
          is_simple = subst (λ l. T (simple l)) (sym (norm_of_normal (to_t asked k) (simple_normal (to_t asked k) onward))) onward;
          first_paths = Step.front_joins labels asked s i j k g gs f kn;
          second_context = sym (join_norms (above asked i) (to_spot asked i j k) ∙ ap norm (Step.above_spot asked s i j k f ∙ Step.chain_spot asked s i j k f kn));
          context = refl;
          target = sym (join_norms (to_spot asked i j k) (to_t asked k) ∙ ap norm (Step.spot_to_t asked s i j k f kn));
          paths = refl;
        }
      where
        onward : T (simple (to_t asked k))
        onward = Step.onward_simple labels asked s i j k g gs f kn

    united_at : (m : ℕ) → Each (ReadOff asked (above asked m ++ to_t asked m)) U
    unfolding U
    united_at m = subst (λ l. Each (ReadOff asked l) (united asked s k)) (sym (Step.above_t asked m)) (Step.united_read labels asked s i j k g gs f kn)

    asked_read : Each (ReadOff asked (above asked k ++ to_t asked k)) asked.paths
    asked_read =
        subst (λ l. Each (ReadOff asked l) asked.paths) (sym (Step.above_t asked k))
        (Each-of asked.paths (λ p m. begins_read labels asked g p (among_begins labels asked g p m)))

    -- the line of rule 2, where S holds e
    last_line : (b : Bool) → holds_empty asked ≡ b
        → Runs labels keys earlier (s ∷ narrowed asked s i ∷ at_spot asked s i j k ∷ K3 ∷ K4 ∷ K5 ∷ K6 ∷ []) (cond b (one_line 2 (at + 6) (key_at asked i) ∷ []) [])
    unfolding one_line K6 key_at key_of above to_t U
    last_line false none = done
    last_line true holds =
        next (rule2 refl refl K6 (later (at + 6) 6 refl (s ∷ narrowed asked s i ∷ at_spot asked s i j k ∷ K3 ∷ K4 ∷ K5 ∷ K6 ∷ []) K6 refl)
        (record {
          context = refl;
          target = refl;
          old_empty = Step.united_old labels asked s i j k g gs f kn (Step.empty_among asked holds);
          new_empty = Step.empty_among asked holds;
          begins = Step.united_begins labels asked s i j k g gs f kn;
        }))
        (record { good = good_at labels asked g i; few = omega (arith, paths_within labels in_profile asked g) }) done

    pub chain_runs : Runs labels keys earlier (s ∷ narrowed asked s i ∷ at_spot asked s i j k ∷ []) (chain_lines asked s i j k at)
    unfolding chain_lines one_line two_line at_spot K3 K4 K5 K6 U
    chain_runs =
        next (rule3 refl refl (at_spot asked s i j k) (later (at + 2) 2 refl (s ∷ narrowed asked s i ∷ at_spot asked s i j k ∷ []) (at_spot asked s i j k) refl)
        (superkey (above asked i) (to_spot asked i j k) s.paths _ (Step.united_new labels asked s i j k g gs f kn)))
        (read_line 3 (at + 2) 65535 (above asked i) (to_spot asked i j k) _ (above_short i) to_spot_short
        (omega (arith, Step.united_some labels asked s i j k g gs f kn, length-map U (λ (p : List ℕ). to_t asked k ++ p)))
        (omega (arith, Step.united_few labels asked s i j k g gs f kn, length-map U (λ (p : List ℕ). to_t asked k ++ p)))
        (ascending_front (to_t asked k) U (Step.united_ascending labels asked s i j k g gs f kn)) (Step.front_read labels asked s i j k g gs f kn))
        (next (rule7 refl refl (key_at asked h) (found_before earlier _ (at - 1) before) (context_target asked h k hk))
        (read_line 7 (at - 1) 65535 (above asked k) (to_t asked k) asked.paths (above_short k) (to_t_short k) (paths_some labels in_profile asked g)
        (omega (arith, paths_within labels in_profile asked g)) (paths_ascending labels in_profile asked g) asked_read)
        (next (rule3 refl refl K4 (later (at + 4) 4 refl (s ∷ narrowed asked s i ∷ at_spot asked s i j k ∷ K3 ∷ K4 ∷ []) K4 refl)
        (superkey (above asked k) (to_t asked k) asked.paths U
        (Each-of asked.paths (λ p m. Step.united_old labels asked s i j k g gs f kn m))))
        (read_line 3 (at + 4) 65535 (above asked k) (to_t asked k) U (above_short k) (to_t_short k) (Step.united_some labels asked s i j k g gs f kn)
        (Step.united_few labels asked s i j k g gs f kn) (Step.united_ascending labels asked s i j k g gs f kn) (united_at k))
        (next
        (rule9 refl K3 K5 (later (at + 3) 3 refl (s ∷ narrowed asked s i ∷ at_spot asked s i j k ∷ K3 ∷ K4 ∷ K5 ∷ []) K3 refl)
        (later (at + 5) 5 refl (s ∷ narrowed asked s i ∷ at_spot asked s i j k ∷ K3 ∷ K4 ∷ K5 ∷ []) K5 refl) interaction)
        (read_line 9 (at + 3) (at + 5) (above asked i) (to_t asked i) U (above_short i) (to_t_short i) (Step.united_some labels asked s i j k g gs f kn)
        (Step.united_few labels asked s i j k g gs f kn) (Step.united_ascending labels asked s i j k g gs f kn) (united_at i))
        (last_line (holds_empty asked) refl))))
