-- ARGUMENT 5: the written proof is accepted. "Invariant: before step r, h ≤ u_r".
use Prim.Native.Nat.{ℕ, zero, suc, ◌+◌, ◌-◌, ◌*◌, ◌≤◌, ◌<◌}
use Rattle.std.specs.Prelude.{◌≡◌, Bool, take, drop}
use Rattle.std.proofs.Math.Path.{refl, ap, ap₂, subst}
use Rattle.std.proofs.Common.{sym, ◌∙◌, length-append, drop_of_length-le, drop-cons, leb-true, leb-false, lt-ltb, le-ltb}
use Rattle.std.proofs.Math.Bool.{true, false, cond}
use mathlib.Core.List.{List, [], ◌∷◌, ◌++◌, append-nil}
use Rattle.std.proofs.Math.Option.{Option, some, none-ne-some, some-injective}
use native.Mathlib.Omega.{arith}
use Rattle.std.proofs.Math.Dec.{T, leb}
use Rattle.std.proofs.Math.ListN.{length, get_or, get_elem?}
use Rattle.std.proofs.lemmas.List.{length-map}
use Rattle.std.proofs.Math.Seq.{take-append_seam, drop-append_seam}
use Rattle.meaning.specs.Limits.{in_profile}
use Rattle.meaning.specs.Lists.{Each, also}
use Rattle.meaning.specs.Paths.{Label, norm}
use Rattle.meaning.specs.Keys.{Key}
use Rattle.meaning.specs.Rules.{Line, Epsilon, rule1, rule7, FollowsIn, shared, rule10, line_keys, EndsWith, Accepted, ContextTarget}
use Rattle.meaning.specs.Records.{no_key}
use Rattle.meaning.specs.Pattern.{q_of, t_of}
use Rattle.theory_lists.specs.Bools.{Each-at}
use Rattle.theory_paths.specs.Normal.{norm_of_normal}
use Rattle.theory_paths.specs.Good.{GoodKey, context_normal, target_length, paths_within}
use Rattle.theory_lists.specs.Logic.{found_mem, found_later, found_before}
use Rattle.theory_pattern.specs.RowParts.{take_part, part_drop, join_norms, join_norm}
use Rattle.theory_pattern.specs.Spots.{Taken, Ends, at_t, above_single, Fires, FiresBy, Chain, begun, taken, chain_of, holds_empty, part}
use Rattle.theory_derive.specs.Written
use Rattle.theory_derive.specs.Sets
use Rattle.theory_derive.specs.Written.{key_of, key_at, one_line, two_line, above, to_t, narrowed, at_spot, united, opening, chain_lines, empty_lines, end_lines, step_lines, taken_lines, lines_from, first_line, proof_lines}
use Rattle.theory_derive.specs.Lines.{good_at, good_wider}
use Rattle.theory_pattern.specs.Rows.{chain_length}
use Rattle.theory_derive.specs.Runs.{FineLine, Runs, done, next, runs_append, runs_shift, runs_fine, first_follow}
use Rattle.theory_derive.specs.Follow.{opening_runs, chain_runs}
use Rattle.theory_derive.specs.FollowBelow.{end_runs, empty_runs}

-- ---- one step

module _ (labels : List Label) (keys : List Key) (asked s : Key) (number i j k : ℕ) (g : GoodKey labels in_profile asked)
    (gs : GoodKey labels in_profile s) (f : FiresBy asked s i j k) (earlier : List Key) (at : ℕ) (e : length earlier ≡ at) where
  pub step_runs : (h : ℕ) → h ≤ k → i < k → get_elem? keys number ≡ some s → get_elem? earlier (at - 1) ≡ some (key_at asked h)
      → Runs labels keys earlier [] (step_lines asked s number i j k at)
  unfolding step_lines line_keys opening one_line
  step_runs h hk ik cited before =
      runs_append _ (opening_runs labels keys asked s number i j k g gs f earlier at e ik cited) (go (leb k (t_of asked)) (holds_empty asked) refl refl)
    where
      go : (a b : Bool) → leb k (t_of asked) ≡ a → holds_empty asked ≡ b
          → Runs labels keys earlier (s ∷ narrowed asked s i ∷ at_spot asked s i j k ∷ [])
          (cond a (chain_lines asked s i j k at) (cond b (empty_lines asked s i j k at) (end_lines asked i j at)))
      go true b p q = chain_runs labels keys asked s number i j k g gs f earlier at e h hk (leb-true k (t_of asked) p) before
      go false true p q = empty_runs labels keys asked s number i j k g gs f earlier at e (leb-false k (t_of asked) p) q
      go false false p q = end_runs labels keys asked s number i j k g gs f earlier at e (leb-false k (t_of asked) p) q

-- lines, at least one and at most so many, of which the last has this key
pub record LinesEnd (K : Key) (most : ℕ) (lines : List Line) : Type 0 where
  pub last : EndsWith lines K
  pub any : 1 ≤ length lines
  pub few : length lines ≤ most

pub line_keys_append : (xs ys : List Line) → line_keys (xs ++ ys) ≡ line_keys xs ++ line_keys ys
unfolding line_keys
line_keys_append [] ys = refl
line_keys_append (x ∷ xs) ys = ap {B = List Key} (λ r. x.key ∷ r) (line_keys_append xs ys)

pub line_keys_length : (xs : List Line) → length (line_keys xs) ≡ length xs
unfolding line_keys
line_keys_length xs = length-map xs (λ (l : Line). l.key)

pub ends_append : {K : Key} {most : ℕ} (xs ys : List Line) (first : ℕ) → length xs ≤ first → LinesEnd K most ys → LinesEnd K (first + most) (xs ++ ys)
unfolding EndsWith
ends_append {K} {most} xs ys first l r =
    record {
      last = ap₂ get_elem? (line_keys_append xs ys) refl
          ∙ found_later (line_keys xs) (line_keys ys) (length (xs ++ ys) - 1) (length ys - 1)
          (omega (arith, length-append xs ys, line_keys_length xs, r.any))
          ∙ r.last;
      any = omega (arith, length-append xs ys, r.any);
      few = omega (arith, length-append xs ys, r.few);
    }

-- the lines of the case k ≤ n: the last is rule 2's, or without e in S rule 9's
ends_four : (a b c d f : Line) (v : Bool) (K : Key) → (v ≡ true → f.key ≡ K) → (v ≡ false → d.key ≡ K)
    → LinesEnd K 5 (a ∷ b ∷ c ∷ d ∷ cond v (f ∷ []) [])
unfolding EndsWith line_keys
ends_four a b c d f true K p q = record { last = ap {B = Option Key} some (p refl); any = omega arith; few = omega arith }
ends_four a b c d f false K p q = record { last = ap {B = Option Key} some (q refl); any = omega arith; few = omega arith }

-- a step has at most 8 lines, the last of which is K i
pub step_ends : (asked s : Key) (number i j k at : ℕ) → LinesEnd (key_at asked i) 8 (step_lines asked s number i j k at)
unfolding step_lines opening chain_lines empty_lines end_lines one_line two_line EndsWith line_keys united key_at above to_t
step_ends asked s number i j k at = ends_append (opening asked s number i j k at) _ 3 (omega arith) (go (leb k (t_of asked)) (holds_empty asked))
  where
    whole : holds_empty asked ≡ false → united asked s k ≡ asked.paths
    whole e = ap (λ v. cond v (Sets.unite asked.paths (Written.beyond asked s k)) asked.paths) e

    go : (a b : Bool)
        → LinesEnd (key_at asked i) 5 (cond a (chain_lines asked s i j k at) (cond b (empty_lines asked s i j k at) (end_lines asked i j at)))
    go true b = ends_four _ _ _ _ _ (holds_empty asked) (key_at asked i) (λ p. refl) (λ p. ap (key_of (above asked i) (to_t asked i)) (whole p))
    go false true = record { last = refl; any = omega arith; few = omega arith }
    go false false = record { last = refl; any = omega arith; few = omega arith }

-- ---- all steps

-- rule 7 for the question
question : (labels : List Label) (asked : Key) → GoodKey labels in_profile asked → (h : ℕ) → h ≤ q_of asked → ContextTarget (key_at asked h) asked
unfolding key_at key_of q_of chain_of
question labels asked g h l =
    record {
      X = norm (part h c chain);
      target = join_norm (part h c chain) asked.target
          ∙ ap (λ r. norm (part h c chain ++ r)) (sym (drop-append_seam asked.context asked.target))
          ∙ ap norm (part_drop h c chain l);
      context = sym (join_norms (take h chain) (part h c chain) ∙ ap norm (take_part h c chain l ∙ take-append_seam asked.context asked.target)
          ∙ norm_of_normal asked.context (context_normal labels in_profile asked g));
      paths = refl;
    }
  where
    c : ℕ
    c = length asked.context

    chain : List ℕ
    chain = asked.context ++ asked.target

pub get_d_found : (keys : List Key) (n : ℕ) {k : Key} → get_elem? keys n ≡ some k → get_or keys n no_key ≡ k
get_d_found [] n e = absurd (none-ne-some _ e)
get_d_found (x ∷ keys) zero e = some-injective _ _ e
get_d_found (x ∷ keys) (suc n) e = get_d_found keys n e

module _ (labels : List Label) (keys : List Key) (asked : Key) (gk : Each (GoodKey labels in_profile) keys) (g : GoodKey labels in_profile asked) where
  taken_runs : (t : Taken) → Fires keys asked t → t.node < t.spot → (earlier : List Key) (at : ℕ) → length earlier ≡ at
      → (h : ℕ) → h ≤ t.spot → get_elem? earlier (at - 1) ≡ some (key_at asked h) → Runs labels keys earlier [] (taken_lines keys asked t at)
  unfolding taken_lines
  taken_runs t f ik earlier at e h hk before =
      subst (λ s. Runs labels keys earlier [] (step_lines asked s t.key t.node t.branch t.spot at)) (sym (get_d_found keys t.key f.cited))
      (step_runs labels keys asked f.by t.key t.node t.branch t.spot g (Each-at gk f.by (found_mem keys t.key f.cited))
      f.firing earlier at e h hk ik f.cited before)

  taken_ends : (t : Taken) (at : ℕ) → LinesEnd (key_at asked t.node) 8 (taken_lines keys asked t at)
  unfolding taken_lines
  taken_ends t at = step_ends asked (get_or keys t.key no_key) t.key t.node t.branch t.spot at

  pub from_runs : {u : ℕ} {steps : List Taken} → Chain keys asked u steps → (h : ℕ) → h ≤ u → (earlier : List Key) (at : ℕ)
      → length earlier ≡ at → 1 ≤ at → get_elem? earlier (at - 1) ≡ some (key_at asked h) → Runs labels keys earlier [] (lines_from keys asked at steps)
  unfolding lines_from one_line EndsWith
  from_runs begun h hu earlier at e any before =
      next (rule7 refl refl (key_at asked h) (found_before earlier [] (at - 1) before) (question labels asked g h hu))
      (record { good = good_wider labels asked g; few = omega (arith, paths_within labels in_profile asked g) }) done
  from_runs (taken {u} {steps} t chain un f uk iu) h hu earlier at e any before =
      let lines = taken_lines keys asked t at in
      let r = taken_ends t at in
      runs_append (lines_from keys asked (at + length lines) steps) (taken_runs t f (omega arith) earlier at e h (omega arith) before)
      (subst (λ w. Runs labels keys earlier w (lines_from keys asked (at + length lines) steps)) (append-nil (line_keys lines))
      (runs_shift earlier (line_keys lines)
      (from_runs chain t.node iu (earlier ++ line_keys lines) (at + length lines)
      (length-append earlier (line_keys lines) ∙ ap₂ (λ (a b : ℕ). a + b) e (line_keys_length lines)) (omega arith)
      (found_later earlier (line_keys lines) (at + length lines - 1) (length lines - 1) (omega (arith, r.any)) ∙ r.last))))

  -- the last line is the question
  from_ends : (steps : List Taken) (at : ℕ) → LinesEnd asked (1 + 8 * length steps) (lines_from keys asked at steps)
  unfolding lines_from one_line EndsWith line_keys
  from_ends [] at = record { last = refl; any = omega arith; few = omega arith }
  from_ends (t ∷ steps) at =
      let lines = taken_lines keys asked t at in
      let r = ends_append lines (lines_from keys asked (at + length lines) steps) 8 (taken_ends t at).few (from_ends steps (at + length lines)) in
      record { last = r.last; any = r.any; few = omega (arith, r.few) }

  -- "At most |T| turns"
  pub turns : {u : ℕ} {steps : List Taken} → Chain keys asked u steps → (q_of asked + length steps ≤ u) × (u ≤ t_of asked)
  unfolding q_of t_of
  turns begun = (omega arith, omega arith)
  turns (taken t chain un f uk iu) = let r = turns chain in (omega arith, omega arith)

  pub steps_few : {u : ℕ} {steps : List Taken} → Chain keys asked u steps → length steps ≤ 8
  unfolding q_of t_of
  steps_few chain = let r = turns chain in omega (arith, target_length labels in_profile asked g)

  lines_end : {u : ℕ} {steps : List Taken} → Chain keys asked u steps → LinesEnd asked 66 (proof_lines keys asked u steps)
  unfolding proof_lines EndsWith line_keys
  lines_end {u} {steps} chain =
      let r = ends_append (first_line asked u ∷ []) (lines_from keys asked 1 steps) 1 (omega arith) (from_ends steps 1) in
      record { last = r.last; any = r.any; few = omega (arith, r.few, steps_few chain) }

  -- the lines behind the first, each by a rule of both editions
  behind_first : {u : ℕ} {steps : List Taken} → Chain keys asked u steps → Runs labels keys (key_at asked u ∷ []) [] (lines_from keys asked 1 steps)
  behind_first {u} chain = from_runs chain u (omega arith) (key_at asked u ∷ []) 1 refl (omega arith) refl

  first_fine : (u : ℕ) → FineLine labels (first_line asked u)
  unfolding first_line one_line key_at key_of
  first_fine u = record { good = good_at labels asked g u; few = omega (arith, paths_within labels in_profile asked g) }

  -- "A proof is accepted if each line follows and the last line's key is the question."
  module _ (single : ℕ → Bool) (clear : T (single 0) → ⊥) where
    first_follows : (u : ℕ) → Ends single asked u → FollowsIn single labels keys [] (first_line asked u)
    unfolding first_line one_line Epsilon key_at key_of norm
    first_follows u (at_t e) =
        shared (rule1 (ap (λ (b : Bool). cond b 10 1) (le-ltb u (t_of asked) (omega arith))) refl refl ends)
      where
        ends : norm (drop u (chain_of asked)) ≡ []
        ends = ap norm (drop_of_length-le (chain_of asked) {i = u} (omega (arith, chain_length asked)))
    first_follows u (above_single e s) =
        rule10 (ap (λ (b : Bool). cond b 10 1) (lt-ltb u (t_of asked) (omega arith))) refl refl
        (record {
          label = get_or (chain_of asked) u 0;
          is_single = s;
          target =
              ap norm (drop-cons (chain_of asked) u 0 (omega (arith, chain_length asked))
              ∙ ap (λ r. get_or (chain_of asked) u 0 ∷ r) (drop_of_length-le (chain_of asked) {i = suc u} (omega (arith, chain_length asked))))
              ∙ alone (get_or (chain_of asked) u 0) s;
        })
      where
        alone : (n : ℕ) → T (single n) → norm (n ∷ []) ≡ n ∷ []
        alone zero t = absurd (clear t)
        alone (suc n) t = refl

    pub proof_accepted : {u : ℕ} {steps : List Taken} → Chain keys asked u steps → Ends single asked u
        → Accepted single labels keys asked (proof_lines keys asked u steps)
    unfolding proof_lines
    proof_accepted {u} {steps} chain e =
        record { each = first_follow single (first_line asked u) (lines_from keys asked 1 steps) (first_follows u e) (behind chain); last = (lines_end chain).last }
      where
        behind : Chain keys asked u steps → Runs labels keys ((first_line asked u).key ∷ []) [] (lines_from keys asked 1 steps)
        behind c = unfold first_line one_line in behind_first c

  -- each line is well formed, with at most 8 key paths
  pub proof_fine : {u : ℕ} {steps : List Taken} → Chain keys asked u steps → Each (FineLine labels) (proof_lines keys asked u steps)
  unfolding proof_lines
  proof_fine {u} chain = also (first_fine u) (runs_fine (behind_first chain))

  -- "At most 1 + 8·8 + 1 = 66 lines"
  pub proof_few : {u : ℕ} {steps : List Taken} → Chain keys asked u steps → length (proof_lines keys asked u steps) ≤ 66
  proof_few chain = (lines_end chain).few
