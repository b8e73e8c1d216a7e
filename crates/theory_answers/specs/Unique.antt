-- "Each public operation's contract determines result and final buffer contents for all inputs, refused ones too, and this uniqueness is
-- proved." Each theorem is over the definition that the operation's `ensures` cites: two answers that meet it are equal.
use Rattle.std.specs.Prelude.{ℕ, zero, suc, ◌<◌, ◌≡◌, ◌⊎◌, Bool, length}
use Rattle.std.proofs.Math.Path.{sym, ap, ap₂}
use Rattle.std.proofs.Common.{◌∙◌, subst}
use Rattle.std.proofs.Math.Logic.{inl, inr}
use mathlib.Core.List.{List, [], ◌∷◌}
use Rattle.std.proofs.Math.Option.{some-injective}
use native.Mathlib.Omega.{arith}
use Rattle.std.proofs.Math.Decide.{dec_lt}
use Rattle.std.proofs.Math.ListN.{get_elem?}
use Rattle.theory_lists.specs.Bools.{Each-nth, Each-below}
use Rattle.meaning.specs.Keys.{Key, Keeps}
use Rattle.theory_trees.specs.Witness.{shows_breaks, first_unique}
use Rattle.meaning.specs.Rules.{Line, FollowsAt, FollowsBelow}
use Rattle.meaning.specs.Refusals.{Refusal, Walked, first_refusal}
use Rattle.meaning.specs.Pattern.{IsU}
use Rattle.meaning.specs.Paths
use Rattle.meaning.specs.Refusals
use Rattle.meaning.specs.Pattern
use Rattle.meaning.specs.Operations
use Rattle.meaning.specs.Operations.{Answer, Unless, choose, refused_by, Rewrites, Includes, TestsTree, KeepsIn, FirstIn, broken_by, shown, broken, accepted, ProofJudged, ChecksProof, CounterexampleJudged, ChecksCounterexample, Lists, Decides, ProofWritten, TreeWritten}
use Rattle.meaning.specs.Operations.{unfollowed, faulty, other_end, proved, breaks_key, keeps_question, refutes}

-- Below the refusals, the answers of Q are all the same
pub unless_unique : (rs : List Refusal) (buffer : List ℕ) (Q : Answer → Type 0) → ((a b : Answer) → Q a → Q b → a ≡ b)
    → (a b : Answer) → Unless rs buffer Q a → Unless rs buffer Q b → a ≡ b
unfolding Unless choose
unless_unique rs buffer Q one a b = go (first_refusal rs).number
  where
    go : (n : ℕ) → choose n (Q a) (a ≡ refused_by (first_refusal rs) buffer) → choose n (Q b) (b ≡ refused_by (first_refusal rs) buffer) → a ≡ b
    go zero p q = one a b p q
    go (suc n) p q = p ∙ sym q

pub rewrites_unique : (profile buffer : List ℕ) (a b : Answer) → Rewrites profile buffer a → Rewrites profile buffer b → a ≡ b
unfolding Rewrites
rewrites_unique profile buffer a b = unless_unique _ _ _ (λ x y p q. p ∙ sym q) a b

pub lists_unique : (profile tree : List ℕ) (k : ℕ) (buffer : List ℕ) (a b : Answer) → Lists profile tree k buffer a → Lists profile tree k buffer b
    → a ≡ b
unfolding Lists
lists_unique profile tree k buffer a b = unless_unique _ _ _ (λ x y p q. p ∙ sym q) a b

-- Either a statement holds and the answer is one, or it does not and the answer is the other
pub either_unique : {P N : Type 0} {one other : Answer} → (P → N → ⊥) → (a b : Answer) → (P × (a ≡ one)) ⊎ (N × (a ≡ other))
    → (P × (b ≡ one)) ⊎ (N × (b ≡ other)) → a ≡ b
either_unique clash a b (inl p) (inl q) = p.1 ∙ sym q.1
either_unique clash a b (inl p) (inr q) = absurd (clash p.0 q.0)
either_unique clash a b (inr p) (inl q) = absurd (clash q.0 p.0)
either_unique clash a b (inr p) (inr q) = p.1 ∙ sym q.1

pub includes_unique : (profile P Q : List ℕ) (a b : Answer) → Includes profile P Q a → Includes profile P Q b → a ≡ b
unfolding Includes
includes_unique profile P Q a b = unless_unique _ _ _ (either_unique (λ p n. n p)) a b

pub tests_tree_unique : (profile question tree : List ℕ) (a b : Answer) → TestsTree profile question tree a → TestsTree profile question tree b
    → a ≡ b
unfolding TestsTree KeepsIn FirstIn Keeps
tests_tree_unique profile question tree a b = unless_unique _ _ _ go a b
  where
    Tested : Answer → Type 0
    Tested answer =
        (KeepsIn profile tree (Refusals.question_in question) × (answer ≡ Operations.plain Operations.kept))
        ⊎ ((numbers : List ℕ) × FirstIn profile tree (Refusals.question_in question) numbers × (answer ≡ shown broken numbers))

    go : (a b : Answer) → Tested a → Tested b → a ≡ b
    go a b (inl p) (inl q) = p.1 ∙ sym q.1
    go a b (inl p) (inr q) = absurd (p.0 (shows_breaks q.1.shows))
    go a b (inr p) (inl q) = absurd (q.0 (shows_breaks p.1.shows))
    go a b (inr p) (inr q) = p.2 ∙ ap (shown broken) (first_unique p.1 q.1) ∙ sym q.2

-- Two numbers, each the least at which something fails, are the same
pub least_unique : {P : ℕ → Type 0} (m n : ℕ) → ((i : ℕ) → i < m → P i) → (P m → ⊥) → ((i : ℕ) → i < n → P i) → (P n → ⊥) → m ≡ n
least_unique {P} m n below-m fails-m below-n fails-n = go (dec_lt m n) (dec_lt n m)
  where
    go : Dec (m < n) → Dec (n < m) → m ≡ n
    go (yes h) d = absurd (fails-m (below-n m h))
    go (no h) (yes k) = absurd (fails-n (below-m n k))
    go (no h) (no k) = omega arith

module _ (single : ℕ → Bool) (labels : List Paths.Label) (keys : List Key) (question : Key) (walked : Walked (List Line)) where
  -- a line that does not follow is none of lines that all follow
  clash : (n : ℕ) → n < length walked.state → (FollowsAt single labels keys walked.state n → ⊥)
      → FollowsBelow single labels keys walked.state (length walked.state) → ⊥
  unfolding FollowsBelow
  clash n h fails all = fails (all n h)

  pub judged_unique : (a b : Answer) → ProofJudged single labels keys question walked a → ProofJudged single labels keys question walked b → a ≡ b
  unfolding FollowsBelow
  judged_unique a b (unfollowed m h l f p) (unfollowed n h' l' f' q) =
      p ∙ ap (λ (x : ℕ). refused_by (record { number = 9; input = 3; place = x }) []) (least_unique m n l f l' f') ∙ sym q
  judged_unique a b (unfollowed m h l f p) (faulty l' r q) = absurd (clash m h f l')
  judged_unique a b (unfollowed m h l f p) (other_end l' z e q) = absurd (clash m h f l')
  judged_unique a b (unfollowed m h l f p) (proved l' z e q) = absurd (clash m h f l')
  judged_unique a b (faulty l r p) (unfollowed n h' l' f' q) = absurd (clash n h' f' l)
  judged_unique a b (faulty l r p) (faulty l' r' q) = p ∙ sym q
  judged_unique a b (faulty l r p) (other_end l' z e q) = absurd (omega arith)
  judged_unique a b (faulty l r p) (proved l' z e q) = absurd (omega arith)
  judged_unique a b (other_end l z e p) (unfollowed n h' l' f' q) = absurd (clash n h' f' l)
  judged_unique a b (other_end l z e p) (faulty l' r q) = absurd (omega arith)
  judged_unique a b (other_end l z e p) (other_end l' z' e' q) = p ∙ sym q
  judged_unique a b (other_end l z e p) (proved l' z' e' q) = absurd (e e')
  judged_unique a b (proved l z e p) (unfollowed n h' l' f' q) = absurd (clash n h' f' l)
  judged_unique a b (proved l z e p) (faulty l' r q) = absurd (omega arith)
  judged_unique a b (proved l z e p) (other_end l' z' e' q) = absurd (e' e)
  judged_unique a b (proved l z e p) (proved l' z' e' q) = p ∙ sym q

pub checks_proof_unique : (profile question proof : List ℕ) (a b : Answer) → ChecksProof profile question proof a → ChecksProof profile question proof b
    → a ≡ b
unfolding ChecksProof
checks_proof_unique profile question proof a b = unless_unique _ _ _ (judged_unique _ _ _ _ _) a b

module _ (profile question tree : List ℕ) where
  pub counterexample_unique : (a b : Answer) → CounterexampleJudged profile question tree a → CounterexampleJudged profile question tree b → a ≡ b
  unfolding KeepsIn FirstIn Keeps
  counterexample_unique a b (breaks_key m k s l v w p) (breaks_key n k' s' l' v' w' q) =
      let e = go (dec_lt m n) (dec_lt n m) in
      let same : k ≡ k' = some-injective k k' (sym s ∙ ap (get_elem? (Operations.keys_in profile)) e ∙ s') in
      p ∙ ap₂ broken_by e (first_unique (subst (λ (key : Key). FirstIn profile tree key v) same w) w') ∙ sym q
    where
      go : Dec (m < n) → Dec (n < m) → m ≡ n
      go (yes h) d = absurd (Each-below _ m n h l' s (shows_breaks w.shows))
      go (no h) (yes h') = absurd (Each-below _ n m h' l s' (shows_breaks w'.shows))
      go (no h) (no h') = omega arith
  counterexample_unique a b (breaks_key m k s l v w p) (keeps_question l' e q) = absurd (Each-nth m l' s (shows_breaks w.shows))
  counterexample_unique a b (breaks_key m k s l v w p) (refutes l' v' w' q) = absurd (Each-nth m l' s (shows_breaks w.shows))
  counterexample_unique a b (keeps_question l e p) (breaks_key n k' s' l' v' w' q) = absurd (Each-nth n l s' (shows_breaks w'.shows))
  counterexample_unique a b (keeps_question l e p) (keeps_question l' e' q) = p ∙ sym q
  counterexample_unique a b (keeps_question l e p) (refutes l' v' w' q) = absurd (e (shows_breaks w'.shows))
  counterexample_unique a b (refutes l v w p) (breaks_key n k' s' l' v' w' q) = absurd (Each-nth n l s' (shows_breaks w'.shows))
  counterexample_unique a b (refutes l v w p) (keeps_question l' e' q) = absurd (e' (shows_breaks w.shows))
  counterexample_unique a b (refutes l v w p) (refutes l' v' w' q) = p ∙ ap (shown accepted) (first_unique w w') ∙ sym q

  pub checks_counterexample_unique : (a b : Answer) → ChecksCounterexample profile question tree a → ChecksCounterexample profile question tree b → a ≡ b
  unfolding ChecksCounterexample
  checks_counterexample_unique a b = unless_unique _ _ _ counterexample_unique a b

-- "u is the lowest node": there is one
pub u_unique : (single : ℕ → Bool) (keys : List Key) (asked : Key) (u v : ℕ) → IsU single keys asked u → IsU single keys asked v → u ≡ v
u_unique single keys asked u v p q = go (dec_lt u v) (dec_lt v u)
  where
    go : Dec (u < v) → Dec (v < u) → u ≡ v
    go (yes h) d = absurd (p.lowest v h q.to_t q.leads)
    go (no h) (yes k) = absurd (q.lowest u k p.to_t p.leads)
    go (no h) (no k) = omega arith

-- The one exception of document 01, "which accepted proof is written": two answers of the decider are equal, or both say implied, with a
-- proof that the check accepts each time
pub record BothProofs (profile question buffer : List ℕ) (a b : Answer) : Type 0 where
  pub first : ProofWritten profile question buffer a
  pub second : ProofWritten profile question buffer b

module _ (profile question buffer : List ℕ) where
  Below : Answer → Type 0
  Below a = ProofWritten profile question buffer a ⊎ TreeWritten profile question buffer a

  written_unique : (a b : Answer) → TreeWritten profile question buffer a → TreeWritten profile question buffer b → a ≡ b
  written_unique a b p q =
      p.answered
      ∙ ap (λ (u : ℕ). Operations.filled Operations.not_implied (Pattern.written_tree (Paths.class_of (Operations.labels_in profile)) (Refusals.question_in question) u) buffer)
      (u_unique _ _ _ p.u q.u p.is_u q.is_u)
      ∙ sym q.answered

  below_unique : (a b : Answer) → Below a → Below b → (a ≡ b) ⊎ BothProofs profile question buffer a b
  unfolding Below
  below_unique a b (inl p) (inl q) = inr (record { first = p; second = q })
  below_unique a b (inl p) (inr q) = absurd (q.fails p.holds)
  below_unique a b (inr p) (inl q) = absurd (p.fails q.holds)
  below_unique a b (inr p) (inr q) = inl (written_unique a b p q)

  pub decides_unique : (a b : Answer) → Decides profile question buffer a → Decides profile question buffer b
      → (a ≡ b) ⊎ BothProofs profile question buffer a b
  unfolding Decides Unless choose Below
  decides_unique a b = go (first_refusal rs).number
    where
      rs : List Refusal
      rs = Refusals.answer_refusal buffer ∷ Refusals.profile_refusal profile ∷ Refusals.question_refusal (Operations.labels_in profile) question ∷ []

      go : (n : ℕ) → choose n (Below a) (a ≡ refused_by (first_refusal rs) buffer) → choose n (Below b) (b ≡ refused_by (first_refusal rs) buffer)
          → (a ≡ b) ⊎ BothProofs profile question buffer a b
      go zero p q = below_unique a b p q
      go (suc n) p q = inl (p ∙ sym q)
