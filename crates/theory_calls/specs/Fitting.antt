-- Every answer of the three calls fits the fields of its details: number, input and record two bytes each, bytes used four.
use Rattle.std.specs.Prelude.{ℕ, zero, suc, ◌≤◌, ◌<◌, ◌≡◌, refl, ◌⊎◌, List, [], ◌∷◌, length}
use Rattle.std.proofs.Common.{sym, ap, subst, inl, inr, arith}
use Rattle.meaning.specs.Limits.{proof_bytes}
use Rattle.meaning.specs.Refusals.{Refusal, first_refusal, oversize, profile_refusal, question_refusal, question_in, proof_walked, answer_refusal}
use Rattle.meaning.specs.Operations.{Answer, Verdict, Unless, choose, refused_by, filled, plain, shown, broken_by, accepted, tree_refusals, single_in, Decides, ProofWritten, TreeWritten, ProofJudged, ChecksProof, CounterexampleJudged, ChecksCounterexample, labels_in, keys_in, second_in}
use Rattle.meaning.specs.Operations.{unfollowed, faulty, other_end, proved, breaks_key, keeps_question, refutes}
use Rattle.theory_lists.specs.Logic.{found_below}
use Rattle.theory_records.specs.Profiles.{refusal_none, accepted_few, within_size}
use Rattle.theory_records.specs.Questions.{lines_at_stop}
use Rattle.theory_verdicts.specs.Demand.{accepted_passes, tree_within}
use Rattle.theory_calls.specs.Small.{Small, small_first, small_none, small_answer, small_profile, small_question, small_tree, small_oversize, proof_number}

pub record Fits (a : Answer) : Type 0 where
  pub number : a.number < 65536
  pub input : a.input < 65536
  pub place : a.place < 65536
  pub used : a.used < 4294967296

refused_fits : (r : Refusal) (buffer : List ℕ) → Small r → Fits (refused_by r buffer)
unfolding refused_by
refused_fits r buffer s = record { number = s.number; input = s.input; place = s.place; used = omega arith }

-- the first refusal's answer, or what is said behind it
unless_fits : (rs : List Refusal) (buffer : List ℕ) (Q : Answer → Type 0) (answer : Answer) → Small (first_refusal rs)
    → ((first_refusal rs).number ≡ 0 → Q answer → Fits answer) → Unless rs buffer Q answer → Fits answer
unfolding Unless choose
unless_fits rs buffer Q answer s sound = go (first_refusal rs).number refl
  where
    go : (n : ℕ) → (first_refusal rs).number ≡ n → choose n (Q answer) (answer ≡ refused_by (first_refusal rs) buffer) → Fits answer
    go zero e q = sound e q
    go (suc n) e q = subst Fits (sym q) (refused_fits (first_refusal rs) buffer s)

plain_fits : (v : Verdict) → Fits (plain v)
unfolding plain
plain_fits v = record { number = omega arith; input = omega arith; place = omega arith; used = omega arith }

shown_fits : (v : Verdict) (numbers : List ℕ) → Fits (shown v numbers)
unfolding shown
shown_fits v numbers = record { number = omega arith; input = omega arith; place = omega arith; used = omega arith }

proof_small : (profile question proof : List ℕ)
    → Small (first_refusal (profile_refusal profile ∷ question_refusal (labels_in profile) question ∷ oversize 3 proof_bytes proof ∷ []))
proof_small profile question proof =
    small_first _ _ (small_profile profile)
    (small_first _ _ (small_question (labels_in profile) question) (small_first _ _ (small_oversize 3 proof_bytes proof (omega arith)) small_none))

pub proof_fits : (profile question proof : List ℕ) (answer : Answer) → ChecksProof profile question proof answer → Fits answer
unfolding ChecksProof
proof_fits profile question proof answer =
    unless_fits _ [] _ answer (proof_small profile question proof) (λ e. judged)
  where
    few : length (proof_walked (labels_in profile) proof).state ≤ 256
    few = (lines_at_stop (labels_in profile) proof).few

    at : (proof_walked (labels_in profile) proof).at ≡ length (proof_walked (labels_in profile) proof).state
    at = (lines_at_stop (labels_in profile) proof).counted

    number : (proof_walked (labels_in profile) proof).number ≤ 16
    number = proof_number (labels_in profile) proof

    judged : ProofJudged (single_in profile) (labels_in profile) (keys_in profile) (question_in question) (proof_walked (labels_in profile) proof) answer → Fits answer
    judged (unfollowed n h f g e) =
        let k = few in
        subst Fits (sym e) (refused_fits _ [] (record { number = omega arith; input = omega arith; place = omega arith }))
    judged (faulty f h e) =
        let k = few in
        let a = at in
        let m = number in
        subst Fits (sym e) (refused_fits _ [] (record { number = omega arith; input = omega arith; place = omega arith }))
    judged (other_end f z h e) =
        let k = few in
        subst Fits (sym e) (refused_fits _ [] (record { number = omega arith; input = omega arith; place = omega arith }))
    judged (proved f z h e) = subst Fits (sym e) (plain_fits accepted)

pub counterexample_fits : (profile question tree : List ℕ) (answer : Answer) → ChecksCounterexample profile question tree answer → Fits answer
unfolding ChecksCounterexample tree_refusals broken_by
counterexample_fits profile question tree answer =
    unless_fits _ [] _ answer
    (small_first _ _ (small_profile profile)
    (small_first _ _ (small_question (labels_in profile) question) (small_first _ _ (small_tree (second_in profile) (labels_in profile) tree) small_none)))
    (λ e. judged (accepted_few profile (refusal_none _ _ e).0))
  where
    judged : length (keys_in profile) ≤ 64 → CounterexampleJudged profile question tree answer → Fits answer
    judged few (breaks_key n key f k v w e) =
        let h = found_below (keys_in profile) n f in
        subst Fits (sym e) (record { number = omega arith; input = omega arith; place = omega arith; used = omega arith })
    judged few (keeps_question k q e) =
        subst Fits (sym e) (refused_fits _ [] (record { number = omega arith; input = omega arith; place = omega arith }))
    judged few (refutes k v w e) = subst Fits (sym e) (shown_fits accepted v)

-- an accepted proof has its size
accepted_size : (profile question proof : List ℕ) → ChecksProof profile question proof (plain accepted) → length proof ≤ 65536
unfolding ChecksProof plain
accepted_size profile question proof c =
    let one = refusal_none _ _ (accepted_passes _ _ (plain accepted) refl c) in
    let two = refusal_none _ _ one.1 in
    within_size 3 proof_bytes proof (refusal_none _ _ two.1).0

pub decides_fits : (profile question buffer : List ℕ) (answer : Answer) → Decides profile question buffer answer → Fits answer
unfolding Decides filled
decides_fits profile question buffer answer =
    unless_fits _ buffer _ answer
    (small_first _ _ (small_answer buffer)
    (small_first _ _ (small_profile profile) (small_first _ _ (small_question (labels_in profile) question) small_none)))
    decided
  where
    decided : (first_refusal (answer_refusal buffer ∷ profile_refusal profile ∷ question_refusal (labels_in profile) question ∷ [])).number ≡ 0
        → ProofWritten profile question buffer answer ⊎ TreeWritten profile question buffer answer → Fits answer
    decided e (inl p) =
        let size = accepted_size profile question p.bytes p.checked in
        subst Fits (sym p.answered) (record { number = omega arith; input = omega arith; place = omega arith; used = omega arith })
    decided e (inr t) =
        let one = refusal_none _ _ e in
        let two = refusal_none _ _ one.1 in
        let three = refusal_none _ _ two.1 in
        let used = tree_within profile question buffer two.0 three.0 answer t in
        let same = ap (λ (a : Answer). a.used) t.answered in
        subst Fits (sym t.answered) (record { number = omega arith; input = omega arith; place = omega arith; used = omega arith })
