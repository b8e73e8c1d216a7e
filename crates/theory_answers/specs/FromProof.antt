-- What an operation over an accepted proof answers, a law for each return; and that it is one answer.
use Prim.Native.Nat.{ℕ, zero, suc, ◌≤◌, ◌<◌}
use Rattle.std.specs.Prelude.{◌≡◌, Bool, length}
use Rattle.std.proofs.Math.Path.{refl, sym}
use Rattle.std.proofs.Common.{ap, ◌∙◌, arith}
use mathlib.Core.List.{List, []}
use Rattle.meaning.specs.Paths.{Label}
use Rattle.meaning.specs.Keys.{Key}
use Rattle.meaning.specs.Rules.{Line}
use Rattle.meaning.specs.Refusals.{Refusal, Walked, first_refusal}
use Rattle.meaning.specs.Operations.{Answer, Verdict, Unless, choose, refused_by, filled, plain, accepted, ChecksProof, ProofJudged, unfollowed, faulty, other_end, proved, of_checked, OfProof, FromProof}
use Rattle.theory_answers.specs.Refusing.{unless_sound, unless_small, unless_room, sound_end}
use Rattle.theory_answers.specs.Unique.{unless_unique, checks_proof_unique}

pub not_refused : (r : Refusal) (buffer : List ℕ) → plain accepted ≡ refused_by r buffer → ⊥
unfolding plain refused_by
not_refused r buffer e = let z : ◌≡◌ {A = ℕ} 0 1 = cc (ap (λ (a : Answer). a.verdict) e) in absurd (omega arith)

-- a refusal of the check has a number
same_number : (r s : Refusal) → refused_by r [] ≡ refused_by s [] → r.number ≡ s.number
unfolding refused_by
same_number r s e = ap (λ (a : Answer). a.number) e

judged_number : (single : ℕ → Bool) (labels : List Label) (keys : List Key) (question : Key) (walked : Walked (List Line)) (r : Refusal)
    → ProofJudged single labels keys question walked (refused_by r []) → 0 < r.number
judged_number single labels keys question walked r (unfollowed n h l f p) = let e = same_number r _ p in omega arith
judged_number single labels keys question walked r (faulty l h p) = let e = same_number r _ p in omega arith
judged_number single labels keys question walked r (other_end l z e p) = let q = same_number r _ p in omega arith
judged_number single labels keys question walked r (proved l z e p) = absurd (not_refused r [] (sym p))

unless_number : (rs : List Refusal) (Q : Answer → Type 0) (r : Refusal) → (Q (refused_by r []) → 0 < r.number) → Unless rs [] Q (refused_by r [])
    → 0 < r.number
unfolding Unless choose
unless_number rs Q r more = go (first_refusal rs).number refl
  where
    go : (n : ℕ) → (first_refusal rs).number ≡ n → choose n (Q (refused_by r [])) (refused_by r [] ≡ refused_by (first_refusal rs) []) → 0 < r.number
    go zero e q = more q
    go (suc n) e q = let z = same_number r (first_refusal rs) q in omega arith

refusal_number : (profile question proof : List ℕ) (r : Refusal) → ChecksProof profile question proof (refused_by r []) → 0 < r.number
unfolding ChecksProof
refusal_number profile question proof r = unless_number _ _ r (judged_number _ _ _ _ _ r)

module _ (v : Verdict) (profile question proof bytes buffer : List ℕ) where
  -- 14, before all else
  pub from_small : length buffer < 65536 → FromProof v profile question proof bytes buffer (refused_by (record { number = 14; input = 4; place = 0 }) buffer)
  unfolding FromProof
  from_small h = unless_small [] buffer (OfProof v profile question proof bytes buffer) h

  is_refused : (number input place : ℕ) → 0 < number
      → refused_by (record { number = number; input = input; place = place }) buffer
      ≡ of_checked v bytes buffer (refused_by (record { number = number; input = input; place = place }) [])
  unfolding of_checked refused_by
  is_refused zero input place h = absurd (omega arith)
  is_refused (suc n) input place h = refl

  module _ (room : 65536 ≤ length buffer) where
    below : (answer : Answer) → OfProof v profile question proof bytes buffer answer → FromProof v profile question proof bytes buffer answer
    unfolding FromProof
    below answer t = unless_room _ buffer _ answer room (unless_sound _ buffer _ answer sound_end t)

    -- "A proof that is not accepted is refused with the checker's number", input and record
    pub from_refused : (r : Refusal) → ChecksProof profile question proof (refused_by r []) → FromProof v profile question proof bytes buffer (refused_by r buffer)
    from_refused r c =
        below (refused_by r buffer)
        (record { checked = refused_by r []; checks = c; is = is_refused r.number r.input r.place (refusal_number profile question proof r c) })

    -- an accepted proof: the bytes, and behind them the buffer as it was
    pub from_filled : ChecksProof profile question proof (plain accepted) → FromProof v profile question proof bytes buffer (filled v bytes buffer)
    unfolding of_checked plain
    from_filled c = below _ (record { checked = plain accepted; checks = c; is = refl })

  -- one answer
  pub from_unique : (a b : Answer) → FromProof v profile question proof bytes buffer a → FromProof v profile question proof bytes buffer b → a ≡ b
  unfolding FromProof
  from_unique a b =
      unless_unique _ _ _
      (λ x y p q.
      p.is ∙ (ap (of_checked v bytes buffer) (checks_proof_unique profile question proof p.checked q.checked p.checks q.checks) ∙ sym q.is))
      a b
