-- An accepted profile's keys stand where the writing of a proof looks them up: `Remembers` of write_proof.
use Rattle.std.specs.Prelude.{ℕ, suc, ◌+◌, ◌≤◌, ◌<◌, ◌≡◌, refl, Bool, true, false, cond, List, eqb, length, drop}
use native.Mathlib.Omega.{arith}
use Rattle.std.proofs.Math.ListN.{length-drop}
use Rattle.meaning.specs.Records.{record_length, record_kind, record_body}
use Rattle.meaning.specs.Refusals.{Profile, no_profile, first_of, profile_tests, profile_next, whole, has_edition, behind_edition, first_entry, profile_walked, profile_refusal, question_refusal, question_in}
use Rattle.meaning.specs.Operations.{labels_in, keys_in}
use Rattle.theory_records.specs.Tests.{both}
use Rattle.theory_records.specs.Heads.{whole_says}
use Rattle.theory_records.specs.Walks.{walk_keeps}
use Rattle.theory_records.specs.Encodings.{ends_key}
use Rattle.theory_records.specs.Places.{key_place}
use Rattle.theory_records.specs.Profiles.{accepted_keys, profile_accepts, profile_long}
use Rattle.theory_records.specs.Questions.{question_accepts}
use Rattle.theory_pattern.specs.Spots.{Chain}
use Rattle.step_search.specs.declared.search.FinalU.{FinalU}
use Rattle.step_search.specs.Finding.{steps_below}
use Rattle.write_proof.specs.Cited.{cited_key}
use Rattle.write_proof.specs.Chained.{Remembers}

-- a walk has passed at most one record for each byte
record Passed (bytes : List ℕ) (n : ℕ) (p : Profile) (rest : List ℕ) : Type 0 where
  most : n + length rest ≤ length bytes

passed_more : (bytes : List ℕ) (n : ℕ) (p : Profile) (l : List ℕ) → Passed bytes n p l → 0 < length l → first_of (profile_tests p l) ≡ 0
    → Passed bytes (suc n) (profile_next p l) (drop (record_length l) l)
passed_more bytes n p l g h e =
    let long = profile_long p l h e in
    let left = length-drop (record_length l) l in
    record { most = let m = g.most in omega arith }

behind_few : (bytes : List ℕ) → first_entry bytes + length (behind_edition bytes) ≤ length bytes
unfolding first_entry behind_edition
behind_few bytes = go (has_edition bytes) refl
  where
    go : (b : Bool) → has_edition bytes ≡ b → cond b 1 0 + length (cond b (drop (record_length bytes) bytes) bytes) ≤ length bytes
    go false e = omega arith
    go true e =
        let p = both (whole bytes) (eqb (record_kind bytes) 6) (unfold has_edition in e) in
        let w = whole_says bytes p.0 in
        omega (arith, w.long, w.within, length-drop (record_length bytes) bytes)

walked_few : (bytes : List ℕ) → (profile_walked bytes).at ≤ length bytes
unfolding profile_walked
walked_few bytes =
    let w = walk_keeps profile_tests profile_next (Passed bytes) profile_long (passed_more bytes) (first_entry bytes) no_profile (behind_edition bytes) (record { most = behind_few bytes }) in
    let m = w.held.most in
    omega arith

module _ (profile question : List ℕ) (sound_profile : (profile_refusal profile).number ≡ 0)
    (sound_question : (question_refusal (labels_in profile) question).number ≡ 0) where
  records_few : first_entry profile + length (labels_in profile) + length (keys_in profile) ≤ 16384
  unfolding labels_in keys_in
  records_few =
      let a = profile_accepts profile sound_profile in
      let c = a.good.counted in
      let s = a.size in
      let w = walked_few profile in
      omega arith

  pub remembered : (found : FinalU) → Chain (keys_in profile) (question_in question) found.u (steps_below found.steps found.count)
      → found.count ≤ 8
      → Remembers (labels_in profile) profile (first_entry profile + length (labels_in profile)) (keys_in profile) (record_body question) found.u found.steps found.count
  unfolding cited_key question_in
  remembered found chain few =
      let q = question_accepts (labels_in profile) question sound_question in
      record {
        good = accepted_keys profile sound_profile;
        asked = q.good;
        reads = ends_key question q.is_whole q.kind;
        small = let r = records_few in omega arith;
        are = λ n h. (key_place profile n h).is;
        long = λ n h. (key_place profile n h).is_whole.long;
        within = λ n h. (key_place profile n h).is_whole.within;
        is_key = λ n h. let k = key_place profile n h in ends_key _ k.is_whole k.kind;
        chain = chain;
        few = few;
      }
