-- Body lookup: document 01, "give the body of record n of a checked profile", "(no body is empty)".
use Rattle.std.specs.Prelude.{ℕ, zero, suc, ◌+◌, ◌-◌, ◌≤◌, ◌<◌, ◌≡◌, refl, Bool, cond, eqb, List, [], length, drop}
use Rattle.std.proofs.Common.{sym, subst, ap, ◌∙◌, ⊎_elim, eqb-true, arith, eq-or-lt_of_le, le_of_suc-le-suc, zero-add, suc-add}
use Rattle.std.proofs.Math.Bool.{true, false}
use Rattle.meaning.specs.Records.{word, record_length, record_kind, record_body, key_body, path_bytes}
use Rattle.meaning.specs.Refusals.{first_of, Profile, no_profile, profile_tests, profile_next, whole, has_edition, behind_edition, first_entry, profile_walked, profile_refusal}
use Rattle.meaning.specs.Operations.{records_from, or_nothing, body_at}
use Rattle.theory_records.specs.Walks.{walk_keeps}
use Rattle.theory_records.specs.KeyBodies.{key_in_written}
use Rattle.theory_records.specs.Encodings.{ends_label, ends_key, ends_edition}
use Rattle.theory_records.specs.Tests.{both}
use Rattle.theory_records.specs.Heads.{whole_says}
use Rattle.theory_records.specs.Judged.{LabelAccepted, KeyRecordAccepted, profile_accepted}
use Rattle.theory_records.specs.Profiles.{profile_long, profile_accepts}

-- the record after the next n
pub records_next : (n : ℕ) (l : List ℕ) → records_from (suc n) l ≡ drop (record_length (records_from n l)) (records_from n l)
unfolding records_from
records_next zero l = refl
records_next (suc n) l = records_next n (drop (record_length l) l)

pub records_none : (n : ℕ) → records_from n [] ≡ []
unfolding records_from record_length word
records_none zero = refl
records_none (suc n) = records_none n

pub records_add : (n m : ℕ) (l : List ℕ) → records_from (n + m) l ≡ records_from m (records_from n l)
unfolding records_from
records_add zero m l = ap (λ (k : ℕ). records_from k l) (zero-add m)
records_add (suc n) m l = ap (λ (k : ℕ). records_from k l) (suc-add n m) ∙ records_add n m (drop (record_length l) l)

-- an accepted record of a profile has a body
pub body_some : (p : Profile) (l : List ℕ) → first_of (profile_tests p l) ≡ 0 → 0 < length (record_body l)
unfolding key_body path_bytes
body_some p l e =
    ⊎_elim
    (λ (a : LabelAccepted p l). omega (arith, ends_label l a.is_whole a.kind))
    (λ (a : KeyRecordAccepted p l).
    subst (λ (b : List ℕ). 0 < length b) (key_in_written (record_body l) (ends_key l a.is_whole a.kind)) (omega arith))
    (profile_accepted p l e)

-- Record n stands at the rest, and every record before has a body
pub record BodiesAt (bytes : List ℕ) (n : ℕ) (rest : List ℕ) : Type 0 where
  pub here : rest ≡ records_from n bytes
  pub some : (i : ℕ) → i < n → 0 < length (record_body (records_from i bytes))

bodies_kept : (bytes : List ℕ) (n : ℕ) (p : Profile) (l : List ℕ) → BodiesAt bytes n l → 0 < length l → first_of (profile_tests p l) ≡ 0
    → BodiesAt bytes (suc n) (drop (record_length l) l)
bodies_kept bytes n p l g h e =
    record {
      here = ap (λ (x : List ℕ). drop (record_length x) x) g.here ∙ sym (records_next n bytes);
      some =
          λ i k.
          ⊎_elim
          (λ (q : i ≡ n). subst (λ (x : List ℕ). 0 < length (record_body x)) (g.here ∙ ap (λ (j : ℕ). records_from j bytes) (sym q)) (body_some p l e))
          (λ (q : i < n). g.some i q)
          (eq-or-lt_of_le (le_of_suc-le-suc k));
    }

-- what stands behind the edition's record, and its own body
pub behind_here : (bytes : List ℕ) → behind_edition bytes ≡ records_from (first_entry bytes) bytes
unfolding behind_edition first_entry records_from
behind_here bytes = go (has_edition bytes)
  where
    go : (b : Bool) → cond b (drop (record_length bytes) bytes) bytes ≡ records_from (cond b 1 0) bytes
    go true = refl
    go false = refl

edition_bodies : (bytes : List ℕ) → BodiesAt bytes (first_entry bytes) (behind_edition bytes)
unfolding first_entry records_from
edition_bodies bytes = record { here = behind_here bytes; some = λ i h. go (has_edition bytes) refl i h }
  where
    go : (b : Bool) → has_edition bytes ≡ b → (i : ℕ) → i < cond b 1 0 → 0 < length (record_body (records_from i bytes))
    go true e zero h =
        let p = both (whole bytes) (eqb (record_kind bytes) 6) (unfold has_edition in e) in
        omega (arith, ends_edition bytes (whole_says bytes p.0) (eqb-true _ _ p.1))
    go true e (suc i) h = absurd (omega arith)
    go false e i h = absurd (omega arith)

-- Of an accepted profile: each record has a body, and behind the last there is nothing
pub record Bodies (bytes : List ℕ) : Type 0 where
  pub some : (n : ℕ) → n < (profile_walked bytes).at → 0 < length (body_at bytes n)
  pub none : (n : ℕ) → (profile_walked bytes).at ≤ n → body_at bytes n ≡ []

pub bodies : (bytes : List ℕ) → (profile_refusal bytes).number ≡ 0 → Bodies bytes
unfolding profile_walked body_at or_nothing record_body
bodies bytes e =
    let w =
    walk_keeps profile_tests profile_next (λ n p rest. BodiesAt bytes n rest) profile_long (bodies_kept bytes) (first_entry bytes) no_profile (behind_edition bytes)
    (edition_bodies bytes) in
    let last : records_from (profile_walked bytes).at bytes ≡ [] = sym w.held.here ∙ w.sound (profile_accepts bytes e).walked in
    record {
      some = λ n h. rw e (w.held.some n h);
      none =
          λ n h.
          let at : ℕ = (profile_walked bytes).at in
          let split : n ≡ at + (n - at) = omega arith in
          let beyond : records_from n bytes ≡ [] =
          ap (λ (k : ℕ). records_from k bytes) split
          ∙ (records_add at (n - at) bytes ∙ (ap (λ (x : List ℕ). records_from (n - at) x) last ∙ records_none (n - at))) in
          rw (e, beyond) (unfold record_length word in refl);
    }
