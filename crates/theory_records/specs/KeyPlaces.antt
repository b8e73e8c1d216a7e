-- Keys where they stand: so many key records one after the other, and those of a profile, behind its edition and its labels.
use Rattle.std.specs.Prelude.{ℕ, zero, suc, ◌+◌, ◌≤◌, ◌<◌, ◌≡◌, refl, ◌⊎◌, true, List, [], ◌∷◌, ◌++◌, length, drop}
use Rattle.std.proofs.Common.{sym, ap, subst, ◌∙◌, inl, inr, ⊎_elim, arith, eq-or-lt_of_le, le_of_suc-le-suc}
use Rattle.std.proofs.Math.Option.{none, some}
use Rattle.std.proofs.Math.ListN.{get_elem?}
use Rattle.meaning.specs.Keys.{Key}
use Rattle.meaning.specs.Records.{record_length, record_kind, record_body, read_label, read_key, key_in, is_some}
use Rattle.meaning.specs.Refusals.{Profile, no_profile, first_of, profile_tests, profile_next, behind_edition, first_entry, profile_walked, profile_in}
use Rattle.meaning.specs.Operations.{records_from, labels_in, keys_in}
use Rattle.theory_records.specs.Walks.{Stopped, walk_keeps}
use Rattle.theory_records.specs.Heads.{Whole}
use Rattle.theory_records.specs.Encodings.{ends_key}
use Rattle.theory_records.specs.Judged.{LabelAccepted, KeyRecordAccepted, profile_accepted}
use Rattle.theory_records.specs.Profiles.{length_more, next_label, next_key, profile_long}
use Rattle.theory_records.specs.Bodies.{records_next, records_add, behind_here}

-- so many keys from here on
unfoldable pub keys_from : ℕ → List ℕ → List Key
keys_from zero l = []
keys_from (suc n) l = key_in (record_body l) ∷ keys_from n (drop (record_length l) l)

-- a key record that was read
pub record KeyRecord (l : List ℕ) : Type 0 where
  pub is_whole : Whole l
  pub kind : record_kind l ≡ 2

pub key_shape : {l : List ℕ} → KeyRecord l → is_some (read_key (record_body l)) ≡ true
key_shape {l} r = ends_key l r.is_whole r.kind

pub record KeyRecords (n : ℕ) (l : List ℕ) : Type 0 where
  pub each : (i : ℕ) → i < n → KeyRecord (records_from i l)

pub keys_length : (n : ℕ) (l : List ℕ) → length (keys_from n l) ≡ n
unfolding keys_from
keys_length zero l = refl
keys_length (suc n) l = ap suc (keys_length n (drop (record_length l) l))

pub key_at : (n i : ℕ) (l : List ℕ) → i < n → get_elem? (keys_from n l) i ≡ some (key_in (record_body (records_from i l)))
unfolding keys_from records_from
key_at zero i l h = absurd (omega arith)
key_at (suc n) zero l h = refl
key_at (suc n) (suc i) l h = key_at n i (drop (record_length l) l) (omega arith)

pub key_none : (n i : ℕ) (l : List ℕ) → n ≤ i → get_elem? (keys_from n l) i ≡ none
unfolding keys_from
key_none zero i l h = refl
key_none (suc n) zero l h = absurd (omega arith)
key_none (suc n) (suc i) l h = key_none n i (drop (record_length l) l) (omega arith)

-- one key more
pub keys_more : (n : ℕ) (l : List ℕ) → keys_from (suc n) l ≡ keys_from n l ++ (key_in (record_body (records_from n l)) ∷ [])
unfolding keys_from records_from
keys_more zero l = refl
keys_more (suc n) l = ap (λ (ks : List Key). key_in (record_body l) ∷ ks) (keys_more n (drop (record_length l) l))

pub records_more : (n : ℕ) (l : List ℕ) → KeyRecords n l → KeyRecord (records_from n l) → KeyRecords (suc n) l
records_more n l r k = record { each = λ i h. go i (eq-or-lt_of_le (le_of_suc-le-suc h)) }
  where
    go : (i : ℕ) → (i ≡ n) ⊎ (i < n) → KeyRecord (records_from i l)
    go i (inl e) = subst (λ (j : ℕ). KeyRecord (records_from j l)) (sym e) k
    go i (inr less) = r.each i less

-- What holds after n records of a profile
record KeysAt (bytes : List ℕ) (n : ℕ) (p : Profile) (rest : List ℕ) : Type 0 where
  here : rest ≡ records_from n bytes
  counted : n ≡ first_entry bytes + length p.labels + length p.keys
  are : keys_from (length p.keys) (records_from (first_entry bytes + length p.labels) bytes) ≡ p.keys
  records : KeyRecords (length p.keys) (records_from (first_entry bytes + length p.labels) bytes)

none_read : (bytes : List ℕ) (n : ℕ) (p : Profile) (rest : List ℕ) → rest ≡ records_from n bytes → n ≡ first_entry bytes + length p.labels → p.keys ≡ [] → KeysAt bytes n p rest
unfolding keys_from
none_read bytes n p rest h c e =
    record {
      here = h;
      counted = omega (arith, ap length e);
      are = rw e;
      records = record { each = λ i less. absurd (omega (arith, ap length e)) };
    }

keys_kept : (bytes : List ℕ) (n : ℕ) (p : Profile) (l : List ℕ) → KeysAt bytes n p l → 0 < length l → first_of (profile_tests p l) ≡ 0
    → KeysAt bytes (suc n) (profile_next p l) (drop (record_length l) l)
keys_kept bytes n p l g h e =
    let next : drop (record_length l) l ≡ records_from (suc n) bytes =
    ap (λ (m : List ℕ). drop (record_length m) m) g.here ∙ sym (records_next n bytes) in
    ⊎_elim
    (λ (a : LabelAccepted p l).
    rw (next_label p l a.kind)
    (none_read bytes (suc n) _ _ next
    (omega (arith, g.counted, ap length a.before_keys, length_more p.labels (read_label (record_body l))))
    a.before_keys))
    (λ (a : KeyRecordAccepted p l).
    let part : List ℕ = records_from (first_entry bytes + length p.labels) bytes in
    let m : ℕ = length p.keys in
    let stands : l ≡ records_from m part = g.here ∙ ap (λ (j : ℕ). records_from j bytes) g.counted ∙ records_add (first_entry bytes + length p.labels) m bytes in
    let more : length (p.keys ++ (key_in (record_body l) ∷ [])) ≡ suc m = length_more p.keys (key_in (record_body l)) in
    let key : KeyRecord l = record { is_whole = a.is_whole; kind = a.kind } in
    rw (next_key p l a.kind)
    (record {
      here = next;
      counted = omega (arith, g.counted, more);
      are =
          ap (λ (j : ℕ). keys_from j part) more ∙ keys_more m part
          ∙ ap (λ (ks : List Key). ks ++ (key_in (record_body (records_from m part)) ∷ [])) g.are
          ∙ ap (λ (x : List ℕ). p.keys ++ (key_in (record_body x) ∷ [])) (sym stands);
      records = subst (λ (j : ℕ). KeyRecords j part) (sym more) (records_more m part g.records (subst KeyRecord stands key));
    }))
    (profile_accepted p l e)

at_stop : (bytes : List ℕ) → Stopped profile_tests (KeysAt bytes) (profile_walked bytes)
unfolding profile_walked
at_stop bytes =
    walk_keeps profile_tests profile_next (KeysAt bytes) profile_long (keys_kept bytes) (first_entry bytes) no_profile (behind_edition bytes)
    (none_read bytes (first_entry bytes) no_profile (behind_edition bytes) (behind_here bytes) (omega arith) refl)

-- "Rule 0 cites key number *first premise* of the profile": the keys behind the labels are the profile's
pub profile_keys_are : (bytes : List ℕ) → keys_from (length (keys_in bytes)) (records_from (first_entry bytes + length (labels_in bytes)) bytes) ≡ keys_in bytes
unfolding keys_in labels_in profile_in
profile_keys_are bytes = (at_stop bytes).held.are

pub profile_key_records : (bytes : List ℕ) → KeyRecords (length (keys_in bytes)) (records_from (first_entry bytes + length (labels_in bytes)) bytes)
unfolding keys_in labels_in profile_in
profile_key_records bytes = (at_stop bytes).held.records
