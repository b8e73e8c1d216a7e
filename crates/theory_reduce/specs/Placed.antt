-- Key records where they stand: keys that are written one behind the other are found there, and an accepted profile is what stands before its
-- keys and then their records.
use Prim.Native.Nat.{ℕ, zero, suc, ◌+◌, ◌-◌, ◌*◌, ◌<◌, ◌≤◌}
use Rattle.std.specs.Prelude.{◌≡◌, Bool, get_or, take}
use Rattle.std.proofs.Math.Path.{refl, sym, ap, subst}
use Rattle.std.proofs.Common.{◌∙◌, length-drop}
use mathlib.Core.List.{List, [], ◌∷◌, ◌++◌, map, flatten, append_assoc, append-nil}
use native.Mathlib.Omega.{arith}
use Rattle.std.proofs.Math.ListN.{length, drop, length-append}
use Rattle.std.proofs.Math.Seq.{take_at}
use Rattle.meaning.specs.Limits.{in_profile}
use Rattle.meaning.specs.Lists.{Each, end, also}
use Rattle.meaning.specs.Paths.{Label}
use Rattle.meaning.specs.Keys.{Key}
use Rattle.meaning.specs.Records.{no_key, record_length, record_body, record_bytes, body_ends, label_bytes, key_in, key_body, key_bytes}
use Rattle.meaning.specs.Refusals.{Profile, no_profile, first_of, profile_tests, profile_next, has_edition, behind_edition, first_entry, profile_walked, profile_in, profile_refusal}
use Rattle.meaning.specs.Operations.{records_from, second_in, labels_in, keys_in}
use Rattle.meaning.specs.Operations.{entries_written, edition_written, profile_written}
use Rattle.meaning.specs.Reduction.{staying}
use Rattle.theory_paths.specs.Good.{GoodKey}
use Rattle.theory_records.specs.Bytes.{Bytes, bytes_drop}
use Rattle.theory_records.specs.Walks.{walk_keeps}
use Rattle.theory_records.specs.Heads.{whole_says, bytes_length, written_length, written_kind, written_body, written_rest}
use Rattle.theory_records.specs.KeyBodies.{key_in_read, key_is_read}
use Rattle.theory_records.specs.Encodings.{key_record_written, written_whole}
use Rattle.theory_records.specs.Profiles.{profile_long, profile_accepts, profile_written_lem}
use Rattle.theory_records.specs.Bodies.{records_next, records_add, behind_here}
use Rattle.theory_records.specs.WrittenInputs.{profile_body_size}
use Rattle.theory_records.specs.KeyPlaces.{keys_from, KeyRecord, KeyRecords, profile_keys_are, profile_key_records}
use Rattle.theory_reduce.specs.LeanProfile.{staying_size}

-- key records, one behind the other
unfoldable pub keys_written : List Key → List ℕ
keys_written keys = flatten (map key_bytes keys)

module _ (labels : List Label) where
  key_fits : (k : Key) → GoodKey labels in_profile k → 4 + length (key_body k) < 65536
  key_fits k g = omega (arith, profile_body_size labels k g)

  first_body : (k : Key) → GoodKey labels in_profile k → (rest : List ℕ) → record_body (key_bytes k ++ rest) ≡ key_body k
  unfolding key_bytes
  first_body k g rest = written_body 2 (key_body k) rest (key_fits k g)

  first_behind : (k : Key) → GoodKey labels in_profile k → (rest : List ℕ) → drop (record_length (key_bytes k ++ rest)) (key_bytes k ++ rest) ≡ rest
  unfolding key_bytes
  first_behind k g rest =
      ap (λ (n : ℕ). drop n (record_bytes 2 (key_body k) ++ rest)) (written_length 2 (key_body k) rest (key_fits k g)) ∙ written_rest 2 (key_body k) rest

  first_record : (k : Key) → GoodKey labels in_profile k → (rest : List ℕ) → KeyRecord (key_bytes k ++ rest)
  unfolding key_bytes
  first_record k g rest =
      record {
        is_whole =
            whole_says (record_bytes 2 (key_body k) ++ rest)
            (written_whole 2 (key_body k) rest (key_fits k g) (omega arith) ∙ (unfold body_ends in key_is_read k));
        kind = written_kind 2 (key_body k) rest (omega arith);
      }

  together : (k : Key) (keys : List Key) (rest : List ℕ) → keys_written (k ∷ keys) ++ rest ≡ key_bytes k ++ (keys_written keys ++ rest)
  unfolding keys_written flatten
  together k keys rest = append_assoc (key_bytes k) (keys_written keys) rest

  -- good keys are read back, whatever stands behind them
  pub keys_written_lem : {keys : List Key} → Each (GoodKey labels in_profile) keys → (rest : List ℕ)
      → keys_from (length keys) (keys_written keys ++ rest) ≡ keys
  unfolding keys_from
  keys_written_lem end rest = refl
  keys_written_lem (also {x = k} {xs = keys} g gs) rest =
      let more = keys_written_lem gs rest in
      let l : List ℕ = key_bytes k ++ (keys_written keys ++ rest) in
      ap (keys_from (suc (length keys))) (together k keys rest)
      ∙ (ap (λ (x : Key). x ∷ keys_from (length keys) (drop (record_length l) l)) (ap key_in (first_body k g (keys_written keys ++ rest)) ∙ key_in_read k)
      ∙ ap (λ (ks : List Key). k ∷ ks) (ap (keys_from (length keys)) (first_behind k g (keys_written keys ++ rest)) ∙ more))

  records_at : {keys : List Key} → Each (GoodKey labels in_profile) keys → (rest : List ℕ) (i : ℕ) → i < length keys
      → KeyRecord (records_from i (keys_written keys ++ rest))
  unfolding records_from
  records_at end rest i h = absurd (omega arith)
  records_at (also {x = k} {xs = keys} g gs) rest zero h =
      subst KeyRecord (sym (together k keys rest)) (first_record k g (keys_written keys ++ rest))
  records_at (also {x = k} {xs = keys} g gs) rest (suc i) h =
      let l : List ℕ = keys_written (k ∷ keys) ++ rest in
      let e : drop (record_length l) l ≡ keys_written keys ++ rest =
      ap (λ (x : List ℕ). drop (record_length x) x) (together k keys rest) ∙ first_behind k g (keys_written keys ++ rest) in
      subst (λ (x : List ℕ). KeyRecord (records_from i x)) (sym e) (records_at gs rest i (omega arith))

  pub records_written : {keys : List Key} → Each (GoodKey labels in_profile) keys → (rest : List ℕ)
      → KeyRecords (length keys) (keys_written keys ++ rest)
  records_written gs rest = record { each = λ i h. records_at gs rest i h }

  -- "64 keys" of "8 symbols and 4 key paths": no key record has more than 59 bytes
  pub key_size : (k : Key) → GoodKey labels in_profile k → length (key_bytes k) ≤ 59
  unfolding key_bytes
  key_size k g = omega (arith, profile_body_size labels k g, bytes_length 2 (key_body k))

  pub keys_size : {keys : List Key} → Each (GoodKey labels in_profile) keys → length (keys_written keys) ≤ 59 * length keys
  unfolding keys_written flatten
  keys_size end = omega arith
  keys_size (also {x = k} {xs = keys} g gs) = omega (arith, key_size k g, keys_size gs, length-append (key_bytes k) (keys_written keys))

-- a key more has room where all keys have it, whatever stayed of those before
pub chosen_room : (stays : List Bool) (n : ℕ) (keys : List Key) → n < length keys
    → length (keys_written (staying (take n stays) (take n keys))) + length (key_bytes (get_or keys n no_key)) ≤ length (keys_written keys)
unfolding keys_written
chosen_room stays n keys h = omega (arith, staying_size (take n stays) (take n keys), all n keys h)
  where
    all : (n : ℕ) (keys : List Key) → n < length keys
        → length (flatten (map key_bytes (take n keys))) + length (key_bytes (get_or keys n no_key)) ≤ length (flatten (map key_bytes keys))
    all n [] h = absurd (omega arith)
    all zero (k ∷ keys) h = unfold flatten in omega (arith, length-append (key_bytes k) (flatten (map key_bytes keys)))
    all (suc n) (k ∷ keys) h = let more = all n keys (omega arith) in first k (take n keys) keys more
      where
        first : (k : Key) (some every : List Key) → length (flatten (map key_bytes some)) + length (key_bytes (get_or keys n no_key)) ≤ length (flatten (map key_bytes every))
            → length (flatten (map key_bytes (k ∷ some))) + length (key_bytes (get_or keys n no_key)) ≤ length (flatten (map key_bytes (k ∷ every)))
        first k some every more =
            unfold flatten in
            omega (arith, length-append (key_bytes k) (flatten (map key_bytes some)), length-append (key_bytes k) (flatten (map key_bytes every)))

-- key n of so many
pub keys_at : (m n : ℕ) (l : List ℕ) → n < m → get_or (keys_from m l) n no_key ≡ key_in (record_body (records_from n l))
unfolding keys_from records_from
keys_at zero n l h = absurd (omega arith)
keys_at (suc m) zero l h = refl
keys_at (suc m) (suc n) l h = keys_at m n (drop (record_length l) l) (omega arith)

pub bytes_records : (n : ℕ) {l : List ℕ} → Bytes l → Bytes (records_from n l)
unfolding records_from
bytes_records zero bytes = bytes
bytes_records (suc n) {l} bytes = bytes_records n (bytes_drop (record_length l) bytes)

-- the record that stands first, as its bytes
pub front_written : (l : List ℕ) → Bytes l → KeyRecord l → take (record_length l) l ≡ key_bytes (key_in (record_body l))
front_written l bytes k =
    let e = key_record_written l bytes k.is_whole k.kind in
    let front : List ℕ = key_bytes (key_in (record_body l)) in
    let size : length front ≡ record_length l =
    (let a = ap length e in let w = k.is_whole.within in
    omega (arith, length-append front (drop (record_length l) l), length-drop (record_length l) l)) in
    ap (take (record_length l)) (sym e) ∙ take_at front (drop (record_length l) l) (record_length l) size

-- so many records are their keys' bytes
pub part_written : (n : ℕ) (l : List ℕ) → Bytes l → KeyRecords n l → keys_written (keys_from n l) ++ records_from n l ≡ l
unfolding keys_from records_from keys_written flatten
part_written zero l bytes r = refl
part_written (suc n) l bytes r =
    let rest : List ℕ = drop (record_length l) l in
    let k : Key = key_in (record_body l) in
    let here : KeyRecord l = r.each 0 (omega arith) in
    let more : keys_written (keys_from n rest) ++ records_from n rest ≡ rest =
    part_written n rest (bytes_drop (record_length l) bytes) (record { each = λ i h. r.each (suc i) (omega arith) }) in
    append_assoc (key_bytes k) (keys_written (keys_from n rest)) (records_from n rest)
    ∙ (ap (λ (x : List ℕ). key_bytes k ++ x) more ∙ key_record_written l bytes here.is_whole here.kind)

-- behind the last record of an accepted profile there is nothing
record Here (bytes : List ℕ) (n : ℕ) (rest : List ℕ) : Type 0 where
  here : rest ≡ records_from n bytes

here_kept : (bytes : List ℕ) (n : ℕ) (p : Profile) (l : List ℕ) → Here bytes n l → 0 < length l → first_of (profile_tests p l) ≡ 0
    → Here bytes (suc n) (drop (record_length l) l)
here_kept bytes n p l g h e = record { here = ap (λ (x : List ℕ). drop (record_length x) x) g.here ∙ sym (records_next n bytes) }

module _ (profile : List ℕ) (sound : (profile_refusal profile).number ≡ 0) where
  before : ℕ
  before = first_entry profile + length (labels_in profile)

  profile_end : records_from (length (keys_in profile)) (records_from before profile) ≡ []
  unfolding profile_walked before labels_in keys_in profile_in
  profile_end =
      let a = profile_accepts profile sound in
      let w =
      walk_keeps profile_tests profile_next (λ n p rest. Here profile n rest) profile_long (here_kept profile) (first_entry profile) no_profile
      (behind_edition profile) (record { here = behind_here profile }) in
      let at : (profile_walked profile).at ≡ first_entry profile + length (profile_in profile).labels + length (profile_in profile).keys =
      (let c = a.good.counted in omega arith) in
      sym (records_add (first_entry profile + length (profile_in profile).labels) (length (profile_in profile).keys) profile)
      ∙ (ap (λ (n : ℕ). records_from n profile) (sym at) ∙ (sym w.held.here ∙ w.sound a.walked))

  module _ (bytes : Bytes profile) where
    abbrev front : List ℕ
    front = edition_written (second_in profile) ++ flatten (map label_bytes (labels_in profile))

    -- an accepted profile's bytes, cut before its first key
    pub profile_cut : (part : List ℕ) → part ≡ records_from (first_entry profile + length (labels_in profile)) profile → Bytes part
        → take (length profile - length part) profile ≡ edition_written (second_in profile) ++ flatten (map label_bytes (labels_in profile))
    unfolding before profile_written entries_written second_in labels_in keys_in keys_written
    profile_cut part is small =
        let keys : List Key = keys_in profile in
        let K : List ℕ = keys_written keys in
        let E : List ℕ = edition_written (has_edition profile) in
        let L : List ℕ = flatten (map label_bytes (profile_in profile).labels) in
        let records : KeyRecords (length keys) part = subst (KeyRecords (length keys)) (sym is) (profile_key_records profile) in
        let are : keys_from (length keys) part ≡ keys = ap (keys_from (length keys)) is ∙ profile_keys_are profile in
        let none : records_from (length keys) part ≡ [] = ap (records_from (length keys)) is ∙ profile_end in
        let same : K ≡ part =
        sym (append-nil K)
        ∙ (ap (λ (x : List ℕ). K ++ x) (sym none) ∙ (ap (λ (ks : List Key). keys_written ks ++ records_from (length keys) part) (sym are)
        ∙ part_written (length keys) part small records)) in
        let all : (E ++ L) ++ K ≡ profile = append_assoc E L K ∙ profile_written_lem profile bytes (profile_accepts profile sound) in
        let size : length (E ++ L) ≡ length profile - length part = (let a = ap length all in let b = ap length same in omega (arith, length-append (E ++ L) K)) in
        ap (take (length profile - length part)) (sym all) ∙ take_at (E ++ L) K (length profile - length part) size
