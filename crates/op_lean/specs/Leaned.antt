-- The reduced profile as the code writes it, from an accepted profile and the flags of its keys.
use Prim.Native.Nat.{ℕ, zero, suc, ◌+◌, ◌-◌, ◌≤◌}
use Rattle.std.specs.Prelude.{◌≡◌, Bool, take, drop}
use Rattle.std.proofs.Common.{sym, ap₂, subst, ◌∙◌, arith, length-append, length-drop, length-take}
use Rattle.std.proofs.Math.Path.{ap}
use mathlib.Core.List.{List, [], ◌++◌, map, flatten, append_assoc}
use Rattle.std.proofs.Math.ListN.{length}
use Rattle.meaning.specs.Limits.{in_profile}
use Rattle.meaning.specs.Lists.{Each}
use Rattle.meaning.specs.Keys.{Key}
use Rattle.meaning.specs.Records.{record_length, label_bytes}
use Rattle.meaning.specs.Refusals.{first_entry, profile_refusal}
use Rattle.meaning.specs.Operations.{records_from, second_in, labels_in, keys_in}
use Rattle.meaning.specs.Operations.{entries_written, edition_written, profile_written}
use Rattle.meaning.specs.Reduction.{staying, Reduction, lean_profile}
use Rattle.theory_paths.specs.Good.{GoodKey}
use Rattle.theory_records.specs.Bytes.{Bytes}
use Rattle.theory_records.specs.Profiles.{profile_accepts, accepted_labels, accepted_keys, accepted_few}
use Rattle.theory_records.specs.KeyPlaces.{keys_from, KeyRecords, profile_keys_are, profile_key_records}
use Rattle.theory_reduce.specs.Placed.{keys_written, part_written, bytes_records, profile_cut}
use Rattle.read_record.specs.Classes.{Tabled}
use Rattle.write_bytes.specs.Wrote.{Wrote, wrote_more, wrote_is}
use Rattle.write_chosen.specs.declared.records.Chosen.{Chosen}
use Rattle.write_chosen.specs.Choosing.{Choosable, Chose}
use Rattle.op_lean_keys.specs.Searching.{KeyedBy, Keyed}
use Rattle.op_lean_keys.specs.Turning.{Reduced}

-- an accepted profile, and what was read of it
pub record Accepted (profile : List ℕ) (before keys : ℕ) (classes : List ℕ) (second : Bool) : Type 0 where
  pub sound : (profile_refusal profile).number ≡ 0
  pub edition : second ≡ second_in profile
  pub before_keys : before ≡ first_entry profile + length (labels_in profile)
  pub key_count : keys ≡ length (keys_in profile)
  pub tabled : Tabled (labels_in profile) classes
  pub long : length classes ≡ 256

module _ {profile : List ℕ} {before keys : ℕ} {classes : List ℕ} {second : Bool} (a : Accepted profile before keys classes second) {part : List ℕ}
    (is : part ≡ records_from before profile) where
  stands : part ≡ records_from (first_entry profile + length (labels_in profile)) profile
  stands = is ∙ ap (λ (n : ℕ). records_from n profile) a.before_keys

  pub accepted_keys_are : keys_from keys part ≡ keys_in profile
  accepted_keys_are = ap₂ keys_from a.key_count stands ∙ profile_keys_are profile

  by : KeyedBy (labels_in profile) part keys classes
  by =
      record {
        good_labels = accepted_labels profile a.sound;
        tabled = a.tabled;
        long = a.long;
        few = omega (arith, a.key_count, accepted_few profile a.sound);
        records =
            subst (λ (n : ℕ). KeyRecords n part) (sym a.key_count) (subst (KeyRecords (length (keys_in profile))) (sym stands) (profile_key_records profile));
        good = subst (Each (GoodKey (labels_in profile) in_profile)) (sym accepted_keys_are) (accepted_keys profile a.sound);
      }

  -- what the search for the keys that stay is given, and what it answers of the profile
  pub accepted_keyed : Keyed part keys classes
  accepted_keyed = record { labels = labels_in profile; by = by }

  pub accepted_reduction : {stays : List Bool} → Reduced part keys classes second stays
      → Reduction (second_in profile) (labels_in profile) [] (keys_in profile) (take keys stays)
  accepted_reduction {stays} r =
      subst (λ (b : Bool). Reduction b (labels_in profile) [] (keys_in profile) (take keys stays)) a.edition
      (subst (λ (ks : List Key). Reduction second (labels_in profile) [] ks (take keys stays)) accepted_keys_are (r.reduction (labels_in profile) by))

  pub accepted_records : KeyRecords keys part
  accepted_records = by.records

  pub accepted_count : keys ≤ 64
  accepted_count = by.few

-- what writing it is given: the part from the first key on, and the flags
pub record Cut (out profile part : List ℕ) (keys : ℕ) (stays : List Bool) : Type 0 where
  pub sound : (profile_refusal profile).number ≡ 0
  pub is_part : part ≡ records_from (first_entry profile + length (labels_in profile)) profile
  pub key_count : keys ≡ length (keys_in profile)
  pub size : length stays ≡ 64
  pub room : 16384 ≤ length out

pub accepted_cut : {profile : List ℕ} {before keys : ℕ} {classes : List ℕ} {second : Bool} → Accepted profile before keys classes second → {part : List ℕ}
    → part ≡ records_from before profile → {stays : List Bool} → Reduced part keys classes second stays → {out : List ℕ} → 16384 ≤ length out
    → Cut out profile part keys stays
accepted_cut a is r room = record { sound = a.sound; is_part = stands a is; key_count = a.key_count; size = r.size; room = room }

-- "profile 16,384 bytes"
pub profile_room : (out : List ℕ) → length out ≡ 16384 → 16384 ≤ length out
profile_room out e = omega arith

-- the reduced profile from the front on
pub record PutLean (out end profile : List ℕ) (stays : List Bool) (r : Chosen) : Type 0 where
  pub wrote : Wrote out end 0 (lean_profile profile stays) r.end
  pub counted : r.count ≡ length (staying stays (keys_in profile))

records_shorter : (n : ℕ) (l : List ℕ) → length (records_from n l) ≤ length l
unfolding records_from
records_shorter zero l = omega arith
records_shorter (suc n) l = omega (arith, records_shorter n (drop (record_length l) l), length-drop (record_length l) l)

module _ {out profile part : List ℕ} {keys : ℕ} {stays : List Bool} (c : Cut out profile part keys stays) where
  pub cut_within : length part ≤ length profile
  cut_within = omega (arith, ap length c.is_part, records_shorter (first_entry profile + length (labels_in profile)) profile)

  pub cut_few : length profile ≤ 16384
  cut_few = (profile_accepts profile c.sound).size

  pub cut_room : 0 + length (take (length profile - length part) profile) ≤ length out
  cut_room = omega (arith, length-take (length profile - length part) profile, cut_few, c.room)

  module _ (bytes : Bytes profile) where
    part_bytes : Bytes part
    part_bytes = subst Bytes (sym c.is_part) (bytes_records (first_entry profile + length (labels_in profile)) bytes)

    are : keys_from keys part ≡ keys_in profile
    are = ap₂ keys_from c.key_count c.is_part ∙ profile_keys_are profile

    records : KeyRecords keys part
    records =
        subst (λ (n : ℕ). KeyRecords n part) (sym c.key_count) (subst (KeyRecords (length (keys_in profile))) (sym c.is_part) (profile_key_records profile))

    module _ {mid : List ℕ} {at : ℕ} (w : Wrote out mid 0 (take (length profile - length part) profile) at) where
      pub cut_choosable : Choosable mid at part keys
      cut_choosable =
          let size = ap length (part_written keys part part_bytes records) in
          let both = length-append (keys_written (keys_from keys part)) (records_from keys part) in
          let k = w.kept in
          let a = w.after in
          record {
            few = omega (arith, c.key_count, accepted_few profile c.sound);
            records = records;
            room = omega (arith, c.room, cut_within, cut_few, length-take (length profile - length part) profile);
          }

      pub cut_lean : {end : List ℕ} {r : Chosen} → Chose mid end at (staying (take keys stays) (keys_from keys part)) r
          → PutLean out end profile (take keys stays) r
      unfolding lean_profile profile_written entries_written keys_written
      cut_lean h =
          let S : List Key = staying (take keys stays) (keys_in profile) in
          let same : staying (take keys stays) (keys_from keys part) ≡ S = ap (staying (take keys stays)) are in
          let E : List ℕ = edition_written (second_in profile) in
          let L : List ℕ = flatten (map label_bytes (labels_in profile)) in
          record {
            wrote =
                wrote_is
                (ap₂ (λ (f : List ℕ) (ks : List Key). f ++ keys_written ks) (profile_cut profile c.sound bytes part c.is_part part_bytes) same
                ∙ append_assoc E L (keys_written S))
                (wrote_more w h.wrote);
            counted = h.counted ∙ ap length same;
          }
