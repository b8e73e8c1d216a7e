-- The keys of a profile from the first record that is no label's, beside the walk of `meaning`.
use Rattle.std.specs.Prelude.{ℕ, zero, suc, ◌+◌, ◌-◌, ◌≤◌, ◌<◌, ◌≡◌, Bool, true, false, ◌||◌, Result, Ok, Err, length, take}
use Rattle.std.proofs.Math.Path.{refl, sym, ap}
use Rattle.std.proofs.Common.{subst, ap₂, ◌∙◌, arith, add-zero, add-suc, add-one}
use mathlib.Core.List.{List, [], ◌∷◌, ◌++◌}
use borrow.Author.Rules.{part_to_end}
use Rattle.std.proofs.Math.ListN.{drop, length-drop}
use Rattle.meaning.specs.Lists.{every, any, same}
use Rattle.meaning.specs.Paths.{Label}
use Rattle.meaning.specs.Keys.{Key}
use Rattle.meaning.specs.Records.{word, record_length, record_body, read_key, key_in, is_some}
use Rattle.meaning.specs.Refusals.{walk, first_of, key_twice, Profile, profile_tests, profile_next}
use Rattle.meaning.specs.Operations.{records_from}
use Rattle.read_record.specs.Classes.{Tabled, key_tests_by}
use Rattle.read_judged.specs.Answers.{number_of}
use Rattle.read_judged.specs.declared.Fault.{Fault}
use Rattle.theory_records.specs.Bytes.{Bytes, bytes_drop}
use Rattle.theory_records.specs.Tests.{numbered, first_stops, first_passes, first_holds, first_fails}
use Rattle.theory_records.specs.KeyBodies.{key_in_written}
use Rattle.theory_records.specs.HeadTests.{head_tests, head_passed, body_part}
use Rattle.theory_records.specs.Walks.{walk_step, walk_stop, walk_end}
use Rattle.theory_records.specs.Profiles.{profile_long, next_key}
use Rattle.theory_records.specs.Bodies.{records_next}
use Rattle.theory_records.specs.KeyPlaces.{keys_from, KeyRecord, key_shape, KeyRecords, keys_length, keys_more, records_more}
use Rattle.read_entry.specs.Repeats.{any_record, Standing, none, more}
use Rattle.read_entry.specs.Keys.{key_record_tests_by}
use Rattle.read_entry.specs.Agree.{is_label_record, key_record_agrees}

abbrev pub labelled : List Label → Profile
labelled labels = record { labels = labels; keys = [] }

-- What came of the keys: with these labels read before, the walk comes to this number after so many keys
pub record KeysCame (labels : List Label) (n : ℕ) (bytes : List ℕ) (number keys : ℕ) : Type 0 where
  pub state : Profile
  pub walked : walk profile_tests profile_next 0 n (labelled labels) bytes ≡ record { number = number; at = n + keys; state = state }
  pub same : state.labels ≡ labels
  pub counted : keys ≡ length state.keys

pub record KeysSay (classes bytes : List ℕ) (number keys : ℕ) : Type 0 where
  pub few : keys ≤ length bytes
  pub came : (labels : List Label) → Tabled labels classes → (n : ℕ) → KeysCame labels n bytes number keys

-- so many keys and no fault; or the first fault, after so many keys
abbrev pub KeysTold : (classes bytes : List ℕ) → Result ℕ Fault → Type 0
KeysTold classes bytes (Ok keys) = KeysSay classes bytes 0 keys
KeysTold classes bytes (Err fault) = KeysSay classes bytes (number_of fault.kind) fault.place

-- The loop stands after so many keys
pub record KeysGoing (labels : List Label) (n : ℕ) (bytes : List ℕ) (keys : ℕ) (rest : List ℕ) : Type 0 where
  pub state : Profile
  pub same : state.labels ≡ labels
  pub are : state.keys ≡ keys_from keys bytes
  pub walks : walk profile_tests profile_next 0 (n + keys) state rest ≡ walk profile_tests profile_next 0 n (labelled labels) bytes

pub record KeysLoop (classes bytes : List ℕ) (keys : ℕ) (rest : List ℕ) : Type 0 where
  pub size : keys + length rest ≤ length bytes
  pub small : Bytes rest
  pub here : rest ≡ records_from keys bytes
  pub records : KeyRecords keys bytes
  pub first : keys ≡ 0 → is_label_record rest ≡ false
  pub going : (labels : List Label) → Tabled labels classes → (n : ℕ) → KeysGoing labels n bytes keys rest

counted : {labels : List Label} {n : ℕ} {bytes : List ℕ} {keys : ℕ} {rest : List ℕ} (g : KeysGoing labels n bytes keys rest) → keys ≡ length g.state.keys
counted {bytes = bytes} {keys = keys} g = sym (keys_length keys bytes) ∙ ap length (sym g.are)

pub keys_start : (classes bytes : List ℕ) → Bytes bytes → is_label_record bytes ≡ false → KeysLoop classes bytes 0 bytes
unfolding records_from keys_from
keys_start classes bytes small e =
    record {
      size = omega arith;
      small = small;
      here = refl;
      records = record { each = λ i h. absurd (omega arith) };
      first = λ q. e;
      going = λ labels t n.
          record {
            state = labelled labels;
            same = refl;
            are = refl;
            walks = ap (λ (m : ℕ). walk profile_tests profile_next 0 m (labelled labels) bytes) (add-zero n);
          };
    }

-- an accepted key record, as the code has it
pub record KeyHere (rest : List ℕ) : Type 0 where
  pub head : 4 ≤ length rest
  pub long : 4 ≤ word rest 0
  pub within : word rest 0 ≤ length rest

key_record : (classes : List ℕ) (keys : ℕ) (rest : List ℕ) {r : ℕ} → r ≡ first_of (key_record_tests_by classes keys rest) → r ≡ 0 → KeyRecord rest
unfolding key_record_tests_by
key_record classes keys rest given e =
    let p = head_passed 2 64 keys rest _ (sym given ∙ e) in record { is_whole = p.is_whole; kind = p.is_kind }

pub key_here : (classes : List ℕ) (keys : ℕ) (rest : List ℕ) {r : ℕ} → r ≡ first_of (key_record_tests_by classes keys rest) → r ≡ 0 → KeyHere rest
unfolding record_length
key_here classes keys rest given e =
    let w = (key_record classes keys rest given e).is_whole in record { head = w.head; long = w.long; within = w.within }

-- the keys before, as the code looks at them
pub standing_keys : (n : ℕ) (l : List ℕ) → KeyRecords n l → Standing 4 n l
unfolding records_from
standing_keys zero l r = none
standing_keys (suc n) l r =
    let w = (r.each 0 (omega arith)).is_whole in
    more w.long w.within (standing_keys n (drop (record_length l) l) (record { each = λ i h. r.each (suc i) (omega arith) }))

keys_twice_are : (n : ℕ) (l : List ℕ) → KeyRecords n l → (body : List ℕ) → is_some (read_key body) ≡ true
    → any_record 4 body n l ≡ key_twice (keys_from n l) (key_in body)
unfolding any_record key_twice keys_from any records_from record_body
keys_twice_are zero l r body shape = refl
keys_twice_are (suc n) l r body shape =
    ap₂ ◌||◌
    (ap₂ same (sym (key_in_written (record_body l) (key_shape (r.each 0 (omega arith))))) (sym (key_in_written body shape)))
    (keys_twice_are n (drop (record_length l) l) (record { each = λ i h. r.each (suc i) (omega arith) }) body shape)

record_numbered : (classes : List ℕ) (keys : ℕ) (l : List ℕ) → numbered (key_record_tests_by classes keys l) ≡ true
unfolding numbered every key_record_tests_by head_tests key_tests_by
record_numbered classes keys l = refl

module _ {classes bytes : List ℕ} {keys : ℕ} {rest : List ℕ} (loop : KeysLoop classes bytes keys rest) {r : ℕ}
    (given : r ≡ first_of (key_record_tests_by classes keys rest)) (some : 0 < length rest) where
  abbrev twice : List (ℕ × Bool)
  twice = (15, key_twice (keys_from keys bytes) (key_in (record_body rest))) ∷ []

  key_given : (labels : List Label) (tabled : Tabled labels classes) (n : ℕ)
      → first_of (profile_tests (loop.going labels tabled n).state rest) ≡ first_of (key_record_tests_by classes keys rest ++ twice)
  key_given labels tabled n =
      let g = loop.going labels tabled n in
      sym (key_record_agrees tabled rest loop.small g.state g.same (keys_from keys bytes) g.are keys (sym (keys_length keys bytes)) loop.first)

  -- a number is given here
  stops : (m : ℕ) → first_of (key_record_tests_by classes keys rest ++ twice) ≡ suc m → KeysSay classes bytes (suc m) keys
  stops m e =
      record {
        few = omega (arith, loop.size);
        came = λ labels tabled n.
            let g = loop.going labels tabled n in
            record {
              state = g.state;
              walked = sym g.walks ∙ walk_stop profile_tests profile_next (n + keys) m g.state rest some (key_given labels tabled n ∙ e);
              same = g.same;
              counted = counted g;
            };
      }

  -- 7, 1, 2, 4, 5 or 6
  pub keys_stop : (r ≡ 0 → ⊥) → KeysSay classes bytes r keys
  keys_stop e = go r refl
    where
      go : (m : ℕ) → r ≡ m → KeysSay classes bytes r keys
      go zero q = absurd (e q)
      go (suc m) q = subst (λ (k : ℕ). KeysSay classes bytes k keys) (sym q) (stops m (first_stops _ twice m (sym given ∙ q)))

  -- none of these; then 15
  module _ (e : r ≡ 0) {k : ℕ} (q : k ≡ word rest 0) {b : Bool} (used : b ≡ any_record 4 (take (k - 4) (drop 4 rest)) keys bytes) where
    its : KeyRecord rest
    its = key_record classes keys rest given e

    twice_is : b ≡ key_twice (keys_from keys bytes) (key_in (record_body rest))
    twice_is =
        used ∙ ap (λ (body : List ℕ). any_record 4 body keys bytes) (body_part rest q)
        ∙ keys_twice_are keys bytes loop.records (record_body rest) (key_shape its)

    passed : first_of (key_record_tests_by classes keys rest ++ twice) ≡ first_of twice
    passed = first_passes _ twice (record_numbered classes keys rest) (sym given ∙ e)

    pub keys_twice : b ≡ true → KeysSay classes bytes 15 keys
    keys_twice t = stops 14 (passed ∙ first_holds 15 [] (sym twice_is ∙ t))

    pub keys_next : b ≡ false → KeysLoop classes bytes (keys + 1) (take (length rest - k) (drop k rest))
    unfolding first_of
    keys_next t =
        rw (part_to_end rest k, q ∙ long, add-one)
        (record {
          size = omega (arith, loop.size, its.is_whole.long, its.is_whole.within, length-drop (record_length rest) rest);
          small = bytes_drop (record_length rest) loop.small;
          here = ap (λ (l : List ℕ). drop (record_length l) l) loop.here ∙ sym (records_next keys bytes);
          records = records_more keys bytes loop.records (subst KeyRecord loop.here its);
          first = λ z. absurd (omega arith);
          going = onward;
        })
      where
        long : word rest 0 ≡ record_length rest
        long = unfold record_length in refl

        x : Key
        x = key_in (record_body rest)

        onward : (labels : List Label) → Tabled labels classes → (n : ℕ) → KeysGoing labels n bytes (suc keys) (drop (record_length rest) rest)
        onward labels tabled n =
            let g = loop.going labels tabled n in
            let accepted : first_of (profile_tests g.state rest) ≡ 0 =
            key_given labels tabled n ∙ (passed ∙ first_fails 15 [] (sym twice_is ∙ t)) in
            let next : Profile = record { labels = g.state.labels; keys = g.state.keys ++ (x ∷ []) } in
            record {
              state = next;
              same = g.same;
              are =
                  ap₂ (λ (ks : List Key) (l : List ℕ). ks ++ (key_in (record_body l) ∷ [])) g.are loop.here ∙ sym (keys_more keys bytes);
              walks =
                  ap (λ (m : ℕ). walk profile_tests profile_next 0 m next (drop (record_length rest) rest)) (add-suc n keys)
                  ∙ (ap (λ (s : Profile). walk profile_tests profile_next 0 (suc (n + keys)) s (drop (record_length rest) rest))
                  (sym (next_key g.state rest its.kind))
                  ∙ (sym (walk_step profile_tests profile_next (n + keys) g.state rest some accepted (profile_long g.state rest some accepted))
                  ∙ g.walks));
            }

pub keys_end : {classes bytes : List ℕ} {keys : ℕ} {rest : List ℕ} → KeysLoop classes bytes keys rest → length rest ≤ 0 → KeysSay classes bytes 0 keys
keys_end {keys = keys} {rest = []} loop h =
    record {
      few = omega (arith, loop.size);
      came = λ labels tabled n.
          let g = loop.going labels tabled n in
          record {
            state = g.state;
            walked = sym g.walks ∙ walk_end profile_tests profile_next (n + keys) g.state;
            same = g.same;
            counted = counted g;
          };
    }
keys_end {rest = b ∷ rest} loop h = absurd (omega arith)
