-- The records of the keys that stay, one behind the other: what writing them asks, keeps and answers.
use Rattle.std.specs.Prelude.{ℕ, ◌+◌, ◌-◌, ◌≤◌, ◌<◌, ◌≡◌, Bool, true, cond, not, length, get_or, take, drop}
use Rattle.std.proofs.Math.Path.{refl, sym, ap}
use Rattle.std.proofs.Common.{subst, ◌∙◌, add-one, arith, length-take, take_all}
use Rattle.std.proofs.Math.Bool.{false}
use mathlib.Core.List.{List, [], ◌∷◌, ◌++◌, map, flatten, append-nil}
use Rattle.std.proofs.lemmas.Bool.{not-true, not-false}
use borrow.Author.Rules.{part_to_end}
use Rattle.meaning.specs.Keys.{Key}
use Rattle.meaning.specs.Records.{no_key, record_length, record_body, key_in, key_bytes}
use Rattle.meaning.specs.Operations.{records_from}
use Rattle.meaning.specs.Reduction.{staying}
use Rattle.theory_records.specs.Bytes.{Bytes}
use Rattle.theory_records.specs.Bodies.{records_next}
use Rattle.theory_records.specs.Profiles.{flat_more, length_more}
use Rattle.theory_records.specs.KeyPlaces.{keys_from, KeyRecord, KeyRecords, keys_length}
use Rattle.theory_reduce.specs.StayingKeys.{staying_next}
use Rattle.theory_reduce.specs.LeanProfile.{staying_few}
use Rattle.theory_reduce.specs.Placed.{keys_written, chosen_room, keys_at, bytes_records, front_written}
use Rattle.write_bytes.specs.Wrote.{Wrote, wrote_none, wrote_more, wrote_is}
use Rattle.write_chosen.specs.declared.records.Chosen.{Chosen}

-- one record, where its key stays
pub record PutIf (out end : List ℕ) (chosen : Chosen) (bytes : List ℕ) (stays : Bool) (r : Chosen) : Type 0 where
  pub wrote : Wrote out end chosen.end (cond stays bytes []) r.end
  pub counted : r.count ≡ chosen.count + cond stays 1 0

module _ (out : List ℕ) (chosen : Chosen) (bytes : List ℕ) (stays : Bool) where
  pub put_not : not stays ≡ true → chosen.end + length bytes ≤ length out → PutIf out out chosen bytes stays chosen
  put_not e room =
      rw (not-true stays e) (record { wrote = wrote_none out chosen.end (omega arith); counted = omega arith })

  pub put_one : not stays ≡ false → {end : List ℕ} {next : ℕ} → Wrote out end chosen.end bytes next
      → PutIf out end chosen bytes stays (record { end = next; count = chosen.count + 1 })
  put_one e w = rw (not-false stays e) (record { wrote = w; counted = refl })

-- the part has so many key records, and there is room for all of them
pub record Choosable (out : List ℕ) (at : ℕ) (part : List ℕ) (keys : ℕ) : Type 0 where
  pub few : keys ≤ 64
  pub records : KeyRecords keys part
  pub room : at + length (keys_written (keys_from keys part)) ≤ length out

-- these keys are written from the place on
pub record Chose (out end : List ℕ) (at : ℕ) (keys : List Key) (r : Chosen) : Type 0 where
  pub wrote : Wrote out end at (keys_written keys) r.end
  pub counted : r.count ≡ length keys

-- after n keys
pub record Choosing (out : List ℕ) (at : ℕ) (part : List ℕ) (keys : ℕ) (stays : List Bool) (end rest : List ℕ) (chosen : Chosen) (n : ℕ) : Type 0 where
  pub here : rest ≡ records_from n part
  pub within : n ≤ keys
  pub chose : Chose out end at (staying (take n stays) (take n (keys_from keys part))) chosen

module _ {out : List ℕ} {at : ℕ} {part : List ℕ} {keys : ℕ} (o : Choosable out at part keys) (stays : List Bool) where
  pub choosing_start : Choosing out at part keys stays out part (record { end = at; count = 0 }) 0
  unfolding records_from keys_written staying flatten
  choosing_start =
      record { here = refl; within = omega arith; chose = record { wrote = wrote_none out at (omega (arith, o.room)); counted = refl } }

  module _ (long : length stays ≡ 64) {end rest : List ℕ} {chosen : Chosen} {n : ℕ} (c : Choosing out at part keys stays end rest chosen n) where
    module _ (h : n < keys) {stop : ℕ} (e : stop ≡ record_length rest) where
      stands : KeyRecord rest
      stands = subst KeyRecord (sym c.here) (o.records.each n h)

      pub choosing_long : stop ≤ length rest
      choosing_long = omega (arith, stands.is_whole.within)

      module _ (bytes : Bytes part) where
        here_written : take stop rest ≡ key_bytes (get_or (keys_from keys part) n no_key)
        here_written =
            ap (λ (k : ℕ). take k rest) e
            ∙ (front_written rest (subst Bytes (sym c.here) (bytes_records n bytes)) stands
            ∙ ap key_bytes (ap (λ (l : List ℕ). key_in (record_body l)) c.here ∙ sym (keys_at keys n part h)))

        pub choosing_room : chosen.end + length (take stop rest) ≤ length end
        choosing_room =
            let w = c.chose.wrote in
            let a = w.after in
            let k = w.kept in
            omega (arith, ap length here_written, o.room, chosen_room stays n (keys_from keys part) (omega (arith, keys_length keys part)))

        -- one key more
        pub choosing_next : {b : Bool} → b ≡ get_or stays n false → {end' : List ℕ} {r : Chosen} → PutIf end end' chosen (take stop rest) b r
            → {next : List ℕ} → next ≡ take (length rest - stop) (drop stop rest)
            → Choosing out at part keys stays end' next r (n + 1)
        choosing_next {b} flag {end'} {r} p q =
            let ks : List Key = keys_from keys part in
            let old : List Key = staying (take n stays) (take n ks) in
            let new : List Key = cond b (get_or ks n no_key ∷ []) [] in
            let more : staying (take (n + 1) stays) (take (n + 1) ks) ≡ old ++ new =
            ap (λ (m : ℕ). staying (take m stays) (take m ks)) (add-one n)
            ∙ (staying_next n stays ks (omega (arith, o.few)) (omega (arith, keys_length keys part))
            ∙ ap (λ (x : Bool). old ++ cond x (get_or ks n no_key ∷ []) []) (sym flag)) in
            record {
              here =
                  q ∙ part_to_end rest stop ∙ ap (λ (k : ℕ). drop k rest) e ∙ ap (λ (l : List ℕ). drop (record_length l) l) c.here
                  ∙ sym (records_next n part) ∙ ap (λ (k : ℕ). records_from k part) (sym (add-one n));
              within = omega arith;
              chose =
                  subst (λ (l : List Key). Chose out end' at l r) (sym more)
                  (record {
                    wrote = wrote_is (written_more b old) (wrote_more c.chose.wrote p.wrote);
                    counted = p.counted ∙ (ap (λ (m : ℕ). m + cond b 1 0) c.chose.counted ∙ count_more b old);
                  });
            }
          where
            written_more : (x : Bool) (old : List Key)
                → keys_written old ++ cond x (take stop rest) [] ≡ keys_written (old ++ cond x (get_or (keys_from keys part) n no_key ∷ []) [])
            written_more true old =
                unfold keys_written in
                ap (λ (l : List ℕ). flatten (map key_bytes old) ++ l) here_written ∙ sym (flat_more key_bytes old (get_or (keys_from keys part) n no_key))
            written_more false old = append-nil (keys_written old) ∙ ap keys_written (sym (append-nil old))

            count_more : (x : Bool) (old : List Key) → length old + cond x 1 0 ≡ length (old ++ cond x (get_or (keys_from keys part) n no_key ∷ []) [])
            count_more true old = omega (arith, length_more old (get_or (keys_from keys part) n no_key))
            count_more false old = omega (arith, ap length (append-nil old))

    pub choosing_count : n < keys → chosen.count < 64
    choosing_count h =
        omega (arith, c.chose.counted, o.few, staying_few (take n stays) (take n (keys_from keys part)), length-take n (keys_from keys part))

    pub choosing_end : keys ≤ n → Chose out end at (staying (take keys stays) (keys_from keys part)) chosen
    choosing_end h =
        let same : n ≡ keys = (let w = c.within in omega arith) in
        subst (λ (l : List Key). Chose out end at l chosen)
        (ap (λ (m : ℕ). staying (take m stays) (take m (keys_from keys part))) same
        ∙ ap (staying (take keys stays)) (take_all keys (keys_from keys part) (omega (arith, keys_length keys part))))
        c.chose
