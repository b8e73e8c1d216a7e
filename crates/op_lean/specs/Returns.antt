-- What the readers found, put into the order of refusals, and one law for each return.
use Rattle.std.specs.Prelude.{ℕ, ◌+◌, ◌-◌, ◌≤◌, ◌<◌, ◌≡◌, refl, Bool, true, false, cond, not, replicate, Result, Ok, Err}
use Rattle.std.proofs.Common.{sym, ap₂, ◌∙◌, arith}
use Rattle.std.proofs.Math.Path.{ap, subst}
use mathlib.Core.List.{List, [], ◌++◌}
use Rattle.std.proofs.Math.Option.{some}
use borrow.Author.Tests.{not-true, not-false}
use Rattle.std.proofs.Math.ListN.{length, get_elem?, take}
use Rattle.meaning.specs.Paths.{Label}
use Rattle.meaning.specs.Keys.{Key}
use Rattle.meaning.specs.Records.{record_length, record_body, key_in, key_bytes}
use Rattle.meaning.specs.Refusals.{sound, first_entry}
use Rattle.meaning.specs.Refusals as Table
use Rattle.meaning.specs.Operations.{Answer, Verdict, Decides, refused_by, filled, reduced, drop_proved, implied, not_implied, records_from, second_in, keys_in}
use Rattle.meaning.specs.Reduction.{lean_profile, dropped_numbers, Reduces, ProvesDropped}
use Rattle.theory_records.specs.Bytes.{Bytes}
use Rattle.theory_records.specs.KeyPlaces.{KeyRecord, key_at}
use Rattle.theory_reduce.specs.Numbers.{Listed, listed_take, listed_zeros}
use Rattle.theory_reduce.specs.Placed.{bytes_records, front_written}
use Rattle.theory_reduce.specs.LeanProfile.{lean_accepted, lean_edition, lean_labels, lean_keys, dropped_asked}
use Rattle.theory_reduce.specs.LeanAnswers.{reduces_small, reduces_refused, reduces_filled, proves_small, proves_refused, proves_none, proves_used}
use Rattle.read_record.specs.Classes.{Tabled}
use Rattle.op_answers.specs.declared.Refusal.{Refusal}
use Rattle.op_answers.specs.declared.Decision.{Decision}
use Rattle.op_answers.specs.declared.Decision.TheVariants.{Implied, NotImplied}
use Rattle.op_answers.specs.Cases.{meant, used_of, deciding_answer}
use Rattle.op_accept.specs.Taken.{ProfileStops}
use Rattle.read_inputs.specs.Accepted.{GivenProfile, Given}
use Rattle.write_bytes.specs.Wrote.{wrote_front, wrote_part}
use Rattle.write_chosen.specs.declared.records.Chosen.{Chosen}
use Rattle.write_chosen.specs.declared.numbers.Dropped.{Dropped}
use Rattle.write_chosen.specs.Dropping.{is_gone, gone_says, gone_not}
use Rattle.op_lean_keys.specs.Turning.{Reduced}
use Rattle.op_lean.specs.declared.Lean.{Lean}
use Rattle.op_lean.specs.Leaned.{Accepted, PutLean, accepted_reduction, accepted_count, accepted_keys_are, accepted_records}

-- a proof's bytes
abbrev pub proof_of : Decision → ℕ
proof_of (Implied used) = used
proof_of (NotImplied used) = used

first_entry_lem : (one two : List ℕ) → second_in one ≡ second_in two → first_entry one ≡ first_entry two
unfolding second_in first_entry
first_entry_lem one two e = ap (λ (b : Bool). cond b 1 0) e

-- what an operation that reduces says: the numbers of the dropped keys, and 0 behind them; a refusal drops no key
abbrev pub Reducing : (profile buffer after : List ℕ) → Result Lean Refusal → Type 0
Reducing profile buffer after (Ok lean) =
    Reduces profile buffer (used_of reduced lean.used after) (take lean.count lean.dropped)
    × (lean.dropped ≡ take lean.count lean.dropped ++ replicate (64 - lean.count) 0)
    × (lean.count ≡ length (take lean.count lean.dropped))
Reducing profile buffer after (Err r) = Reduces profile buffer (refused_by (meant r) after) []

module _ (profile buffer : List ℕ) (r : Refusal) where
  pub reduce_short : length buffer < 65536 → meant r ≡ record { number = 14; input = 4; place = 0 } → Reducing profile buffer buffer (Err r)
  reduce_short h e = subst (λ (x : Table.Refusal). Reduces profile buffer (refused_by x buffer) []) (sym e) (reduces_small profile buffer h)

  pub prove_short : (n : ℕ) → length buffer < 65536 → meant r ≡ record { number = 14; input = 4; place = 0 } → ProvesDropped profile n buffer (refused_by (meant r) buffer)
  prove_short n h e = subst (λ (x : Table.Refusal). ProvesDropped profile n buffer (refused_by x buffer)) (sym e) (proves_small profile buffer n h)

  pub reduce_stops : 65536 ≤ length buffer → ProfileStops profile r → Reducing profile buffer buffer (Err r)
  reduce_stops room stops = reduces_refused profile buffer room (meant r) (sym stops.is) stops.named

  pub prove_stops : (n : ℕ) → 65536 ≤ length buffer → ProfileStops profile r → ProvesDropped profile n buffer (refused_by (meant r) buffer)
  prove_stops n room stops = proves_refused profile buffer n room (meant r) (sym stops.is) stops.named

-- what is given further
pub found_accepted : {profile classes : List ℕ} {second : Bool} {before keys : ℕ} → GivenProfile profile second before keys classes → length classes ≡ 256
    → Accepted profile before keys classes second
found_accepted g size =
    record {
      sound = g.accepted_profile;
      edition = g.edition;
      before_keys = g.before_keys;
      key_count = g.key_count;
      tabled = g.tabled;
      long = size;
    }

module _ {profile : List ℕ} {before keys : ℕ} {classes : List ℕ} {second : Bool} (a : Accepted profile before keys classes second)
    (buffer : List ℕ) (room : 65536 ≤ length buffer) {part : List ℕ} (is : part ≡ records_from before profile)
    {stays : List Bool} (r : Reduced part keys classes second stays) where
  -- the reduced profile
  pub reduce_fills : {after : List ℕ} {chosen : Chosen} → PutLean buffer after profile (take keys stays) chosen → {gone : Dropped}
      → Listed gone.numbers gone.count (dropped_numbers (take keys stays))
      → Reducing profile buffer after (Ok (record { used = chosen.end; dropped = gone.numbers; count = gone.count }))
  unfolding filled
  reduce_fills {after} {chosen} p {gone} l =
      let w = wrote_front p.wrote in (
        subst (λ (d : List ℕ). Reduces profile buffer (used_of reduced chosen.end after) d) (sym (listed_take l))
            (subst (λ (x : Answer). Reduces profile buffer x (dropped_numbers (take keys stays)))
            (ap₂ (λ (n : ℕ) (b : List ℕ). used_of reduced n b) (sym w.0) (sym w.1))
            (reduces_filled profile buffer room a.sound (take keys stays) (accepted_reduction a is r))),
        listed_zeros l,
        l.counted ∙ ap length (sym (listed_take l)),
      )

  module _ (n : ℕ) {b : Bool} (e : b ≡ is_gone keys stays n) where
    fits : keys ≤ length stays
    fits = omega (arith, accepted_count a is, r.size)

    -- "for a number not dropped a call gives 0 bytes"
    pub prove_none : not b ≡ true → ProvesDropped profile n buffer (used_of drop_proved 0 buffer)
    unfolding filled
    prove_none k =
        proves_none profile buffer n room a.sound (take keys stays) (accepted_reduction a is r)
        (gone_not keys stays n fits (sym e ∙ not-true b k))

    module _ (k : not b ≡ false) where
      gone : (n < keys) × (get_elem? (take keys stays) n ≡ some false)
      gone = gone_says keys stays n fits (sym e ∙ not-false b k)

      -- the dropped key's record stands in the part
      key : Key
      key = key_in (record_body (records_from n part))

      stands : get_elem? (keys_in profile) n ≡ some key
      unfolding key
      stands = ap (λ (ks : List Key). get_elem? ks n) (sym (accepted_keys_are a is)) ∙ key_at keys n part gone.0

      module _ {rest : List ℕ} (there : rest ≡ records_from n part) {size : ℕ} (long : size ≡ record_length rest) where
        here : KeyRecord rest
        here = subst KeyRecord (sym there) ((accepted_records a is).each n gone.0)

        pub proof_within : size ≤ length rest
        proof_within = omega (arith, here.is_whole.within)

        module _ (bytes : Bytes profile) where
          part_bytes : Bytes part
          part_bytes = subst Bytes (sym is) (bytes_records before bytes)

          asked_is : take size rest ≡ key_bytes key
          unfolding key
          asked_is =
              ap (λ (m : ℕ). take m rest) long
              ∙ (front_written rest (subst Bytes (sym there) (bytes_records n part_bytes)) here ∙ ap (λ (l : List ℕ). key_bytes (key_in (record_body l))) there)

          module _ {out lean : List ℕ} {chosen : Chosen} (p : PutLean out lean profile (take keys stays) chosen) where
            lean_is : take chosen.end lean ≡ lean_profile profile (take keys stays)
            lean_is = wrote_part p.wrote

            -- what deciding over the reduced profile is given
            pub proof_given : Given (take chosen.end lean) second before chosen.count (take size rest) classes
            proof_given =
                subst (λ (l : List ℕ). Given l second before chosen.count (take size rest) classes) (sym lean_is)
                (subst (λ (q : List ℕ). Given (lean_profile profile (take keys stays)) second before chosen.count q classes) (sym asked_is)
                (record {
                  accepted_profile = lean_accepted profile a.sound (take keys stays);
                  edition = a.edition ∙ sym (lean_edition profile a.sound (take keys stays));
                  before_keys =
                      a.before_keys
                      ∙ ap₂ (λ (x y : ℕ). x + y) (first_entry_lem profile (lean_profile profile (take keys stays)) (sym (lean_edition profile a.sound (take keys stays))))
                      (ap length (sym (lean_labels profile a.sound (take keys stays))));
                  key_count = p.counted ∙ ap length (sym (lean_keys profile a.sound (take keys stays)));
                  tabled = subst (λ (ls : List Label). Tabled ls classes) (sym (lean_labels profile a.sound (take keys stays))) a.tabled;
                  accepted_question = dropped_asked profile a.sound (take keys stays) n key stands;
                }))

            -- the decider's answer is the proof
            pub proof_told : (d : Decision) (after : List ℕ) → Decides (take chosen.end lean) (take size rest) buffer (deciding_answer (Ok d) after) → {m : ℕ}
                → m ≡ proof_of d → ProvesDropped profile n buffer (used_of drop_proved m after)
            proof_told d after q e =
                subst (λ (m : ℕ). ProvesDropped profile n buffer (used_of drop_proved m after)) (sym e)
                (go d
                (subst (λ (l : List ℕ). Decides l (key_bytes key) buffer (deciding_answer (Ok d) after)) lean_is
                (subst (λ (l : List ℕ). Decides (take chosen.end lean) l buffer (deciding_answer (Ok d) after)) asked_is q)))
              where
                used : (v : Verdict) (m : ℕ) → Decides (lean_profile profile (take keys stays)) (key_bytes key) buffer (used_of v m after)
                    → ProvesDropped profile n buffer (used_of drop_proved m after)
                used v m h =
                    proves_used profile buffer n room a.sound (take keys stays) (accepted_reduction a is r) key stands gone.1 v m after h

                go : (d : Decision) → Decides (lean_profile profile (take keys stays)) (key_bytes key) buffer (deciding_answer (Ok d) after)
                    → ProvesDropped profile n buffer (used_of drop_proved (proof_of d) after)
                go (Implied m) h = used implied m h
                go (NotImplied m) h = used not_implied m h
