-- What the search for steps answers, as a law of implication: it ends, and the key is implied by the keys of the part, or it does not, and the key is not.
use Prim.Native.Nat.{ℕ, ◌≤◌, ◌<◌}
use Rattle.std.specs.Prelude.{◌≡◌, ◌⊎◌, Bool, length, get_or, take, drop}
use Rattle.std.proofs.Common.{sym, ap, ap₂, subst, ◌∙◌, inl, inr, arith}
use Rattle.std.proofs.Math.Bool.{true, false}
use mathlib.Core.List.{List, [], ◌++◌}
use Rattle.meaning.specs.Limits.{in_profile}
use Rattle.meaning.specs.Lists.{Each}
use Rattle.meaning.specs.Paths.{Label, class_of, singles}
use Rattle.meaning.specs.Keys.{Key, Implied}
use Rattle.meaning.specs.Records.{no_key, record_body, read_key, key_in, is_some}
use Rattle.meaning.specs.Operations.{records_from}
use Rattle.meaning.specs.Pattern.{t_of}
use Rattle.meaning.specs.Reduction.{staying}
use Rattle.theory_lists.specs.Bools.{Each-nth}
use Rattle.theory_paths.specs.Good.{GoodLabels, GoodKey, context_length, target_length, key_path_length, paths_some, paths_within}
use Rattle.theory_records.specs.KeyPlaces.{keys_from, key_shape, KeyRecords, keys_length, key_at}
use Rattle.theory_lists.specs.Logic.{get_or_mem}
use Rattle.theory_pattern.specs.Spots.{Ends, at_t}
use Rattle.theory_derive.specs.Accept.{turns}
use Rattle.theory_derive.specs.Ranges.{none_left}
use Rattle.theory_reduce.specs.Chained.{chain_implied, chain_not_implied}
use Rattle.theory_reduce.specs.LeanProfile.{staying_each, staying_few}
use Rattle.theory_reduce.specs.Placed.{keys_written, keys_written_lem, records_written, keys_size, keys_at}
use Rattle.read_record.specs.Classes.{Tabled, class_by}
use Rattle.write_bytes.specs.Wrote.{wrote_front}
use Rattle.step_search.specs.declared.search.FinalU.{FinalU}
use Rattle.step_search.specs.Ranges.{NoneLeft}
use Rattle.step_search.specs.Finding.{Searchable, Finds}
use Rattle.op_decider.specs.Upward.{steps_up, up_ends, up_not}
use Rattle.write_tree.specs.Labels.{class_everywhere}
use Rattle.write_chosen.specs.declared.records.Chosen.{Chosen}
use Rattle.write_chosen.specs.Choosing.{Choosable, Chose}

-- the statement, or that it does not hold
unfoldable pub Says : Bool → Type 0 → Type 0
Says true P = P
Says false P = P → ⊥

-- labels under which the part's first keys are good, and their class table
pub record KeyedBy (labels : List Label) (part : List ℕ) (keys : ℕ) (classes : List ℕ) : Type 0 where
  pub good_labels : GoodLabels labels
  pub tabled : Tabled labels classes
  pub long : length classes ≡ 256
  pub few : keys ≤ 64
  pub records : KeyRecords keys part
  pub good : Each (GoodKey labels in_profile) (keys_from keys part)

-- there are such labels
pub record Keyed (part : List ℕ) (keys : ℕ) (classes : List ℕ) : Type 0 where
  pub labels : List Label
  pub by : KeyedBy labels part keys classes

-- .. and a key body that is good under them
pub record Asking (part : List ℕ) (keys : ℕ) (asked classes : List ℕ) : Type 0 where
  pub labels : List Label
  pub by : KeyedBy labels part keys classes
  pub good : GoodKey labels in_profile (key_in asked)
  pub reads : is_some (read_key asked) ≡ true

pub record Follows (part : List ℕ) (keys : ℕ) (asked classes : List ℕ) (second r : Bool) : Type 0 where
  pub told : (labels : List Label) → KeyedBy labels part keys classes → GoodKey labels in_profile (key_in asked)
      → Says r (Implied second labels (keys_from keys part) (key_in asked))

module _ {part : List ℕ} {keys : ℕ} {asked classes : List ℕ} (a : Asking part keys asked classes) where
  abbrev key : Key
  key = key_in asked

  -- what the search asks
  pub asking_search : Searchable (records_from 0 part) keys asked
  unfolding records_from
  asking_search =
      record {
        asked =
            record {
              is_key = a.reads;
              context = context_length a.labels in_profile (key_in asked) a.good;
              target = target_length a.labels in_profile (key_in asked) a.good;
              some = paths_some a.labels in_profile (key_in asked) a.good;
              few = paths_within a.labels in_profile (key_in asked) a.good;
              short = λ j h. key_path_length a.labels in_profile (key_in asked) a.good _ (get_or_mem (key_in asked).paths j [] h);
            };
        records = a.by.records;
      }

  pub asking_few : t_of (key_in asked) ≤ 16
  unfolding t_of
  asking_few = omega (arith, asking_search.asked.context, asking_search.asked.target)

  module _ (second : Bool) {found : FinalU} (finds : Finds (records_from 0 part) keys asked found) {t : ℕ} (is_t : t ≡ t_of (key_in asked)) where
    here : Finds part keys asked found
    here = unfold records_from in finds

    module _ (labels : List Label) (by : KeyedBy labels part keys classes) (good : GoodKey labels in_profile (key_in asked)) where
      same_single : singles second (class_by classes) ≡ singles second (class_of labels)
      same_single = ap (singles second) (class_everywhere by.tabled by.good_labels by.long)

      ends_implied : Ends (singles second (class_of labels)) (key_in asked) found.u → Implied second labels (keys_from keys part) (key_in asked)
      ends_implied e = chain_implied second labels by.good_labels (keys_from keys part) (key_in asked) by.good good here.chain e

      not_implied : found.u < t → (Ends (singles second (class_of labels)) (key_in asked) found.u → ⊥)
          → Implied second labels (keys_from keys part) (key_in asked) → ⊥
      not_implied low none = go here.final
        where
          go : (found.u ≡ t_of (key_in asked)) ⊎ NoneLeft part keys asked found.u → Implied second labels (keys_from keys part) (key_in asked) → ⊥
          go (inl e) = absurd (omega (arith, is_t))
          go (inr n) =
              chain_not_implied second labels by.good_labels (keys_from keys part) (key_in asked) by.good good here.chain
              (none_left _ (key_in asked) found.u n.none) none

      up_told : found.u < t → (r : Bool) → r ≡ steps_up second (class_by classes) (key_in asked) found.u
          → Says r (Implied second labels (keys_from keys part) (key_in asked))
      unfolding Says
      up_told low true e =
          ends_implied
          (subst (λ (single : ℕ → Bool). Ends single (key_in asked) found.u) same_single (up_ends second (class_by classes) (key_in asked) found.u (sym e)))
      up_told low false e =
          not_implied low
          (λ ends.
          up_not second (class_by classes) (key_in asked) found.u (sym e)
          (let m = (turns labels (keys_from keys part) (key_in asked) by.good good here.chain).0 in omega arith) (omega (arith, is_t))
          (subst (λ (single : ℕ → Bool). Ends single (key_in asked) found.u) (sym same_single) ends))

      at_end : t ≤ found.u → Implied second labels (keys_from keys part) (key_in asked)
      at_end h =
          ends_implied
          (at_t (let m = (turns labels (keys_from keys part) (key_in asked) by.good good here.chain).1 in omega (arith, is_t)))

    -- the search ended above t: whether t steps there
    pub follows_up : found.u < t → {r : Bool} → r ≡ steps_up second (class_by classes) (key_in asked) found.u → Follows part keys asked classes second r
    follows_up low {r} e = record { told = λ labels by good. up_told labels by good low r e }

    -- at t
    pub follows_end : t ≤ found.u → Follows part keys asked classes second true
    unfolding Says
    follows_end h = record { told = λ labels by good. at_end labels by good h }

-- key n, asked of those that stay
pub record KeyFollows (part : List ℕ) (keys : ℕ) (stays : List Bool) (n : ℕ) (classes : List ℕ) (second r : Bool) : Type 0 where
  pub told : (labels : List Label) → KeyedBy labels part keys classes
      → Says r (Implied second labels (staying (take keys stays) (keys_from keys part)) (get_or (keys_from keys part) n no_key))

-- "64 keys": there is room for all of them
pub keyed_room : {part : List ℕ} {keys : ℕ} {classes : List ℕ} → Keyed part keys classes → {there : List ℕ} → length there ≡ 3776 → Choosable there 0 part keys
keyed_room {part} {keys} k e =
    record {
      few = k.by.few;
      records = k.by.records;
      room = omega (arith, e, k.by.few, keys_size k.labels k.by.good, keys_length keys part);
    }

module _ (part : List ℕ) (keys : ℕ) (classes : List ℕ) where
  module _ (stays : List Bool) {there end : List ℕ} {chosen : Chosen} (c : Chose there end 0 (staying (take keys stays) (keys_from keys part)) chosen) where
    abbrev kept : List Key
    kept = staying (take keys stays) (keys_from keys part)

    rest : List ℕ
    rest = drop (length (keys_written kept)) there

    end_is : end ≡ keys_written kept ++ rest
    unfolding rest
    end_is = (wrote_front c.wrote).1

    module _ {labels : List Label} (by : KeyedBy labels part keys classes) where
      kept_good : Each (GoodKey labels in_profile) kept
      kept_good = staying_each (take keys stays) (keys_from keys part) by.good

      kept_are : keys_from chosen.count end ≡ kept
      kept_are = ap₂ keys_from c.counted end_is ∙ keys_written_lem labels kept_good rest

      kept_by : KeyedBy labels end chosen.count classes
      kept_by =
          record {
            good_labels = by.good_labels;
            tabled = by.tabled;
            long = by.long;
            few = omega (arith, c.counted, staying_few (take keys stays) (keys_from keys part), keys_length keys part, by.few);
            records =
                subst (λ (m : ℕ). KeyRecords m end) (sym c.counted) (subst (KeyRecords (length kept)) (sym end_is) (records_written labels kept_good rest));
            good = subst (Each (GoodKey labels in_profile)) (sym kept_are) kept_good;
          }

      module _ (n : ℕ) (h : n < keys) {asked : List ℕ} (e : asked ≡ record_body (records_from n part)) where
        key_is : key_in asked ≡ get_or (keys_from keys part) n no_key
        key_is = ap key_in e ∙ sym (keys_at keys n part h)

        key_good : GoodKey labels in_profile (key_in asked)
        key_good = subst (λ (b : List ℕ). GoodKey labels in_profile (key_in b)) (sym e) (Each-nth n by.good (key_at keys n part h))

        pub kept_asking : Asking end chosen.count asked classes
        kept_asking =
            record {
              labels = labels;
              by = kept_by;
              good = key_good;
              reads = ap (λ (b : List ℕ). is_some (read_key b)) e ∙ key_shape (by.records.each n h);
            }

        pub kept_told : {second r : Bool} → Follows end chosen.count asked classes second r
            → Says r (Implied second labels kept (get_or (keys_from keys part) n no_key))
        kept_told {second} {r} f =
            subst (λ (k : Key). Says r (Implied second labels kept k)) key_is
            (subst (λ (ks : List Key). Says r (Implied second labels ks (key_in asked))) kept_are (f.told labels kept_by key_good))

    -- what is asked of those that stay
    pub key_asking : Keyed part keys classes → (n : ℕ) → n < keys → {asked : List ℕ} → asked ≡ record_body (records_from n part)
        → Asking end chosen.count asked classes
    key_asking k n h e = kept_asking k.by n h e

    pub key_told : (n : ℕ) → n < keys → {asked : List ℕ} → asked ≡ record_body (records_from n part) → {second r : Bool}
        → Follows end chosen.count asked classes second r → KeyFollows part keys stays n classes second r
    key_told n h e f = record { told = λ labels by. kept_told by n h e f }
