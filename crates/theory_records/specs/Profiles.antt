-- An accepted profile: its labels and keys are good, and its bytes are the encodings of its labels and then of its keys.
use Rattle.std.specs.Prelude.{ℕ, suc, ◌+◌, ◌≤◌, ◌<◌, ◌≡◌, Bool, true, false, cond, not, ltb, eqb, length, get_or, drop}
use Rattle.std.proofs.Math.Path.{refl, sym, subst}
use Rattle.std.proofs.Common.{ap, ap₂, ◌∙◌, ⊎_elim, arith, length-append}
use mathlib.Core.List.{List, [], ◌∷◌, ◌++◌, map, flatten, append_assoc, append-nil}
use borrow.Author.Tests.{ltb-false, eqb-true, eqb-false}
use Rattle.meaning.specs.Limits.{in_profile}
use Rattle.meaning.specs.Lists.{Each, end, also}
use Rattle.meaning.specs.Paths.{Label}
use Rattle.meaning.specs.Keys.{Key}
use Rattle.meaning.specs.Records.{record_length, record_kind, record_body, record_bytes, read_label, label_bytes, key_in, key_bytes}
use Rattle.meaning.specs.Refusals.{Refusal, first_refusal, first_of, good_label, key_twice, Profile, no_profile, profile_tests, profile_next, has_edition, behind_edition, first_entry, edition_refusal, profile_walked, profile_in, profile_refusal, oversize, whole, sound}
use Rattle.meaning.specs.Operations.{labels_in, keys_in, entries_written, edition_written, profile_written}
use Rattle.theory_lists.specs.Bools.{of_true}
use Rattle.theory_paths.specs.Good.{GoodLabels, good_labels_none, good_labels_more, GoodKey}
use Rattle.theory_records.specs.Walks.{walk_keeps}
use Rattle.theory_records.specs.Bytes.{Bytes, bytes_drop}
use Rattle.theory_records.specs.Tests.{both}
use Rattle.theory_records.specs.Heads.{whole_says}
use Rattle.theory_records.specs.Encodings.{label_written, key_record_written, record_is, ends_edition}
use Rattle.theory_records.specs.Judged.{LabelAccepted, KeyRecordAccepted, profile_accepted}

-- read one after the other, each as Q asks of it beside those before it
pub data OneByOne {A : Type 0} (Q : List A → A → Type 0) : List A → Type 0 where
  none_yet : {xs : List A} → xs ≡ [] → OneByOne Q xs
  one_more : {xs : List A} (before : List A) (x : A) → OneByOne Q before → Q before x → xs ≡ before ++ (x ∷ []) → OneByOne Q xs

-- labels, each of them good beside those before it
abbrev pub LabelsRead : List Label → Type 0
LabelsRead labels = OneByOne (λ (before : List Label) (l : Label). good_label before l ≡ true) labels

-- keys, no two of them equal
abbrev pub Different : List Key → Type 0
Different keys = OneByOne (λ (before : List Key) (k : Key). key_twice before k ≡ false) keys

-- the numbers of labels so read are between 2 and 200
pub labels_good : {labels : List Label} → LabelsRead labels → GoodLabels labels
labels_good (none_yet e) = subst GoodLabels (sym e) good_labels_none
labels_good (one_more before l more good e) = subst GoodLabels (sym e) (good_labels_more before l (labels_good more) (of_true _ good))

pub flat_more : {A : Type 0} (f : A → List ℕ) (xs : List A) (x : A) → flatten (map f (xs ++ (x ∷ []))) ≡ flatten (map f xs) ++ f x
unfolding flatten
flat_more f [] x = append-nil (f x)
flat_more f (y ∷ xs) x = ap (λ (l : List ℕ). f y ++ l) (flat_more f xs x) ∙ sym (append_assoc (f y) (flatten (map f xs)) (f x))

-- one record more is written, and what is left is less by it
pub one_more_lem : {A : Type 0} (f : A → List ℕ) (xs : List A) (x : A) (r l bytes : List ℕ) → f x ++ r ≡ l → flatten (map f xs) ++ l ≡ bytes
    → flatten (map f (xs ++ (x ∷ []))) ++ r ≡ bytes
one_more_lem f xs x r l bytes e w =
    ap (λ (k : List ℕ). k ++ r) (flat_more f xs x)
    ∙ (append_assoc (flatten (map f xs)) (f x) r ∙ (ap (λ (k : List ℕ). flatten (map f xs) ++ k) e ∙ w))

pub each_more : {A : Type 0} {Q : A → Type 0} {xs : List A} {x : A} → Each Q xs → Q x → Each Q (xs ++ (x ∷ []))
each_more end q = also q end
each_more (also p ps) q = also p (each_more ps q)

pub each_less : {A : Type 0} {Q : A → Type 0} (xs : List A) {x : A} → Each Q (xs ++ (x ∷ [])) → Each Q xs × Q x
each_less [] (also q end) = (end, q)
each_less (y ∷ xs) (also p ps) = let r = each_less xs ps in (also p r.0, r.1)

pub length_more : {A : Type 0} (xs : List A) (x : A) → length (xs ++ (x ∷ [])) ≡ suc (length xs)
length_more xs x = omega (arith, length-append xs (x ∷ []))

pub next_label : (p : Profile) (l : List ℕ) → record_kind l ≡ 1
    → profile_next p l ≡ record { labels = p.labels ++ (read_label (record_body l) ∷ []); keys = p.keys }
unfolding profile_next
next_label p l k = rw k

pub next_key : (p : Profile) (l : List ℕ) → record_kind l ≡ 2
    → profile_next p l ≡ record { labels = p.labels; keys = p.keys ++ (key_in (record_body l) ∷ []) }
unfolding profile_next
next_key p l k = rw k

-- What holds of the labels and keys read so far
pub record ProfileGood (first n : ℕ) (p : Profile) : Type 0 where
  pub labels : LabelsRead p.labels
  pub keys : Each (GoodKey p.labels in_profile) p.keys
  pub different : Different p.keys
  pub few : length p.keys ≤ 64
  pub counted : n ≡ first + (length p.labels + length p.keys)

good_kept : (first n : ℕ) (p : Profile) (l : List ℕ) → ProfileGood first n p → 0 < length l → first_of (profile_tests p l) ≡ 0
    → ProfileGood first (suc n) (profile_next p l)
good_kept first n p l g h e =
    ⊎_elim
    (λ (a : LabelAccepted p l).
    rw (next_label p l a.kind)
    (record {
      labels = one_more p.labels (read_label (record_body l)) g.labels a.good refl;
      keys = subst (λ (ks : List Key). Each (GoodKey (p.labels ++ (read_label (record_body l) ∷ [])) in_profile) ks) (sym a.before_keys) end;
      different = g.different;
      few = g.few;
      counted = omega (arith, g.counted, length_more p.labels (read_label (record_body l)));
    }))
    (λ (a : KeyRecordAccepted p l).
    rw (next_key p l a.kind)
    (record {
      labels = g.labels;
      keys = each_more g.keys a.good;
      different = one_more p.keys (key_in (record_body l)) g.different a.new refl;
      few = omega (arith, a.room, length_more p.keys (key_in (record_body l)));
      counted = omega (arith, g.counted, length_more p.keys (key_in (record_body l)));
    }))
    (profile_accepted p l e)

pub profile_long : (p : Profile) (l : List ℕ) → 0 < length l → first_of (profile_tests p l) ≡ 0 → 1 ≤ record_length l
profile_long p l h e =
    ⊎_elim (λ (a : LabelAccepted p l). omega (arith, a.is_whole.long)) (λ (a : KeyRecordAccepted p l). omega (arith, a.is_whole.long))
    (profile_accepted p l e)

pub good_at_stop : (bytes : List ℕ) → ProfileGood (first_entry bytes) (profile_walked bytes).at (profile_walked bytes).state
unfolding profile_walked
good_at_stop bytes =
    (walk_keeps profile_tests profile_next (λ n p rest. ProfileGood (first_entry bytes) n p) profile_long (good_kept (first_entry bytes)) (first_entry bytes)
    no_profile (behind_edition bytes)
    (record { labels = none_yet refl; keys = end; different = none_yet refl; few = omega arith; counted = omega arith })
    ).held

-- What is written so far and what is left are the bytes
pub record ProfileWritten (bytes : List ℕ) (n : ℕ) (p : Profile) (rest : List ℕ) : Type 0 where
  pub small : Bytes rest
  pub are : entries_written p ++ rest ≡ bytes

one_label : (A x K r l bytes : List ℕ) → K ≡ [] → x ++ r ≡ l → (A ++ K) ++ l ≡ bytes → ((A ++ x) ++ K) ++ r ≡ bytes
one_label A x K r l bytes k e w = sym (sym w ∙ (rw (k, append-nil A, append-nil (A ++ x), ← e) (sym (append_assoc A x r))))

one_key : (A x K r l bytes : List ℕ) → x ++ r ≡ l → (A ++ K) ++ l ≡ bytes → (A ++ (K ++ x)) ++ r ≡ bytes
one_key A x K r l bytes e w = sym (sym w ∙ (rw (← e) (simp append_assoc)))

written_kept : (bytes : List ℕ) (n : ℕ) (p : Profile) (l : List ℕ) → ProfileWritten bytes n p l → 0 < length l → first_of (profile_tests p l) ≡ 0
    → ProfileWritten bytes (suc n) (profile_next p l) (drop (record_length l) l)
unfolding entries_written flatten
written_kept bytes n p l g h e =
    let A : List ℕ = flatten (map label_bytes p.labels) in
    let K : List ℕ = flatten (map key_bytes p.keys) in
    let rest : List ℕ = drop (record_length l) l in
    ⊎_elim
    (λ (a : LabelAccepted p l).
    let x : Label = read_label (record_body l) in
    rw (next_label p l a.kind)
    (record {
      small = bytes_drop (record_length l) g.small;
      are =
          rw (flat_more label_bytes p.labels x)
          (one_label A (label_bytes x) K rest l bytes (ap (λ (ks : List Key). flatten (map key_bytes ks)) a.before_keys)
          (label_written l g.small a.is_whole a.kind)
          g.are);
    }))
    (λ (a : KeyRecordAccepted p l).
    let x : Key = key_in (record_body l) in
    rw (next_key p l a.kind)
    (record {
      small = bytes_drop (record_length l) g.small;
      are =
          rw (flat_more key_bytes p.keys x)
          (one_key A (key_bytes x) K rest l bytes (key_record_written l g.small a.is_whole a.kind) g.are);
    }))
    (profile_accepted p l e)

pub refusal_none : (r : Refusal) (rs : List Refusal) → (first_refusal (r ∷ rs)).number ≡ 0
    → (r.number ≡ 0) × ((first_refusal rs).number ≡ 0)
unfolding first_refusal
refusal_none r rs e = go (eqb r.number 0) refl
  where
    go : (b : Bool) → eqb r.number 0 ≡ b → (r.number ≡ 0) × ((first_refusal rs).number ≡ 0)
    go true q = (eqb-true _ _ q, rw q at e)
    go false q = absurd (eqb-false _ _ q (rw q at e))

pub within_size : (input limit : ℕ) (bytes : List ℕ) → (oversize input limit bytes).number ≡ 0 → length bytes ≤ limit
unfolding oversize
within_size input limit bytes e = go (ltb limit (length bytes)) refl
  where
    go : (b : Bool) → ltb limit (length bytes) ≡ b → length bytes ≤ limit
    go true q = absurd (omega (arith, rw q at e))
    go false q = ltb-false _ _ q

edition_two : (bytes : List ℕ) → (edition_refusal bytes).number ≡ 0 → has_edition bytes ≡ true → get_or (record_body bytes) 0 0 ≡ 2
unfolding edition_refusal
edition_two bytes e h = go (eqb (get_or (record_body bytes) 0 0) 2) refl (rw h at e)
  where
    go : (b : Bool) → eqb (get_or (record_body bytes) 0 0) 2 ≡ b → (cond (not b) (record { number = 3; input = 1; place = 0 }) sound).number ≡ 0
        → get_or (record_body bytes) 0 0 ≡ 2
    go true q r = eqb-true _ _ q
    go false q r = absurd (omega arith)

-- What acceptance of a profile says
pub record ProfileAccepted (bytes : List ℕ) : Type 0 where
  pub size : length bytes ≤ 16384
  pub walked : (profile_walked bytes).number ≡ 0
  pub edition : has_edition bytes ≡ true → get_or (record_body bytes) 0 0 ≡ 2
  pub good : ProfileGood (first_entry bytes) (profile_walked bytes).at (profile_in bytes)

pub profile_accepts : (bytes : List ℕ) → (profile_refusal bytes).number ≡ 0 → ProfileAccepted bytes
unfolding profile_refusal profile_in
profile_accepts bytes e =
    let size = refusal_none _ _ e in
    let edition = refusal_none _ _ size.1 in
    let walked = refusal_none _ _ edition.1 in
    record {
      size = within_size 1 16384 bytes size.0;
      walked = walked.0;
      edition = edition_two bytes edition.0;
      good = good_at_stop bytes;
    }

behind_small : (bytes : List ℕ) → Bytes bytes → Bytes (behind_edition bytes)
unfolding behind_edition
behind_small bytes small = go (has_edition bytes)
  where
    go : (b : Bool) → Bytes (cond b (drop (record_length bytes) bytes) bytes)
    go true = bytes_drop (record_length bytes) small
    go false = small

-- labels and keys, written back
entries_written_lem : (bytes : List ℕ) → Bytes bytes → (profile_walked bytes).number ≡ 0 → entries_written (profile_in bytes) ≡ behind_edition bytes
unfolding profile_in profile_walked
entries_written_lem bytes small e =
    let w =
    walk_keeps profile_tests profile_next (ProfileWritten (behind_edition bytes)) profile_long (written_kept (behind_edition bytes)) (first_entry bytes)
    no_profile (behind_edition bytes) (record { small = behind_small bytes small; are = unfold entries_written flatten in refl }) in
    sym (append-nil _) ∙ subst (λ (rest : List ℕ). entries_written (profile_in bytes) ++ rest ≡ behind_edition bytes) (w.sound e) w.held.are

-- the edition's record, written back
edition_written_lem : (bytes : List ℕ) → Bytes bytes → ProfileAccepted bytes → edition_written (has_edition bytes) ++ behind_edition bytes ≡ bytes
unfolding edition_written behind_edition
edition_written_lem bytes small a = go (has_edition bytes) refl
  where
    one_byte : (l : List ℕ) → length l ≡ 1 → get_or l 0 0 ≡ 2 → 2 ∷ [] ≡ l
    one_byte [] n q = absurd (omega arith)
    one_byte (b ∷ []) n q = ap (λ (k : ℕ). k ∷ []) (sym q)
    one_byte (b ∷ c ∷ l) n q = absurd (omega arith)

    go : (b : Bool) → has_edition bytes ≡ b → cond b (record_bytes 6 (2 ∷ [])) [] ++ cond b (drop (record_length bytes) bytes) bytes ≡ bytes
    go false e = refl
    go true e =
        let p = both (whole bytes) (eqb (record_kind bytes) 6) (unfold has_edition in e) in
        let w = whole_says bytes p.0 in
        let k : record_kind bytes ≡ 6 = eqb-true _ _ p.1 in
        record_is bytes small w 6 k (2 ∷ []) (one_byte (record_body bytes) (ends_edition bytes w k) (a.edition e))

-- "profiles read and written back are the same bytes"
pub profile_written_lem : (bytes : List ℕ) → Bytes bytes → ProfileAccepted bytes → profile_written (has_edition bytes) (profile_in bytes) ≡ bytes
unfolding profile_written
profile_written_lem bytes small a =
    ap (λ (l : List ℕ). edition_written (has_edition bytes) ++ l) (entries_written_lem bytes small a.walked) ∙ edition_written_lem bytes small a

-- one encoding for each profile of an edition
pub profile_unique : (bytes other : List ℕ) → Bytes bytes → Bytes other → (profile_refusal bytes).number ≡ 0 → (profile_refusal other).number ≡ 0
    → has_edition bytes ≡ has_edition other → profile_in bytes ≡ profile_in other → bytes ≡ other
profile_unique bytes other small small' e e' edition same =
    sym (profile_written_lem bytes small (profile_accepts bytes e))
    ∙ (ap₂ profile_written edition same ∙ profile_written_lem other small' (profile_accepts other e'))

-- reading what is written gives the same profile
pub profile_read_back : (bytes : List ℕ) → Bytes bytes → (profile_refusal bytes).number ≡ 0
    → profile_in (profile_written (has_edition bytes) (profile_in bytes)) ≡ profile_in bytes
profile_read_back bytes small e = ap profile_in (profile_written_lem bytes small (profile_accepts bytes e))

-- the same by the names that the operations use
pub accepted_labels : (bytes : List ℕ) → (profile_refusal bytes).number ≡ 0 → GoodLabels (labels_in bytes)
unfolding labels_in
accepted_labels bytes e = labels_good (profile_accepts bytes e).good.labels

pub accepted_keys : (bytes : List ℕ) → (profile_refusal bytes).number ≡ 0 → Each (GoodKey (labels_in bytes) in_profile) (keys_in bytes)
unfolding labels_in keys_in
accepted_keys bytes e = (profile_accepts bytes e).good.keys

pub accepted_few : (bytes : List ℕ) → (profile_refusal bytes).number ≡ 0 → length (keys_in bytes) ≤ 64
unfolding keys_in
accepted_few bytes e = (profile_accepts bytes e).good.few

pub accepted_different : (bytes : List ℕ) → (profile_refusal bytes).number ≡ 0 → Different (keys_in bytes)
unfolding keys_in
accepted_different bytes e = (profile_accepts bytes e).good.different
