-- What reading a profile comes to, beside `profile_refusal`, `labels_in` and `keys_in` of `meaning`.
use Rattle.std.specs.Prelude.{ℕ, zero, suc, ◌+◌, ◌≤◌, ◌<◌, ◌≡◌, refl, Bool, false, not, Result, Ok, Err, eqb, get_or, drop}
use Rattle.std.proofs.Math.Path.{sym, subst, ap, ap₂}
use Rattle.std.proofs.Common.{◌∙◌, arith}
use Rattle.std.proofs.Math.Bool.{true}
use mathlib.Core.List.{List, [], ◌∷◌}
use borrow.Author.Tests.{le-ltb, lt-ltb, eq-eqb, ne_eqb, eqb-true, not-true, not-false}
use Rattle.std.proofs.Math.ListN.{length}
use Rattle.meaning.specs.Paths.{Label}
use Rattle.meaning.specs.Records.{word, record_length, record_kind, record_body}
use Rattle.meaning.specs.Refusals.{Refusal, sound, first_refusal, oversize, Walked, walk, whole, Profile as Read, no_profile, profile_tests, profile_next, has_edition, behind_edition, first_entry, edition_refusal, profile_walked, profile_in, profile_refusal}
use Rattle.meaning.specs.Operations.{second_in, labels_in, keys_in}
use Rattle.read_record.specs.Classes.{Tabled}
use Rattle.read_judged.specs.Answers.{refusal_of}
use Rattle.read_judged.specs.declared.Fault.{Fault}
use Rattle.read_inputs.specs.declared.profile.Profile.{Profile}
use Rattle.read_inputs.specs.Accepted.{GivenProfile, ProfileTold}
use Rattle.theory_records.specs.Tests.{both}
use Rattle.theory_records.specs.Heads.{whole_says, body_length}
use Rattle.theory_records.specs.Encodings.{ends_edition}
use Rattle.theory_records.specs.TreeFiles.{body_at}
use Rattle.theory_records.specs.Profiles.{profile_accepts}
use Rattle.read_entry.specs.Labels.{labels_at}
use Rattle.read_entry.specs.Agree.{is_label_record}
use Rattle.read_profile_keys.specs.KeyWalks.{labelled, KeysCame, KeysSay}
use Rattle.read_inputs.specs.LabelWalks.{LabelLoop}

-- What the labels and keys come to, from record number `first` on
abbrev entries_from : ℕ → List ℕ → Walked Read
entries_from first bytes = walk profile_tests profile_next 0 first no_profile bytes

-- they come to no refusal, and this is what they say
pub record EntriesSay (first : ℕ) (bytes classes : List ℕ) (before keys : ℕ) : Type 0 where
  pub accepted : (entries_from first bytes).number ≡ 0
  pub tabled : Tabled (entries_from first bytes).state.labels classes
  pub before_keys : before ≡ first + length (entries_from first bytes).state.labels
  pub key_count : keys ≡ length (entries_from first bytes).state.keys

-- their refusal, as a profile's
pub entries_refusal : ℕ → List ℕ → Refusal
entries_refusal first bytes = first_refusal (record { number = (entries_from first bytes).number; input = 1; place = (entries_from first bytes).at } ∷ [])

entries_sound : (first : ℕ) (bytes : List ℕ) → (entries_from first bytes).number ≡ 0 → entries_refusal first bytes ≡ sound
unfolding entries_refusal first_refusal
entries_sound first bytes e = rw e

-- the first fault, or what they say
abbrev pub EntriesTold : ℕ → List ℕ → Bool → Result Profile Fault → Type 0
EntriesTold first bytes second (Ok p) = EntriesSay first bytes p.classes p.before p.keys × (p.second ≡ second)
EntriesTold first bytes second (Err fault) = refusal_of {A = Profile} 1 (Err fault) ≡ entries_refusal first bytes

labels_length : (n : ℕ) (l : List ℕ) → length (labels_at n l) ≡ n
unfolding labels_at
labels_length zero l = refl
labels_length (suc n) l = ap suc (labels_length n (drop (record_length l) l))

-- 7: the profile's size
pub over_refusal : (bytes : List ℕ) → 16384 < length bytes → record { number = 7; input = 1; place = 0 } ≡ profile_refusal bytes
unfolding profile_refusal first_refusal oversize
over_refusal bytes h = rw (lt-ltb 16384 (length bytes) h)

-- the labels and keys, return by return
entries_refused : (first : ℕ) (bytes : List ℕ) (r n : ℕ) (p : Read) → (r ≡ 0 → ⊥)
    → entries_from first bytes ≡ record { number = r; at = n; state = p } → record { number = r; input = 1; place = n } ≡ entries_refusal first bytes
unfolding first_refusal entries_refusal
entries_refused first bytes r n p h e = rw (e, ne_eqb r 0 h)

pub profile_label : (first : ℕ) (bytes : List ℕ) (labels : ℕ)
    → entries_from first bytes ≡ record { number = 3; at = first + labels; state = labelled (labels_at labels bytes) }
    → record { number = 3; input = 1; place = first + labels } ≡ entries_refusal first bytes
profile_label first bytes labels e = entries_refused first bytes 3 (first + labels) (labelled (labels_at labels bytes)) (λ q. omega arith) e

module _ {first : ℕ} {bytes classes rest : List ℕ} {labels last : ℕ} (loop : LabelLoop first bytes classes rest labels last) {r keys : ℕ}
    (says : KeysSay classes rest r keys) where
  came : KeysCame (labels_at labels bytes) (first + labels) rest r keys
  came = says.came (labels_at labels bytes) loop.table (first + labels)

  walked : entries_from first bytes ≡ record { number = r; at = first + labels + keys; state = came.state }
  walked = sym loop.walks ∙ came.walked

  pub profile_key : (r ≡ 0 → ⊥) → record { number = r; input = 1; place = first + labels + keys } ≡ entries_refusal first bytes
  profile_key h = entries_refused first bytes r (first + labels + keys) came.state h walked

  pub profile_sound : r ≡ 0 → EntriesSay first bytes classes (first + labels) keys
  profile_sound e =
      record {
        accepted = ap (λ (w : Walked Read). w.number) walked ∙ e;
        tabled = subst (λ (ls : List Label). Tabled ls classes) (sym read_labels) loop.table;
        before_keys = ap (λ (k : ℕ). first + k) (sym (labels_length labels bytes) ∙ sym (ap length read_labels));
        key_count = came.counted ∙ sym (ap length read_keys);
      }
    where
      read_labels : (entries_from first bytes).state.labels ≡ labels_at labels bytes
      read_labels = ap (λ (w : Walked Read). w.state.labels) walked ∙ came.same

      read_keys : (entries_from first bytes).state.keys ≡ came.state.keys
      read_keys = ap (λ (w : Walked Read). w.state.keys) walked

-- The edition's record, return by return
pub edition_torn : (l : List ℕ) {b : Bool} → b ≡ whole l → not b ≡ true → false ≡ has_edition l
unfolding has_edition
edition_torn l e t = rw (sym e ∙ not-true _ t)

pub edition_kind : (l : List ℕ) {b : Bool} → b ≡ whole l → not b ≡ false → {k : ℕ} → k ≡ word l 2 → eqb k 6 ≡ has_edition l
unfolding has_edition record_kind
edition_kind l e t q = rw (sym e ∙ not-false _ t, q)

pub record EditionHere (l : List ℕ) : Type 0 where
  pub long : record_length l ≡ 5
  pub within : 5 ≤ length l
  pub byte : get_or (record_body l) 0 0 ≡ get_or l 4 0

pub edition_here : (l : List ℕ) {b : Bool} → b ≡ has_edition l → b ≡ true → EditionHere l
unfolding has_edition
edition_here l e t =
    let p = both (whole l) (eqb (record_kind l) 6) (sym e ∙ t) in
    let w = whole_says l p.0 in
    let one = ends_edition l w (eqb-true _ _ p.1) in
    let long : record_length l ≡ 5 = omega (arith, body_length l w.within, w.long) in
    record { long = long; within = omega (arith, w.within); byte = body_at l 0 (omega arith) }

module _ (bytes : List ℕ) (small : length bytes ≤ 16384) {b : Bool} (told : b ≡ has_edition bytes) where
  -- none: edition 1
  module _ (t : not b ≡ true) where
    plain : has_edition bytes ≡ false
    plain = sym told ∙ not-true _ t

    plain_walk : profile_walked bytes ≡ entries_from 0 bytes
    unfolding profile_walked behind_edition first_entry
    plain_walk = rw plain

    plain_first : first_entry bytes ≡ 0
    unfolding first_entry
    plain_first = rw plain

    plain_labels : labels_in bytes ≡ (entries_from 0 bytes).state.labels
    unfolding labels_in profile_in
    plain_labels = ap (λ (w : Walked Read). w.state.labels) plain_walk

    plain_is : entries_refusal 0 bytes ≡ profile_refusal bytes
    unfolding entries_refusal profile_refusal first_refusal oversize edition_refusal
    plain_is = rw (le-ltb 16384 (length bytes) small, plain, plain_walk)

    pub profile_first : (r : Result Profile Fault) → EntriesTold 0 bytes false r → ProfileTold bytes r
    profile_first (Err fault) e = e ∙ plain_is
    profile_first (Ok p) t =
        let s = t.0 in
        let none : profile_refusal bytes ≡ sound = sym plain_is ∙ entries_sound 0 bytes s.accepted in (
          sym none,
          record {
            accepted_profile = ap (λ (x : Refusal). x.number) none;
            edition = unfold second_in in t.1 ∙ sym plain;
            before_keys = s.before_keys ∙ ap₂ (λ (n : ℕ) (ls : List Label). n + length ls) (sym plain_first) (sym plain_labels);
            key_count = unfold keys_in profile_in in subst (λ (w : Walked Read). p.keys ≡ length w.state.keys) (sym plain_walk) s.key_count;
            tabled = unfold labels_in profile_in in subst (λ (w : Walked Read). Tabled w.state.labels p.classes) (sym plain_walk) s.tabled;
          },
        )

  module _ (t : not b ≡ false) where
    second : has_edition bytes ≡ true
    second = sym told ∙ not-false _ t

    its : EditionHere bytes
    its = edition_here bytes (sym second) refl

    -- 3: "an edition byte other than 2"
    pub profile_other : {k : ℕ} → k ≡ get_or bytes 4 0 → (k ≡ 2 → ⊥) → record { number = 3; input = 1; place = 0 } ≡ profile_refusal bytes
    unfolding profile_refusal first_refusal oversize edition_refusal
    profile_other {k} e n =
        rw (le-ltb 16384 (length bytes) small, second, ne_eqb (get_or (record_body bytes) 0 0) 2 (λ q. n (e ∙ sym its.byte ∙ q)))

    second_walk : {rest : List ℕ} → rest ≡ drop 5 bytes → profile_walked bytes ≡ entries_from 1 rest
    unfolding profile_walked behind_edition first_entry
    second_walk e = rw (second, its.long, e)

    second_first : first_entry bytes ≡ 1
    unfolding first_entry
    second_first = rw second

    second_labels : {rest : List ℕ} → rest ≡ drop 5 bytes → labels_in bytes ≡ (entries_from 1 rest).state.labels
    unfolding labels_in profile_in
    second_labels e = ap (λ (w : Walked Read). w.state.labels) (second_walk e)

    second_is : {k : ℕ} → k ≡ get_or bytes 4 0 → k ≡ 2 → {rest : List ℕ} → rest ≡ drop 5 bytes → entries_refusal 1 rest ≡ profile_refusal bytes
    unfolding entries_refusal profile_refusal first_refusal oversize edition_refusal
    second_is e two part =
        rw (le-ltb 16384 (length bytes) small, second, eq-eqb (get_or (record_body bytes) 0 0) 2 (its.byte ∙ sym e ∙ two), second_walk part)

    pub profile_second : {k : ℕ} → k ≡ get_or bytes 4 0 → k ≡ 2 → {rest : List ℕ} → rest ≡ drop 5 bytes → (r : Result Profile Fault)
        → EntriesTold 1 rest true r → ProfileTold bytes r
    profile_second e two part (Err fault) q = q ∙ second_is e two part
    profile_second e two {rest} part (Ok p) q =
        let s = q.0 in
        let none : profile_refusal bytes ≡ sound = sym (second_is e two part) ∙ entries_sound 1 rest s.accepted in (
          sym none,
          record {
            accepted_profile = ap (λ (x : Refusal). x.number) none;
            edition = unfold second_in in q.1 ∙ sym second;
            before_keys = s.before_keys ∙ ap₂ (λ (n : ℕ) (ls : List Label). n + length ls) (sym second_first) (sym (second_labels part));
            key_count = unfold keys_in profile_in in subst (λ (w : Walked Read). p.keys ≡ length w.state.keys) (sym (second_walk part)) s.key_count;
            tabled = unfold labels_in profile_in in subst (λ (w : Walked Read). Tabled w.state.labels p.classes) (sym (second_walk part)) s.tabled;
          },
        )

-- whether a label's record stands here, return by return
pub label_torn : (l : List ℕ) {b : Bool} → b ≡ whole l → not b ≡ true → false ≡ is_label_record l
unfolding is_label_record
label_torn l e t = rw (sym e ∙ not-true _ t)

pub label_kind : (l : List ℕ) {b : Bool} → b ≡ whole l → not b ≡ false → {k : ℕ} → k ≡ word l 2 → eqb k 1 ≡ is_label_record l
unfolding is_label_record record_kind
label_kind l e t q = rw (sym e ∙ not-false _ t, q)
