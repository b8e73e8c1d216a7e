-- 02, request 3: the reduced profile is accepted, with the same labels and the keys that stay; a dropped key is a question that it implies.
use Prim.Native.Nat.{ℕ, ◌+◌, ◌≤◌, ◌<◌}
use Rattle.std.specs.Prelude.{◌≡◌, Bool, true, false, cond, eqb, length, drop}
use Rattle.std.proofs.Math.Path.{refl, ap}
use Rattle.std.proofs.Common.{sym, subst, ◌∙◌, ⊎_elim}
use mathlib.Core.List.{List, [], ◌∷◌, ◌++◌, map, flatten}
use Rattle.std.proofs.Math.Option.{some}
use native.Mathlib.Omega.{arith}
use borrow.Author.Tests.{eqb-true}
use Rattle.std.proofs.Math.ListN.{get_elem?, length-append, length-drop}
use Rattle.meaning.specs.Limits.{in_profile}
use Rattle.meaning.specs.Lists.{Each, end, also}
use Rattle.meaning.specs.Paths.{Label}
use Rattle.meaning.specs.Keys.{Key, Implied}
use Rattle.meaning.specs.Records.{word_bytes, record_length, record_kind, record_body, record_bytes, read_label, label_bytes, key_in, key_body, key_bytes}
use Rattle.meaning.specs.Refusals.{Refusal, Profile, no_profile, first_of, profile_tests, profile_next, whole, has_edition, behind_edition, first_entry, profile_walked, profile_in, profile_refusal, question_refusal, question_in}
use Rattle.meaning.specs.Operations.{second_in, labels_in, keys_in}
use Rattle.meaning.specs.Operations.{entries_written, edition_written, profile_written}
use Rattle.meaning.specs.Reduction.{staying, Reduction, lean_profile}
use Rattle.theory_paths.specs.Good.{GoodKey}
use Rattle.theory_lists.specs.Bools.{Each-nth}
use Rattle.theory_records.specs.Tests.{both}
use Rattle.theory_records.specs.Walks.{walk_keeps}
use Rattle.theory_records.specs.Heads.{Whole, whole_says, body_length}
use Rattle.theory_records.specs.KeyBodies.{key_in_written}
use Rattle.theory_records.specs.Encodings.{ends_label, ends_key, ends_edition}
use Rattle.theory_records.specs.Judged.{LabelAccepted, KeyRecordAccepted, profile_accepted}
use Rattle.theory_records.specs.Profiles.{flat_more, next_label, next_key, profile_long, profile_accepts, accepted_keys}
use Rattle.theory_records.specs.WrittenInputs.{question_written_sound, question_in_written}
use Rattle.theory_records.specs.WrittenProfiles.{ProfileFits, profile_walked_written, profile_written_sound, profile_in_written}
use Rattle.theory_reduce.specs.Lean.{final_implies}
use Rattle.theory_reduce.specs.StayingKeys.{staying_different}

-- how many bytes a record has, written, which was read
label_size : (l : List ℕ) → Whole l → (e : 2 ≤ length (record_body l)) → length (label_bytes (read_label (record_body l))) ≡ record_length l
unfolding label_bytes record_bytes word_bytes read_label
label_size l w e = let g = w.long in omega (arith, body_length l w.within, length-drop 2 (record_body l))

key_size : (l : List ℕ) → Whole l → length (key_body (key_in (record_body l))) ≡ length (record_body l) → length (key_bytes (key_in (record_body l))) ≡ record_length l
unfolding key_bytes record_bytes word_bytes
key_size l w e = let g = w.long in omega (arith, body_length l w.within)

record SizeAt (bytes : List ℕ) (p : Profile) (rest : List ℕ) : Type 0 where
  sum : length (flatten (map label_bytes p.labels)) + length (flatten (map key_bytes p.keys)) + length rest ≡ length bytes

size_kept : (bytes : List ℕ) (n : ℕ) (p : Profile) (l : List ℕ) → SizeAt bytes p l → 0 < length l → first_of (profile_tests p l) ≡ 0
    → SizeAt bytes (profile_next p l) (drop (record_length l) l)
size_kept bytes n p l g h e =
    ⊎_elim
    (λ (a : LabelAccepted p l).
    let x : Label = read_label (record_body l) in
    let s = label_size l a.is_whole (ends_label l a.is_whole a.kind) in
    let f = ap length (flat_more label_bytes p.labels x) in
    let w = a.is_whole.within in
    let t = g.sum in
    rw (next_label p l a.kind)
    (record { sum = omega (arith, length-append (flatten (map label_bytes p.labels)) (label_bytes x), length-drop (record_length l) l) }))
    (λ (a : KeyRecordAccepted p l).
    let k : Key = key_in (record_body l) in
    let s = key_size l a.is_whole (ap length (key_in_written (record_body l) (ends_key l a.is_whole a.kind))) in
    let f = ap length (flat_more key_bytes p.keys k) in
    let w = a.is_whole.within in
    let t = g.sum in
    rw (next_key p l a.kind)
    (record { sum = omega (arith, length-append (flatten (map key_bytes p.keys)) (key_bytes k), length-drop (record_length l) l) }))
    (profile_accepted p l e)

-- what was read of a profile is, written, no more bytes than it has
entries_size : (bytes : List ℕ) → length (entries_written (profile_in bytes)) ≤ length (behind_edition bytes)
unfolding entries_written profile_in profile_walked flatten
entries_size bytes =
    let w =
    walk_keeps profile_tests profile_next (λ n p rest. SizeAt (behind_edition bytes) p rest) profile_long (size_kept (behind_edition bytes)) (first_entry bytes)
    no_profile (behind_edition bytes) (record { sum = omega arith }) in
    let s = w.held.sum in
    omega (arith, length-append (flatten (map label_bytes (profile_in bytes).labels)) (flatten (map key_bytes (profile_in bytes).keys)))

edition_size : (bytes : List ℕ) → length (edition_written (has_edition bytes)) + length (behind_edition bytes) ≤ length bytes
unfolding edition_written behind_edition record_bytes word_bytes
edition_size bytes = go (has_edition bytes) refl
  where
    go : (b : Bool) → has_edition bytes ≡ b → length (cond b (record_bytes 6 (2 ∷ [])) []) + length (cond b (drop (record_length bytes) bytes) bytes) ≤ length bytes
    go false e = omega arith
    go true e =
        let p = both (whole bytes) (eqb (record_kind bytes) 6) (unfold has_edition in e) in
        let w = whole_says bytes p.0 in
        let k : record_kind bytes ≡ 6 = eqb-true _ _ p.1 in
        let one = ends_edition bytes w k in
        let n = body_length bytes w.within in
        let h = w.long in
        let g = w.within in
        omega (arith, length-drop (record_length bytes) bytes)

pub read_size : (bytes : List ℕ) → length (profile_written (has_edition bytes) (profile_in bytes)) ≤ length bytes
unfolding profile_written
read_size bytes =
    let a = entries_size bytes in
    let b = edition_size bytes in
    omega (arith, length-append (edition_written (has_edition bytes)) (entries_written (profile_in bytes)))

-- the keys that stay are some of the keys
pub staying_each : {Q : Key → Type 0} (stays : List Bool) (keys : List Key) → Each Q keys → Each Q (staying stays keys)
unfolding staying
staying_each [] keys e = end
staying_each (s ∷ stays) [] e = end
staying_each (true ∷ stays) (k ∷ keys) (also q e) = also q (staying_each stays keys e)
staying_each (false ∷ stays) (k ∷ keys) (also q e) = staying_each stays keys e

pub staying_few : (stays : List Bool) (keys : List Key) → length (staying stays keys) ≤ length keys
unfolding staying
staying_few [] keys = omega arith
staying_few (s ∷ stays) [] = omega arith
staying_few (true ∷ stays) (k ∷ keys) = let h = staying_few stays keys in omega arith
staying_few (false ∷ stays) (k ∷ keys) = let h = staying_few stays keys in omega arith

pub staying_size : (stays : List Bool) (keys : List Key) → length (flatten (map key_bytes (staying stays keys))) ≤ length (flatten (map key_bytes keys))
unfolding staying flatten
staying_size [] keys = omega arith
staying_size (s ∷ stays) [] = omega arith
staying_size (true ∷ stays) (k ∷ keys) =
    let h = staying_size stays keys in
    omega (
      arith,
      length-append (key_bytes k) (flatten (map key_bytes (staying stays keys))),
      length-append (key_bytes k) (flatten (map key_bytes keys)),
    )
staying_size (false ∷ stays) (k ∷ keys) =
    let h = staying_size stays keys in omega (arith, length-append (key_bytes k) (flatten (map key_bytes keys)))

module _ (profile : List ℕ) (sound : (profile_refusal profile).number ≡ 0) (stays : List Bool) where
  abbrev lean : Profile
  lean = record { labels = labels_in profile; keys = staying stays (keys_in profile) }

  lean_size : length (profile_written (second_in profile) lean) ≤ length profile
  unfolding profile_written entries_written labels_in keys_in second_in
  lean_size =
      let all = read_size profile in
      let part = staying_size stays (profile_in profile).keys in
      let L : List ℕ = flatten (map label_bytes (profile_in profile).labels) in
      let K : List ℕ = flatten (map key_bytes (profile_in profile).keys) in
      let M : List ℕ = flatten (map key_bytes (staying stays (profile_in profile).keys)) in
      omega (
        arith,
        length-append L K,
        length-append L M,
        length-append (edition_written (has_edition profile)) (L ++ K),
        length-append (edition_written (has_edition profile)) (L ++ M),
      )

  lean_fits : ProfileFits (second_in profile) lean
  unfolding labels_in keys_in
  lean_fits =
      let a = profile_accepts profile sound in
      record {
        labels = a.good.labels;
        keys = staying_each stays (profile_in profile).keys a.good.keys;
        different = staying_different stays a.good.different;
        few = let h = a.good.few in let f = staying_few stays (profile_in profile).keys in omega arith;
        size = let h = a.size in let l = lean_size in omega arith;
      }

  is_written : lean_profile profile stays ≡ profile_written (second_in profile) lean
  unfolding lean_profile
  is_written = refl

  -- no more bytes than the old profile
  pub lean_shorter : length (lean_profile profile stays) ≤ length profile
  lean_shorter = subst (λ (l : List ℕ). length l ≤ length profile) (sym is_written) lean_size

  -- "The result is a profile": accepted
  pub lean_accepted : (profile_refusal (lean_profile profile stays)).number ≡ 0
  lean_accepted = ap (λ (l : List ℕ). (profile_refusal l).number) is_written ∙ ap (λ (r : Refusal). r.number) (profile_written_sound (second_in profile) lean lean_fits)

  -- of the same edition
  pub lean_edition : second_in (lean_profile profile stays) ≡ second_in profile
  unfolding second_in
  lean_edition = ap has_edition is_written ∙ (profile_walked_written (has_edition profile) lean lean_fits).0

  lean_in : profile_in (lean_profile profile stays) ≡ lean
  lean_in = ap profile_in is_written ∙ profile_in_written (second_in profile) lean lean_fits

  -- "with the same labels"
  pub lean_labels : labels_in (lean_profile profile stays) ≡ labels_in profile
  unfolding labels_in
  lean_labels = ap (λ (p : Profile). p.labels) lean_in

  -- .. and the keys that stay
  pub lean_keys : keys_in (lean_profile profile stays) ≡ staying stays (keys_in profile)
  unfolding keys_in
  lean_keys = ap (λ (p : Profile). p.keys) lean_in

  -- A key of the old profile may be asked of the reduced one
  module _ (n : ℕ) (key : Key) (stands : get_elem? (keys_in profile) n ≡ some key) where
    key_good : GoodKey (labels_in profile) in_profile key
    key_good = Each-nth n (accepted_keys profile sound) stands

    pub dropped_asked : (question_refusal (labels_in (lean_profile profile stays)) (key_bytes key)).number ≡ 0
    dropped_asked =
        ap (λ (ls : List Label). (question_refusal ls (key_bytes key)).number) lean_labels
        ∙ ap (λ (r : Refusal). r.number) (question_written_sound (labels_in profile) key key_good)

    pub dropped_is : question_in (key_bytes key) ≡ key
    dropped_is = question_in_written (labels_in profile) key key_good

    -- "a proof for each dropped key from the final keys": it is implied by them
    pub dropped_implied : Reduction (second_in profile) (labels_in profile) [] (keys_in profile) stays
        → Implied (second_in (lean_profile profile stays)) (labels_in (lean_profile profile stays)) (keys_in (lean_profile profile stays)) (question_in (key_bytes key))
    dropped_implied r =
        subst (λ (b : Bool). Implied b (labels_in (lean_profile profile stays)) (keys_in (lean_profile profile stays)) (question_in (key_bytes key))) (sym lean_edition)
        (subst (λ (ls : List Label). Implied (second_in profile) ls (keys_in (lean_profile profile stays)) (question_in (key_bytes key))) (sym lean_labels)
        (subst (λ (ks : List Key). Implied (second_in profile) (labels_in profile) ks (question_in (key_bytes key))) (sym lean_keys)
        (subst (Implied (second_in profile) (labels_in profile) (staying stays (keys_in profile))) (sym dropped_is) (final_implies (second_in profile) (labels_in profile) r n stands))))
