-- The labels of a profile stand behind its edition's record, one record each: what is read there is what the profile says.
use Rattle.std.specs.Prelude.{ℕ, suc, ◌≤◌, ◌<◌, ◌≡◌, length, drop}
use Rattle.std.proofs.Math.Path.{refl}
use Rattle.std.proofs.Common.{sym, subst, ap, ◌∙◌, ⊎_elim, arith}
use mathlib.Core.List.{List, [], ◌∷◌, ◌++◌, cons≢nil}
use Rattle.meaning.specs.Paths.{Label}
use Rattle.meaning.specs.Records.{record_length, record_body, read_label, key_in}
use Rattle.meaning.specs.Refusals.{first_of, Profile, no_profile, profile_tests, profile_next, behind_edition, first_entry, profile_walked, profile_in}
use Rattle.meaning.specs.Operations.{records_from, labels_in}
use Rattle.theory_records.specs.Walks.{Stopped, walk_keeps}
use Rattle.theory_records.specs.Heads.{body_length}
use Rattle.theory_records.specs.Encodings.{ends_label}
use Rattle.theory_records.specs.Judged.{LabelAccepted, KeyRecordAccepted, profile_accepted}
use Rattle.theory_records.specs.Bodies.{records_next}
use Rattle.theory_records.specs.Profiles.{length_more, next_label, next_key, profile_long}
use Rattle.read_entry.specs.Labels.{labels_at}
use Rattle.read_entry.specs.Repeats.{Standing, none, standing_more}
use Rattle.read_inputs.specs.LabelWalks.{labels_more}

-- What holds of the labels read so far: they stand at the front, and before the first key the walk is behind them
pub record LabelsStand (bytes : List ℕ) (n : ℕ) (p : Profile) (rest : List ℕ) : Type 0 where
  pub are : labels_at (length p.labels) bytes ≡ p.labels
  pub records : Standing 6 (length p.labels) bytes
  pub here : p.keys ≡ [] → rest ≡ records_from (length p.labels) bytes

label_stands : (bytes : List ℕ) (n : ℕ) (p : Profile) (l : List ℕ) → LabelsStand bytes n p l → LabelAccepted p l
    → LabelsStand bytes (suc n) (record { labels = p.labels ++ (read_label (record_body l) ∷ []); keys = p.keys }) (drop (record_length l) l)
label_stands bytes n p l g a =
    record {
      are =
          subst (λ (m : ℕ). labels_at m bytes ≡ p.labels ++ (read_label (record_body l) ∷ [])) (sym count)
          (labels_more (length p.labels) bytes ∙ (ap (λ (ls : List Label). ls ++ (read_label (record_body (records_from (length p.labels) bytes)) ∷ [])) g.are
          ∙ ap (λ (r : List ℕ). p.labels ++ (read_label (record_body r) ∷ [])) (sym at)));
      records =
          subst (λ (m : ℕ). Standing 6 m bytes) (sym count)
          (standing_more g.records (subst (λ (r : List ℕ). 6 ≤ record_length r) at six) (subst (λ (r : List ℕ). record_length r ≤ length r) at a.is_whole.within));
      here =
          λ e.
          ap (λ (r : List ℕ). drop (record_length r) r) at ∙ (sym (records_next (length p.labels) bytes) ∙ ap (λ (m : ℕ). records_from m bytes) (sym count));
    }
  where
    count : length (p.labels ++ (read_label (record_body l) ∷ [])) ≡ suc (length p.labels)
    count = length_more p.labels (read_label (record_body l))

    at : l ≡ records_from (length p.labels) bytes
    at = g.here a.before_keys

    six : 6 ≤ record_length l
    six = omega (arith, a.is_whole.long, body_length l a.is_whole.within, ends_label l a.is_whole a.kind)

more_not_none : {A : Type 0} (xs : List A) (x : A) → xs ++ (x ∷ []) ≡ [] → ⊥
more_not_none [] x e = cons≢nil e
more_not_none (y ∷ xs) x e = cons≢nil e

stand_kept : (bytes : List ℕ) (n : ℕ) (p : Profile) (l : List ℕ) → LabelsStand bytes n p l → 0 < length l → first_of (profile_tests p l) ≡ 0
    → LabelsStand bytes (suc n) (profile_next p l) (drop (record_length l) l)
stand_kept bytes n p l g h e =
    ⊎_elim
    (λ (a : LabelAccepted p l). rw (next_label p l a.kind) (label_stands bytes n p l g a))
    (λ (a : KeyRecordAccepted p l).
    rw (next_key p l a.kind)
    (record { are = g.are; records = g.records; here = λ q. absurd (more_not_none p.keys (key_in (record_body l)) q) }))
    (profile_accepted p l e)

at_stop : (bytes : List ℕ) → Stopped profile_tests (LabelsStand (behind_edition bytes)) (profile_walked bytes)
unfolding profile_walked
at_stop bytes =
    walk_keeps profile_tests profile_next (LabelsStand (behind_edition bytes)) profile_long (stand_kept (behind_edition bytes)) (first_entry bytes) no_profile (behind_edition bytes)
    (record { are = unfold labels_at in refl; records = none; here = λ q. unfold records_from in refl })

-- of every profile, as far as it was read
pub profile_labels_are : (bytes : List ℕ) → labels_at (length (labels_in bytes)) (behind_edition bytes) ≡ labels_in bytes
unfolding labels_in profile_in
profile_labels_are bytes = (at_stop bytes).held.are

pub profile_label_records : (bytes : List ℕ) → Standing 6 (length (labels_in bytes)) (behind_edition bytes)
unfolding labels_in profile_in
profile_label_records bytes = (at_stop bytes).held.records
