-- What the two operations of request 3 answer, a law for each return.
use Rattle.std.specs.Prelude.{ℕ, zero, suc, ◌≤◌, ◌<◌, ◌≡◌, ◌⊎◌, Bool, false, length}
use Rattle.std.proofs.Math.Path.{refl, ap, subst}
use Rattle.std.proofs.Common.{sym, ◌∙◌, inl, inr, arith}
use Rattle.std.proofs.Math.Logic.{⊎_elim}
use mathlib.Core.List.{List, [], ◌∷◌}
use Rattle.std.proofs.Math.Option.{some}
use Rattle.std.proofs.Math.ListN.{get_elem?}
use Rattle.meaning.specs.Keys.{Key}
use Rattle.meaning.specs.Records.{key_bytes}
use Rattle.meaning.specs.Refusals.{Refusal, first_refusal, answer_refusal, profile_refusal, question_refusal}
use Rattle.meaning.specs.Operations.{Answer, Verdict, choose, refused_by, filled, refused, implied, reduced, drop_proved, Decides, second_in, labels_in, keys_in, ProofWritten, TreeWritten}
use Rattle.meaning.specs.Reduction.{Reduction, lean_profile, dropped_numbers, reduce_refusals, Reduces, DropProved, NotDropped, ProvesDropped}
use Rattle.theory_answers.specs.Refusing.{choose_refused, unless_says, unless_sound, unless_refused, unless_small, first_sound, first_passes, first_stops, sound_more, sound_end, answer_small, answer_large, profile_settled, first_named}
use Rattle.theory_reduce.specs.LeanProfile.{lean_accepted, dropped_asked, dropped_implied}

choose_sound : (n : ℕ) (Q R : Type 0) → n ≡ 0 → Q → choose n Q R
unfolding choose
choose_sound zero Q R h q = q
choose_sound (suc n) Q R h q = absurd (omega arith)

refused_implied : refused ≡ implied → ⊥
refused_implied e = let z : ◌≡◌ {A = ℕ} 0 1 = cc in omega arith

module _ (profile buffer : List ℕ) where
  -- the refusal that stands first is the answer, and no key is dropped
  by_first : (r : Refusal) → first_refusal (reduce_refusals profile buffer) ≡ r → 0 < r.input → Reduces profile buffer (refused_by r buffer) []
  unfolding Reduces
  by_first r e named =
      choose_refused (first_refusal (reduce_refusals profile buffer)).number _ _
      (λ z. let i : r.input ≡ 0 = ap (λ (x : Refusal). x.input) (sym e ∙ first_sound (reduce_refusals profile buffer) z) in omega arith)
      (ap (λ (x : Refusal). refused_by x buffer) (sym e), refl)

  small_first : length buffer < 65536 → first_refusal (reduce_refusals profile buffer) ≡ record { number = 14; input = 4; place = 0 }
  small_first h =
      let e = answer_small buffer h in
      first_stops (answer_refusal buffer) (profile_refusal profile ∷ [])
      (λ z. let n : 14 ≡ 0 = sym (ap (λ (r : Refusal). r.number) e) ∙ z in omega arith) ∙ e

  profile_first : 65536 ≤ length buffer → (r : Refusal) → r ≡ profile_refusal profile → 0 < r.input
      → first_refusal (reduce_refusals profile buffer) ≡ r
  profile_first room r e named =
      first_passes (answer_refusal buffer) (profile_refusal profile ∷ []) (answer_large buffer room)
      ∙ first_named r (profile_refusal profile) [] (profile_settled profile) e named

  both_sound : 65536 ≤ length buffer → (profile_refusal profile).number ≡ 0 → (first_refusal (reduce_refusals profile buffer)).number ≡ 0
  both_sound room sound =
      sound_more (answer_refusal buffer) (profile_refusal profile ∷ []) (answer_large buffer room) (sound_more (profile_refusal profile) [] sound sound_end)

  -- 14, before all else
  pub reduces_small : length buffer < 65536 → Reduces profile buffer (refused_by (record { number = 14; input = 4; place = 0 }) buffer) []
  reduces_small h = by_first _ (small_first h) (omega arith)

  pub reduces_refused : 65536 ≤ length buffer → (r : Refusal) → r ≡ profile_refusal profile → 0 < r.input
      → Reduces profile buffer (refused_by r buffer) []
  reduces_refused room r e named = by_first r (profile_first room r e named) named

  -- the reduced profile, and behind its bytes the buffer as it was
  pub reduces_filled : 65536 ≤ length buffer → (profile_refusal profile).number ≡ 0 → (stays : List Bool)
      → Reduction (second_in profile) (labels_in profile) [] (keys_in profile) stays
      → Reduces profile buffer (filled reduced (lean_profile profile stays) buffer) (dropped_numbers stays)
  unfolding Reduces
  reduces_filled room sound stays r =
      choose_sound (first_refusal (reduce_refusals profile buffer)).number _ _ (both_sound room sound)
      (record { stays = stays; reduction = r; answered = refl; numbers_are = refl })

  module _ (n : ℕ) where
    pub proves_small : length buffer < 65536 → ProvesDropped profile n buffer (refused_by (record { number = 14; input = 4; place = 0 }) buffer)
    unfolding ProvesDropped
    proves_small h = unless_small (profile_refusal profile ∷ []) buffer _ h

    pub proves_refused : 65536 ≤ length buffer → (r : Refusal) → r ≡ profile_refusal profile → 0 < r.input
        → ProvesDropped profile n buffer (refused_by r buffer)
    unfolding ProvesDropped
    proves_refused room r e named = unless_refused (reduce_refusals profile buffer) buffer _ r (profile_first room r e named) named

    module _ (room : 65536 ≤ length buffer) (sound : (profile_refusal profile).number ≡ 0) (stays : List Bool)
        (reduction : Reduction (second_in profile) (labels_in profile) [] (keys_in profile) stays) where
      below : (a : Answer) → DropProved profile n buffer a ⊎ NotDropped profile n buffer a → ProvesDropped profile n buffer a
      unfolding ProvesDropped
      below a q = unless_sound (reduce_refusals profile buffer) buffer _ a (both_sound room sound) q

      -- "for a number not dropped a call gives 0 bytes"
      pub proves_none : (get_elem? stays n ≡ some false → ⊥) → ProvesDropped profile n buffer (filled drop_proved [] buffer)
      proves_none there = below _ (inr (record { stays = stays; reduction = reduction; is_there = there; answered = refl }))

      module _ (key : Key) (stands : get_elem? (keys_in profile) n ≡ some key) where
        -- the decider's proof over the reduced profile is the proof of the dropped key
        pub proves_proof : get_elem? stays n ≡ some false → {a : Answer} → (w : ProofWritten (lean_profile profile stays) (key_bytes key) buffer a)
            → ProvesDropped profile n buffer (filled drop_proved w.bytes buffer)
        proves_proof gone w =
            below _
            (inl
            (record {
              stays = stays;
              reduction = reduction;
              key = key;
              stands = stands;
              is_dropped = gone;
              bytes = w.bytes;
              checked = w.checked;
              fits = w.fits;
              answered = refl;
            }))

        -- .. and it never says that the key is not implied
        never_tree : {a : Answer} → TreeWritten (lean_profile profile stays) (key_bytes key) buffer a → ⊥
        never_tree t = t.fails (dropped_implied profile sound stays n key stands reduction)

        pub lean_decided : (a : Answer) → Decides (lean_profile profile stays) (key_bytes key) buffer a
            → ProofWritten (lean_profile profile stays) (key_bytes key) buffer a
        unfolding Decides
        lean_decided a d =
            ⊎_elim (λ w. w) (λ (t : TreeWritten (lean_profile profile stays) (key_bytes key) buffer a). absurd (never_tree t))
            (unless_says _ buffer _ a
            (sound_more (answer_refusal buffer) _ (answer_large buffer room)
            (sound_more (profile_refusal (lean_profile profile stays)) _ (lean_accepted profile sound stays)
            (sound_more (question_refusal (labels_in (lean_profile profile stays)) (key_bytes key)) [] (dropped_asked profile sound stays n key stands) sound_end)))
            d)

        -- so many bytes of the buffer at the end, as the decider filled it
        pub proves_used : get_elem? stays n ≡ some false → (v : Verdict) (used : ℕ) (after : List ℕ)
            → Decides (lean_profile profile stays) (key_bytes key) buffer
            (record { verdict = v; number = 0; input = 0; place = 0; used = used; buffer = after; witness = [] })
            → ProvesDropped profile n buffer
            (record { verdict = drop_proved; number = 0; input = 0; place = 0; used = used; buffer = after; witness = [] })
        unfolding filled
        proves_used gone v used after d =
            let w = lean_decided _ d in
            subst (ProvesDropped profile n buffer)
            (ap (λ (a : Answer). record { verdict = drop_proved; number = 0; input = 0; place = 0; used = a.used; buffer = a.buffer; witness = [] })
            (sym w.answered))
            (proves_proof gone w)

        pub never_refused : (r : Refusal) (after : List ℕ) → Decides (lean_profile profile stays) (key_bytes key) buffer (refused_by r after) → ⊥
        unfolding refused_by filled
        never_refused r after d = refused_implied (ap (λ (a : Answer). a.verdict) (lean_decided _ d).answered)
