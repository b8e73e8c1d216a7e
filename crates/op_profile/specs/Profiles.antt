-- Rewriting a profile and looking up a body.
use Rattle.std.specs.Prelude.{ℕ, zero, suc, ◌≤◌, ◌<◌, ◌≡◌, refl, List, [], length}
use Rattle.std.proofs.Common.{sym, ap}
use Rattle.meaning.specs.Records.{record_body}
use Rattle.meaning.specs.Refusals.{Refusal, sound, profile_refusal}
use Rattle.meaning.specs.Operations.{Rewrites, refused_by, filled, rewritten, body_at, or_nothing, records_from, second_in}
use Rattle.theory_records.specs.Bytes.{Bytes}
use Rattle.theory_records.specs.Profiles.{profile_accepts, profile_written_lem}
use Rattle.theory_answers.specs.Refusing.{unless_small, unless_sound, sound_more, sound_end, answer_large, profile_settled, named_refuses, sound_number}

-- 14, before all else
pub rewrite_small : (profile buffer : List ℕ) → length buffer < 65536 → Rewrites profile buffer (refused_by (record { number = 14; input = 4; place = 0 }) buffer)
unfolding Rewrites
rewrite_small profile buffer h = unless_small _ buffer _ h

-- "profiles read and written back are the same bytes": what an accepted profile says, written, is the profile
pub rewrite_accepted : (profile buffer : List ℕ) → Bytes profile → 65536 ≤ length buffer → sound ≡ profile_refusal profile
    → Rewrites profile buffer (filled rewritten profile buffer)
unfolding Rewrites second_in
rewrite_accepted profile buffer small h e =
    unless_sound _ buffer _ _ (sound_more _ _ (answer_large buffer h) (sound_more _ _ (sound_number e) sound_end))
    (ap (λ (bytes : List ℕ). filled rewritten bytes buffer) (sym (profile_written_lem profile small (profile_accepts profile (sound_number e)))))

no_body : (n : ℕ) (body : List ℕ) → (n ≡ 0 → ⊥) → [] ≡ or_nothing n body
unfolding or_nothing
no_body zero body h = absurd (h refl)
no_body (suc n) body h = refl

-- a refused profile has no body to give
pub body_refused : (profile : List ℕ) (n : ℕ) (r : Refusal) → profile_refusal profile ≡ r → 0 < r.input → [] ≡ body_at profile n
unfolding body_at
body_refused profile n r e named = no_body (profile_refusal profile).number _ (named_refuses r (profile_refusal profile) (profile_settled profile) (sym e) named)

pub body_accepted : (profile : List ℕ) (n : ℕ) → sound ≡ profile_refusal profile → record_body (records_from n profile) ≡ body_at profile n
unfolding body_at or_nothing
body_accepted profile n e = ap (λ (r : Refusal). or_nothing r.number (record_body (records_from n profile))) e
