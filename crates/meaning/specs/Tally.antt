-- The calls by which a campaign is counted: document 02, request 12. The library sees no file: it takes one segment's bytes at a time and a tally by
-- value. That these tallies come to `Campaign.Reports` is a theorem (`theory_campaign.Tallies.campaign_right`).
use Rattle.std.specs.Prelude.{ℕ, suc, ◌≡◌, cond, List, [], ◌∷◌, ltb, length, get_or, replicate}
use Rattle.std.proofs.Math.Option.{some}
use Rattle.std.proofs.Math.ListN.{get_elem?}
use Rattle.meaning.specs.Keys.{Key}
use Rattle.meaning.specs.Refusals.{profile_refusal, answer_refusal}
use Rattle.meaning.specs.Operations.{Answer, Unless, filled, reported, keys_in}
use Rattle.meaning.specs.Campaign.{segment, KeptBy, BrokenBy, RefusedBy, Counts, report_bytes, list_refusal}

-- The state of a campaign: a count for each key number, for each refusal number, and of the unreadable names
pub record Tally : Type 0 where
  pub kept : List ℕ
  pub broken : List ℕ
  pub refused : List ℕ
  pub unread : ℕ

abbrev pub no_tally : Tally
no_tally = record { kept = replicate 64 0; broken = replicate 64 0; refused = replicate 20 0; unread = 0 }

unfoldable pub counts_of : Tally → Counts
counts_of t =
    record {
      kept = λ (n : ℕ). get_or t.kept n 0;
      broken = λ (n : ℕ). get_or t.broken n 0;
      refused = λ (n : ℕ). get_or t.refused n 0;
      unread = t.unread;
    }

-- one more, up to what two bytes hold
unfoldable pub bump : ℕ → ℕ
bump n = cond (ltb n 65535) (suc n) n

-- a count after one input: one more where the statement holds of it, else the same
pub data Bumped (Q : Type 0) (old new : ℕ) : Type 0 where
  counts : Q → new ≡ bump old → Bumped Q old new
  stays : (Q → ⊥) → new ≡ old → Bumped Q old new

-- the key of this number is kept, is broken; the tree is refused by this number. Nothing of it holds with a refused profile
pub record KeptAt (profile tree : List ℕ) (n : ℕ) : Type 0 where
  pub sound : (profile_refusal profile).number ≡ 0
  pub key : Key
  pub stands : get_elem? (keys_in profile) n ≡ some key
  pub is : KeptBy profile key (segment tree)

pub record BrokenAt (profile tree : List ℕ) (n : ℕ) : Type 0 where
  pub sound : (profile_refusal profile).number ≡ 0
  pub key : Key
  pub stands : get_elem? (keys_in profile) n ≡ some key
  pub is : BrokenBy profile key (segment tree)

pub record RefusedAt (profile tree : List ℕ) (n : ℕ) : Type 0 where
  pub sound : (profile_refusal profile).number ≡ 0
  pub is : RefusedBy profile n (segment tree)

-- The tally after one segment
pub record Adds (profile tree : List ℕ) (t r : Tally) : Type 0 where
  pub kept : (n : ℕ) → Bumped (KeptAt profile tree n) (get_or t.kept n 0) (get_or r.kept n 0)
  pub broken : (n : ℕ) → Bumped (BrokenAt profile tree n) (get_or t.broken n 0) (get_or r.broken n 0)
  pub refused : (n : ℕ) → Bumped (RefusedAt profile tree n) (get_or t.refused n 0) (get_or r.refused n 0)
  pub unread : r.unread ≡ t.unread
  pub kept_long : length r.kept ≡ length t.kept
  pub broken_long : length r.broken ≡ length t.broken
  pub refused_long : length r.refused ≡ length t.refused

-- .. and after a name that cannot be read
pub record AddsUnread (t r : Tally) : Type 0 where
  pub kept : r.kept ≡ t.kept
  pub broken : r.broken ≡ t.broken
  pub refused : r.refused ≡ t.refused
  pub unread : r.unread ≡ bump t.unread

-- What is printed for a tally
unfoldable pub ReportsTally : (list profile : List ℕ) (t : Tally) (buffer : List ℕ) → Answer → Type 0
ReportsTally list profile t buffer =
    Unless (answer_refusal buffer ∷ list_refusal list ∷ profile_refusal profile ∷ []) buffer
    (λ answer. answer ≡ filled reported (report_bytes (length (keys_in profile)) (counts_of t)) buffer)
