-- Counting one input after the other: a tally that each input was added to is the report over the list of those inputs.
use Rattle.std.specs.Prelude.{ℕ, zero, suc, ◌<◌, ◌≤◌, ◌≡◌, refl, List, [], ◌∷◌, ◌++◌, length, get_or, replicate}
use Rattle.std.proofs.Common.{sym, ◌∙◌, ap, subst, arith, lt-ltb, ext_get_or}
use Rattle.std.proofs.Math.Option.{some-injective}
use Rattle.meaning.specs.Keys.{Key}
use Rattle.meaning.specs.Refusals.{Refusal, first_refusal, profile_refusal, answer_refusal}
use Rattle.meaning.specs.Operations.{Answer, Unless, choose, refused_by, filled, refused, reported, keys_in}
use Rattle.meaning.specs.Tally.{Tally, no_tally, counts_of, bump, Bumped, counts, stays, KeptAt, BrokenAt, RefusedAt, Adds, AddsUnread, ReportsTally}
use Rattle.meaning.specs.Campaign.{Segment, unreadable, segment, Counted, none, KeptBy, BrokenBy, RefusedBy, Unread, Counts, IsReport, report_bytes, list_refusal, Reports}
use Rattle.theory_records.specs.Profiles.{refusal_none}
use Rattle.theory_answers.specs.Unique.{unless_unique}
use Rattle.theory_answers.specs.Refusing.{sound_more, sound_end, answer_large}
use Rattle.theory_campaign.specs.Reports.{counted_snoc, counted_snoc_not, counted_at_most}

pub bump_more : (n : ℕ) → n < 65535 → bump n ≡ suc n
unfolding bump
bump_more n h = rw (lt-ltb n 65535 h)

pub bumped_unique : {Q : Type 0} {old m n : ℕ} → Bumped Q old m → Bumped Q old n → m ≡ n
bumped_unique (counts q e) (counts r f) = e ∙ sym f
bumped_unique (counts q e) (stays r f) = absurd (r q)
bumped_unique (stays q e) (counts r f) = absurd (q r)
bumped_unique (stays q e) (stays r f) = e ∙ sym f

tally_eq : (r s : Tally) → r.kept ≡ s.kept → r.broken ≡ s.broken → r.refused ≡ s.refused → r.unread ≡ s.unread → r ≡ s
tally_eq r s k b f u = λ i. record { kept = k i; broken = b i; refused = f i; unread = u i }

-- each of them fixes the tally
pub adds_unique : (profile tree : List ℕ) (t r s : Tally) → Adds profile tree t r → Adds profile tree t s → r ≡ s
adds_unique profile tree t r s p q =
    tally_eq r s
    (ext_get_or 0 r.kept s.kept (p.kept_long ∙ sym q.kept_long) (λ i h. bumped_unique (p.kept i) (q.kept i)))
    (ext_get_or 0 r.broken s.broken (p.broken_long ∙ sym q.broken_long) (λ i h. bumped_unique (p.broken i) (q.broken i)))
    (ext_get_or 0 r.refused s.refused (p.refused_long ∙ sym q.refused_long) (λ i h. bumped_unique (p.refused i) (q.refused i)))
    (p.unread ∙ sym q.unread)

pub adds_unread_unique : (t r s : Tally) → AddsUnread t r → AddsUnread t s → r ≡ s
adds_unread_unique t r s p q =
    tally_eq r s (p.kept ∙ sym q.kept) (p.broken ∙ sym q.broken) (p.refused ∙ sym q.refused) (p.unread ∙ sym q.unread)

-- The tally of a list of inputs
unfoldable pub Tallied : List ℕ → List Segment → Tally → Type 0
Tallied profile segments t = IsReport profile segments (counts_of t)

zeros_at : (k n : ℕ) → ◌≡◌ {A = ℕ} 0 (get_or (replicate k 0) n 0)
zeros_at zero n = refl
zeros_at (suc k) zero = refl
zeros_at (suc k) (suc n) = zeros_at k n

pub tallied_none : (profile : List ℕ) → Tallied profile [] no_tally
unfolding Tallied counts_of
tallied_none profile =
    record {
      kept = λ n key e. subst (λ (k : ℕ). Counted (KeptBy profile key) [] k) (zeros_at 64 n) none;
      broken = λ n key e. subst (λ (k : ℕ). Counted (BrokenBy profile key) [] k) (zeros_at 64 n) none;
      refused = λ n. subst (λ (k : ℕ). Counted (RefusedBy profile n) [] k) (zeros_at 20 n) none;
      unread = none;
    }

-- one input more, where the statement of the count is the statement of the input
bumped_snoc : {Q : Segment → Type 0} {W : Type 0} (s : List Segment) (x : Segment) (old new : ℕ) → (W → Q x) → (Q x → W) → length s < 65535 → Counted Q s old
    → Bumped W old new → Counted Q (s ++ (x ∷ [])) new
bumped_snoc {Q} s x old new f g small c (counts w e) =
    let h = counted_at_most c in
    subst (λ (k : ℕ). Counted Q (s ++ (x ∷ [])) k) (sym (e ∙ bump_more old (omega arith))) (counted_snoc x c (f w))
bumped_snoc {Q} s x old new f g small c (stays w e) = subst (λ (k : ℕ). Counted Q (s ++ (x ∷ [])) k) (sym e) (counted_snoc_not x c (λ q. w (g q)))

pub tallied_segment : (profile tree : List ℕ) (s : List Segment) (t r : Tally) → (profile_refusal profile).number ≡ 0 → Tallied profile s t → length s < 65535
    → Adds profile tree t r → Tallied profile (s ++ (segment tree ∷ [])) r
unfolding Tallied counts_of
tallied_segment profile tree s t r e p small a =
    record {
      kept =
          λ n key q.
          bumped_snoc s (segment tree) (get_or t.kept n 0) (get_or r.kept n 0)
          (λ (w : KeptAt profile tree n). subst (λ (k : Key). KeptBy profile k (segment tree)) (some-injective _ _ (sym w.stands ∙ q)) w.is)
          (λ w. record { sound = e; key = key; stands = q; is = w }) small (p.kept n key q) (a.kept n);
      broken =
          λ n key q.
          bumped_snoc s (segment tree) (get_or t.broken n 0) (get_or r.broken n 0)
          (λ (w : BrokenAt profile tree n). subst (λ (k : Key). BrokenBy profile k (segment tree)) (some-injective _ _ (sym w.stands ∙ q)) w.is)
          (λ w. record { sound = e; key = key; stands = q; is = w }) small (p.broken n key q) (a.broken n);
      refused =
          λ n.
          bumped_snoc s (segment tree) (get_or t.refused n 0) (get_or r.refused n 0) (λ (w : RefusedAt profile tree n). w.is)
          (λ w. record { sound = e; is = w }) small (p.refused n) (a.refused n);
      unread = subst (λ (k : ℕ). Counted Unread (s ++ (segment tree ∷ [])) k) (sym a.unread) (counted_snoc_not (segment tree) p.unread not_unread);
    }
  where
    not_unread : Unread (segment tree) → ⊥
    not_unread = unfold Unread in λ h. h

pub tallied_unread : (profile : List ℕ) (s : List Segment) (t r : Tally) → Tallied profile s t → length s < 65535 → AddsUnread t r
    → Tallied profile (s ++ (unreadable ∷ [])) r
unfolding Tallied counts_of KeptBy BrokenBy RefusedBy Unread
tallied_unread profile s t r p small a =
    let h = counted_at_most p.unread in
    record {
      kept =
          λ n key q.
          subst (λ (l : List ℕ). Counted (KeptBy profile key) (s ++ (unreadable ∷ [])) (get_or l n 0)) (sym a.kept) (counted_snoc_not unreadable (p.kept n key q) (λ w. w));
      broken =
          λ n key q.
          subst (λ (l : List ℕ). Counted (BrokenBy profile key) (s ++ (unreadable ∷ [])) (get_or l n 0)) (sym a.broken) (counted_snoc_not unreadable (p.broken n key q) (λ w. w));
      refused =
          λ n.
          subst (λ (l : List ℕ). Counted (RefusedBy profile n) (s ++ (unreadable ∷ [])) (get_or l n 0)) (sym a.refused) (counted_snoc_not unreadable (p.refused n) (λ w. w));
      unread =
          subst (λ (k : ℕ). Counted Unread (s ++ (unreadable ∷ [])) k) (sym (a.unread ∙ bump_more t.unread (omega arith))) (counted_snoc unreadable p.unread tt);
    }

pub reports_tally_unique : (list profile : List ℕ) (t : Tally) (buffer : List ℕ) (a b : Answer) → ReportsTally list profile t buffer a
    → ReportsTally list profile t buffer b → a ≡ b
unfolding ReportsTally
reports_tally_unique list profile t buffer a b = unless_unique _ _ _ (λ x y p q. p ∙ sym q) a b

pub unless_map : (rs : List Refusal) (buffer : List ℕ) (P Q : Answer → Type 0) (a : Answer) → ((first_refusal rs).number ≡ 0 → P a → Q a) → Unless rs buffer P a
    → Unless rs buffer Q a
unfolding Unless choose
unless_map rs buffer P Q a f u = go (first_refusal rs).number refl u
  where
    go : (n : ℕ) → (first_refusal rs).number ≡ n → choose n (P a) (a ≡ refused_by (first_refusal rs) buffer) → choose n (Q a) (a ≡ refused_by (first_refusal rs) buffer)
    go zero e u = f e u
    go (suc n) e u = u

-- .. is the report of the inputs that were counted, where neither list nor profile is refused
pub campaign_right : (list profile : List ℕ) (segments : List Segment) (t : Tally) (buffer : List ℕ) (a : Answer)
    → ((list_refusal list).number ≡ 0 → (profile_refusal profile).number ≡ 0 → Tallied profile segments t) → ReportsTally list profile t buffer a
    → Reports list profile segments buffer a
unfolding ReportsTally Reports Tallied
campaign_right list profile segments t buffer a tallied u =
    unless_map (answer_refusal buffer ∷ list_refusal list ∷ profile_refusal profile ∷ []) buffer
    (λ answer. answer ≡ filled reported (report_bytes (length (keys_in profile)) (counts_of t)) buffer)
    (λ answer. (c : Counts) × IsReport profile segments c × (answer ≡ filled reported (report_bytes (length (keys_in profile)) c) buffer)) a
    (λ e p. let s = both e in (counts_of t, tallied s.0 s.1, p)) u
  where
    both : (first_refusal (answer_refusal buffer ∷ list_refusal list ∷ profile_refusal profile ∷ [])).number ≡ 0
        → ((list_refusal list).number ≡ 0) × ((profile_refusal profile).number ≡ 0)
    both e =
        let one = refusal_none _ _ e in
        let two = refusal_none _ _ one.1 in
        (two.0, (refusal_none _ _ two.1).0)

-- where a report is refused though the buffer has room, list or profile is
pub stopped_by_inputs : (list profile : List ℕ) (t : Tally) (buffer : List ℕ) (r : Refusal) (after : List ℕ) → 65536 ≤ length buffer
    → ReportsTally list profile t buffer (refused_by r after) → (list_refusal list).number ≡ 0 → (profile_refusal profile).number ≡ 0 → ⊥
unfolding ReportsTally Unless choose filled refused_by
stopped_by_inputs list profile t buffer r after room u l p =
    go (first_refusal (answer_refusal buffer ∷ list_refusal list ∷ profile_refusal profile ∷ [])).number
    (sound_more _ _ (answer_large buffer room) (sound_more _ _ l (sound_more _ _ p sound_end))) u
  where
    go : (n : ℕ) → n ≡ 0
        → choose n (refused_by r after ≡ filled reported (report_bytes (length (keys_in profile)) (counts_of t)) buffer)
        (refused_by r after ≡ refused_by (first_refusal (answer_refusal buffer ∷ list_refusal list ∷ profile_refusal profile ∷ [])) buffer)
        → ⊥
    go zero e q =
        let v : refused ≡ reported = ap (λ (a : Answer). a.verdict) q in
        let z : ◌≡◌ {A = ℕ} 0 1 = cc in
        absurd (omega arith)
    go (suc n) e q = absurd (omega arith)
